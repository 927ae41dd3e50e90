-- The written text of a leaf is its token.
use Rattle.std.proofs.Common.{◌≡◌, ◌≢◌, ℕ, ℤ, suc, pos, negsuc, neg_ℤ, ◌+◌, ◌<◌, ◌%◌, ◌^◌, List, [], ◌∷◌, ◌++◌, true, false, not, ◌==◌, codes, decimal, refl, ap, sym, ◌∙◌, arith, inl, inr}
use Rattle.std.proofs.lemmas.Fmt.{decimal_is_IsNumeral, decimal_digit, decimal_by_steps}
use Rattle.std.proofs.lemmas.Bool.{cond_both, and_parts, ltb-true, ne_eqb, not_from_false, not-true, or_parts, cases_lt}
use Rattle.def_term.specs.Tree.{int, atom as name, pid as process}
use Rattle.def_term.specs.Text.{is_digit, is_name, is_name_byte, is_among, reserved_words, is_written_bare, w}
use Rattle.def_text.specs.Tokens.{integer, atom, pid, all_are, is_printable, stops, number, has_no_leading_zero, IsDigits, IsBare, IsQuoted, IsToken}
use Rattle.def_text.specs.Limits.{in_range}
use Rattle.def_text.proofs.Numbers.{own}

decimal_digits : (n : ℕ) → n < 2 ^ 64 → IsDigits (decimal n) × (number (decimal n) ≡ n)
decimal_digits n below =
    let d = decimal_is_IsNumeral n below in
    (record { some = d.0.0; all = own.from (decimal n) d.0.1 }, own.same (decimal n) d.0.1 ∙ d.1)

pub integers : (n : ℤ) (rest : List ℕ) → in_range n ≡ true → stops is_digit rest ≡ true → IsToken (w (int n)) rest (integer n)
integers (pos n) rest fits over = let below = ltb-true n 9223372036854775808 fits in let d = decimal_digits n (omega arith) in (over, inl (d.0, ap pos (sym d.1)))
integers (negsuc n) rest fits over =
    let below = ltb-true n 9223372036854775808 fits in
    let d = decimal_digits (suc n) (omega arith) in
    (over, inr (decimal (suc n), refl, d.0, ap (λ k. neg_ℤ (pos k)) (sym d.1)))

-- the first digit of a number that is not 0 is not 0
abbrev FirstIs : ℕ → List ℕ → Type 0
FirstIs n ds = (d : ℕ) × (more : List ℕ) × (ds ≡ d ∷ more) × (0 < n → d ≢ 48)

first_digit : (n : ℕ) → n < 2 ^ 64 → FirstIs n (decimal n)
first_digit n below = decimal_by_steps FirstIs (λ k small. (48 + k, [], refl, λ some e. omega (arith, some, e))) (λ k ds big h. (h.0, h.1 ++ (48 + k % 10) ∷ [], ap (λ xs. xs ++ (48 + k % 10) ∷ []) h.2, λ some. h.3 (omega (arith, big)))) n below

plain_from : (d : ℕ) (ds : List ℕ) → d ≢ 48 → has_no_leading_zero (d ∷ ds) ≡ true
plain_from d [] h = refl
plain_from d (e ∷ ds) h = not_from_false (d == 48) (ne_eqb d 48 h)

plain_decimal : (n : ℕ) → n < 2 ^ 64 → has_no_leading_zero (decimal n) ≡ true
plain_decimal n below =
    elim (cases_lt n 10) [
      | inl small ↦ ap has_no_leading_zero (decimal_digit n small)
      | inr big ↦ let f = first_digit n below in ap has_no_leading_zero f.2 ∙ plain_from f.0 f.1 (f.3 (omega (arith, big)))
    ]

pub pids : (n : ℕ) (rest : List ℕ) → n < 2 ^ 32 → IsToken (w (process n)) rest (pid n)
pids n rest below = let d = decimal_digits n (omega arith) in (decimal n, record { text = refl; digits = d.0; plain = plain_decimal n (omega arith); value = sym d.1 })

bare_parts : (s : List ℕ) → is_written_bare s ≡ true → (is_name s ≡ true) × (is_among reserved_words s ≡ false)
unfolding is_written_bare
bare_parts s h = let p = and_parts (is_name s) (not (is_among (codes "maybe" ∷ codes "else" ∷ reserved_words) s)) h in (p.0, (or_parts _ (is_among reserved_words s) (or_parts _ (is_among (codes "else" ∷ reserved_words) s) (not-true _ p.1)).1).1)

pub atoms : (s rest : List ℕ) → all_are is_printable s ≡ true → stops is_name_byte rest ≡ true → IsToken (w (name s)) rest (atom s)
atoms s rest printable over =
    cond_both (is_written_bare s) s _ (λ u. IsToken u rest (atom s))
    (λ h. let p = bare_parts s h in let b : IsBare s rest s = record { text = refl; name = p.0; whole = over; free = p.1 } in inl b)
    (λ h. let q : IsQuoted 39 _ s = record { text = refl; printable = printable } in inr q)
