-- Pids: where they end.
use Rattle.std.proofs.Common.{◌≡◌, ℕ, ◌+◌, ◌<◌, List, [], ◌∷◌, ◌++◌, length, drop, Bool, true, false, not, ◌||◌, ◌&&◌, ◌==◌, nat_lt, cond, Option, Some, None, refl, ap, sym, ◌∙◌, subst, arith, inl, inr}
use Rattle.std.proofs.lemmas.Bool.{and_parts, and_right, and_cases, or_parts, or_from, cond_both, cond-false, eqb-true, eqb-false, ne_eqb, not-true, not-false, not_from_true, not_from_false, ltb-false}
use Rattle.std.proofs.lemmas.List.{drop_at}
use Rattle.def_term.specs.Text.{is_digit}
use Rattle.def_text.specs.Tokens.{IsDigits, has_no_leading_zero}
use Rattle.def_text.specs.Scan.{run_len, closes_pid, begins_zero, pid_number_end}
use Rattle.def_text.proofs.ByteRuns.{run_all, run_parts, Run}

abbrev pub closing : List ℕ → List ℕ
closing rest = 46 ∷ 48 ∷ 62 ∷ rest

abbrev pub guard : ℕ → List ℕ → Bool
guard n bs = (n == 0) || (nat_lt 1 n && begins_zero bs) || not (closes_pid (drop n bs))

zero_ok : (ds tail : List ℕ) → has_no_leading_zero ds ≡ true → 0 < length ds → (nat_lt 1 (length ds) && begins_zero (ds ++ tail)) ≡ false
zero_ok [] tail h some = absurd (omega arith)
zero_ok (d ∷ []) tail h some = refl
zero_ok (d ∷ e ∷ ds) tail h some = and_right (nat_lt 1 (length (d ∷ e ∷ ds))) (d == 48) (not-true (d == 48) h)

passes : (ds rest : List ℕ) → IsDigits ds → has_no_leading_zero ds ≡ true → guard (length ds) (ds ++ closing rest) ≡ false
passes ds rest h plain =
    let tail = closing rest in
    or_from ((length ds == 0) || (nat_lt 1 (length ds) && begins_zero (ds ++ tail))) (not (closes_pid (drop (length ds) (ds ++ tail))))
    (or_from (length ds == 0) (nat_lt 1 (length ds) && begins_zero (ds ++ tail)) (ne_eqb (length ds) 0 (λ e. let s = h.some in omega (arith, s, e))) (zero_ok ds tail plain h.some))
    (not_from_true (closes_pid (drop (length ds) (ds ++ tail))) (ap closes_pid (drop_at ds tail (length ds) refl)))

pub pid_closes : (ds rest : List ℕ) → IsDigits ds → has_no_leading_zero ds ≡ true → pid_number_end (ds ++ closing rest) ≡ Some (length ds + 5)
pid_closes ds rest h plain =
    ap (λ n. cond (guard n (ds ++ closing rest)) None (Some (n + 5))) (run_all is_digit ds (closing rest) h.all refl)
    ∙ cond-false (guard (length ds) (ds ++ closing rest)) None (Some (length ds + 5)) (passes ds rest h plain)

pub record PidEnds (bs : List ℕ) (m : ℕ) : Type 0 where
  pub digits : List ℕ
  pub rest : List ℕ
  pub split : bs ≡ digits ++ closing rest
  pub len : m ≡ length digits + 5
  pub all : IsDigits digits
  pub plain : has_no_leading_zero digits ≡ true

abbrev pub PidAt : List ℕ → Option ℕ → Type 0
PidAt bs None = Unit {0}
PidAt bs (Some m) = PidEnds bs m

closes_parts : (bs : List ℕ) → closes_pid bs ≡ true → (xs : List ℕ) × (bs ≡ closing xs)
closes_parts [] h = absurd (cc)
closes_parts (a ∷ []) h = absurd (cc)
closes_parts (a ∷ b ∷ []) h = absurd (cc)
closes_parts (a ∷ b ∷ c ∷ xs) h =
    let two = and_parts ((a == 46) && (b == 48)) (c == 62) h in
    let one = and_parts (a == 46) (b == 48) two.0 in
    let a_is = eqb-true a 46 one.0 in
    let b_is = eqb-true b 48 one.1 in
    let c_is = eqb-true c 62 two.1 in
    (xs, cc)

plain_of : (ds rest : List ℕ) (n : ℕ) → n ≡ length ds → (nat_lt 1 n && begins_zero (ds ++ rest)) ≡ false → has_no_leading_zero ds ≡ true
plain_of [] rest n len h = refl
plain_of (d ∷ []) rest n len h = refl
plain_of (d ∷ e ∷ ds) rest n len h =
    elim (and_cases (nat_lt 1 n) (d == 48) h) [ inl small ↦ let few = ltb-false 1 n small in absurd (omega (arith, few, len)) | inr other ↦ not_from_false (d == 48) other ]

pid_number_sound : (bs : List ℕ) (n : ℕ) → Run is_digit bs n → PidAt bs (cond (guard n bs) None (Some (n + 5)))
pid_number_sound bs n r =
    cond_both (guard n bs) None (Some (n + 5)) (PidAt bs) (λ _. tt)
    (λ g.
    let two = or_parts ((n == 0) || (nat_lt 1 n && begins_zero bs)) (not (closes_pid (drop n bs))) g in
    let one = or_parts (n == 0) (nat_lt 1 n && begins_zero bs) two.0 in
    let len = r.len in
    let behind : drop n bs ≡ r.rest = ap (drop n) r.split ∙ drop_at r.front r.rest n (sym len) in
    let closed = closes_parts r.rest (sym (ap closes_pid behind) ∙ not-false (closes_pid (drop n bs)) two.1) in
    let other = eqb-false n 0 one.0 in
    let some : 0 < length r.front = omega (arith, len, other) in
    record {
      digits = r.front;
      rest = closed.0;
      split = r.split ∙ ap (λ xs. r.front ++ xs) closed.1;
      len = omega (arith, len);
      all = record { some = some; all = r.all };
      plain = plain_of r.front r.rest n len (subst (λ xs. (nat_lt 1 n && begins_zero xs) ≡ false) r.split one.1);
    })

pub pid_sound : (bs : List ℕ) → PidAt bs (pid_number_end bs)
pid_sound bs = pid_number_sound bs (run_len is_digit bs) (run_parts is_digit bs)
