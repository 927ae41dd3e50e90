-- The pid and the kind of a trace message are read of its text.
use Rattle.std.proofs.Common.{◌≡◌, ◌∙◌, ℕ, ◌+◌, ◌<◌, ◌^◌, ◌==◌, ◌&&◌, not, cond, Bool, true, List, [], ◌∷◌, ◌++◌, get_or, length, take, drop, codes, decimal, refl, ap, append_assoc, ne_eqb, arith}
use Rattle.std.specs.List.{list_all, prefix_len}
use Rattle.std.specs.Int.{IsInRange}
use Rattle.std.specs.Str.Parse.{AllDigits, digits_value}
use Rattle.std.proofs.Math.Seq.{take-append_seam, drop-append-add}
use Rattle.std.proofs.lemmas.Bool.{and_parts}
use Rattle.std.proofs.lemmas.Fmt.{digits_decimal}
use Rattle.std.proofs.lemmas.List.Elements.{All-from_get_or}
use Rattle.std.proofs.lemmas.List.Sums.{list_all-from_AllPass}
use Rattle.std.proofs.lemmas.Str.Parse.{IsNumeralModel, numerals_by_value, tells_digits, digit_at}
use Rattle.def_term.specs.Names.{Name}
use Rattle.def_term.specs.Tree.{Tree, Trees}
use Rattle.def_term.specs.Text.{w, atom_text, pid_text, each_after_comma, is_written_bare}
use Rattle.def_formats.specs.Lines.{before_byte, past_byte}
use Rattle.def_formats.specs.Laws.{HasNoComma, message_text, MessageIsRead, KindsHaveNoComma}

abbrev is_other : ℕ → Bool
is_other b = not (b == 44)

comma_at : (xs ys : List ℕ) → HasNoComma xs → prefix_len is_other (xs ++ 44 ∷ ys) ≡ length xs
comma_at [] ys h = refl
comma_at (x ∷ xs) ys h =
    let parts = and_parts (is_other x) (list_all is_other xs) h in
    ap (λ (b : Bool). cond b (1 + prefix_len is_other (xs ++ 44 ∷ ys)) 0) parts.0 ∙ omega (arith, comma_at xs ys parts.1)

before_comma : (xs ys : List ℕ) → HasNoComma xs → before_byte 44 (xs ++ 44 ∷ ys) ≡ xs
before_comma xs ys h = ap (λ n. take n (xs ++ 44 ∷ ys)) (comma_at xs ys h) ∙ take-append_seam xs (44 ∷ ys)

after_comma : (xs ys : List ℕ) → HasNoComma xs → past_byte 44 (xs ++ 44 ∷ ys) ≡ ys
after_comma xs ys h = ap (λ n. drop (n + 1) (xs ++ 44 ∷ ys)) (comma_at xs ys h) ∙ drop-append-add xs (44 ∷ ys) 1

-- ---- the text of a pid

all_in_both : (xs ys : List ℕ) → HasNoComma xs → HasNoComma ys → HasNoComma (xs ++ ys)
all_in_both [] ys h more = more
all_in_both (x ∷ xs) ys h more =
    let parts = and_parts (is_other x) (list_all is_other xs) h in
    ap (λ (b : Bool). b && list_all is_other (xs ++ ys)) parts.0 ∙ all_in_both xs ys parts.1 more

own : IsNumeralModel (AllDigits 10) (digits_value 10)
own = numerals_by_value (AllDigits 10) tells_digits

digit_is_other : (b : ℕ) → IsInRange 48 57 b → is_other b ≡ true
digit_is_other b range = ap not (ne_eqb b 44 (λ e. absurd (omega (arith, e, range.0))))

decimal_so : (n : ℕ) → n < 2 ^ 64 → HasNoComma (decimal n)
decimal_so n small =
    list_all-from_AllPass is_other (decimal n) (All-from_get_or (λ b. is_other b ≡ true) (decimal n) 0 (λ i h. digit_is_other (get_or (decimal n) i 0) (digit_at (decimal n) i (digits_decimal own n small) h)))

pid_so : (p : ℕ) → p < 2 ^ 64 → HasNoComma (pid_text p)
pid_so p small = all_in_both (codes "<0." ++ decimal p) (codes ".0>") (all_in_both (codes "<0.") (decimal p) refl (decimal_so p small)) refl

-- ---- messages

message_apart : (p : ℕ) (kind : Name) (t : Tree) (ts : Trees)
    → message_text p kind t ts ≡ codes "{trace" ++ 44 ∷ (pid_text p ++ 44 ∷ (atom_text kind ++ 44 ∷ ((w t ++ each_after_comma ts) ++ 125 ∷ [])))
unfolding is_written_bare
message_apart p kind t ts = simp append_assoc

pub message_is_read : MessageIsRead
message_is_read p kind t ts small plain =
    let rest : List ℕ = (w t ++ each_after_comma ts) ++ 125 ∷ [] in
    let apart = message_apart p kind t ts in
    let first : past_byte 44 (message_text p kind t ts) ≡ pid_text p ++ 44 ∷ (atom_text kind ++ 44 ∷ rest) =
    ap (past_byte 44) apart ∙ after_comma (codes "{trace") (pid_text p ++ 44 ∷ (atom_text kind ++ 44 ∷ rest)) refl in (
      ap (before_byte 44) first ∙ before_comma (pid_text p) (atom_text kind ++ 44 ∷ rest) (pid_so p small),
      ap (λ l. before_byte 44 (past_byte 44 l)) first ∙ ap (before_byte 44) (after_comma (pid_text p) (atom_text kind ++ 44 ∷ rest) (pid_so p small)) ∙ before_comma (atom_text kind) rest plain,
    )

pub kinds_have_no_comma : KindsHaveNoComma
kinds_have_no_comma = refl
