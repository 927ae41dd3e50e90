-- A text without a plus sign is read as a number by its digits alone.
use Rattle.std.proofs.Common.{◌≡◌, ℕ, ◌<◌, ◌^◌, true, false, cond, List, [], ◌∷◌, drop, slice_index, Result, Ok, Err, ap, subst, arith}
use Rattle.std.specs.Prelude.{◌==◌, OkIff, SomeIff}
use Rattle.std.specs.Result.{result_ok}
use Rattle.std.specs.Char.{digit_value}
use Rattle.std.specs.Str.Parse.{IsNumeral, digits_value, without_leading_plus}
use Rattle.std.proofs.lemmas.Bool.Decides.{Decides-eqb}

-- a plus sign is no digit
plus-first : (c : ℕ) → (c == 43) ≡ true → digit_value c < 10 → ⊥
plus-first c e digit =
    let same : c ≡ 43 = (Decides-eqb c 43).0 e in
    let bad : 36 < 10 = subst (λ x. digit_value x < 10) same digit in
    absurd (omega arith)

pub no_number : (most : ℕ) (text : List ℕ) → (slice_index text 0 == 43) ≡ true → IsNumeral 10 text × (digits_value 10 text < most) → ⊥
no_number most [] e plain = absurd (omega (arith, plain.0.0))
no_number most (c ∷ cs) e plain = plus-first c e plain.0.1.0

no-plus : (text : List ℕ) → (slice_index text 0 == 43) ≡ false → without_leading_plus text ≡ text
no-plus text e = ap (λ b. drop (cond b 1 0) text) e

-- the text is a number below a bound
abbrev IsBelow : ℕ → List ℕ → Type 0
IsBelow most text = IsNumeral 10 text × (digits_value 10 text < most)

by-digits : {E : Type 0} (most : ℕ) (text : List ℕ) (r : Result ℕ E) → OkIff r (IsBelow most text) (digits_value 10 text) → SomeIff (result_ok r) (IsBelow most text) (digits_value 10 text)
by-digits most text (Ok n) h = h
by-digits most text (Err e) h = h

pub plain : {E : Type 0} (most : ℕ) (text : List ℕ) (r : Result ℕ E) → (slice_index text 0 == 43) ≡ false
    → OkIff r (IsBelow most (without_leading_plus text)) (digits_value 10 (without_leading_plus text))
    → SomeIff (result_ok r) (IsBelow most text) (digits_value 10 text)
plain most text r e h = by-digits most text r (subst (λ ds. OkIff r (IsBelow most ds) (digits_value 10 ds)) (no-plus text e) h)
