-- Worked rows of texts that are no lists of picks.
use Rattle.std.proofs.Common.{◌≡◌, ◌+◌, ◌<◌, ◌≤◌, ◌/◌, ◌%◌, ◌^◌, ◌==◌, ℕ, zero, suc, List, [], ◌∷◌, ◌++◌, Bool, true, false, if◌then◌else◌, All, codes, decimal, refl, ap, sym, ◌∙◌, arith, append_assoc, append-nil}
use Rattle.std.proofs.lemmas.Fmt.{decimal_digit, decimal_by_steps}
use Rattle.std.proofs.lemmas.Bool.{cond-true, cond-false, ne_eqb}
use Rattle.std.proofs.lemmas.Bool.Decides.{nat_tests}
use Rattle.std.proofs.lemmas.List.Elements.{All-head, All-tail}
use Rattle.def_term.specs.Text.{is_digit}
use Rattle.def_run.specs.Picks.{SpellsPicks, picks_text}

-- where a scan of such a text stands: before a number, after a 0 that begins one, or within another
data Where : Type 0 where
  before zeroed within : Where

-- whether numbers without leading zeros, with one space between each two, can follow
abbrev goes_on : Where → List ℕ → Bool
goes_on before [] = false
goes_on zeroed [] = true
goes_on within [] = true
goes_on before (b ∷ bs) = if b == 48 then goes_on zeroed bs else if is_digit b then goes_on within bs else false
goes_on zeroed (b ∷ bs) = if b == 32 then goes_on before bs else false
goes_on within (b ∷ bs) = if is_digit b then goes_on within bs else if b == 32 then goes_on before bs else false

-- after a number, whichever it was, the same can follow that is no digit
abbrev Follows : List ℕ → Type 0
Follows rest = (goes_on zeroed rest ≡ true) × (goes_on within rest ≡ true)

-- the text of a number that is not 0
abbrev IsPositive : ℕ → List ℕ → Type 0
IsPositive n ds = 0 < n → (rest : List ℕ) → goes_on within rest ≡ true → goes_on before (ds ++ rest) ≡ true

digit_within : (k : ℕ) (rest : List ℕ) → k < 10 → goes_on within rest ≡ true → goes_on within ((48 + k) ∷ rest) ≡ true
digit_within k rest small h = cond-true (is_digit (48 + k)) _ _ (grind (arith, nat_tests, small)) ∙ h

one_digit : (k : ℕ) → k < 10 → IsPositive k ((48 + k) ∷ [])
one_digit k small some rest h =
    cond-false (48 + k == 48) _ _ (ne_eqb (48 + k) 48 (λ e. omega (arith, e, some)))
    ∙ cond-true (is_digit (48 + k)) _ _ (grind (arith, nat_tests, small)) ∙ h

more_digits : (n : ℕ) (ds : List ℕ) → 10 ≤ n → IsPositive (n / 10) ds → IsPositive n (ds ++ (48 + n % 10) ∷ [])
more_digits n ds big h some rest follows =
    ap (goes_on before) (append_assoc ds ((48 + n % 10) ∷ []) rest)
    ∙ h (omega (arith, big)) ((48 + n % 10) ∷ rest) (digit_within (n % 10) rest (omega arith) follows)

number_goes : (n : ℕ) (rest : List ℕ) → n < 2 ^ 32 → Follows rest → goes_on before (decimal n ++ rest) ≡ true
number_goes zero rest small h = ap (λ ds. goes_on before (ds ++ rest)) (decimal_digit 0 (omega arith)) ∙ h.0
number_goes (suc n) rest small h = decimal_by_steps IsPositive one_digit more_digits (suc n) (omega (arith, small)) (omega arith) rest h.1

-- every text of picks but the empty one goes on so
all_go : (p : ℕ) (ps : List ℕ) → All (λ q. q < 2 ^ 32) (p ∷ ps) → goes_on before (picks_text (p ∷ ps)) ≡ true
all_go p [] fit = ap (goes_on before) (sym (append-nil (decimal p))) ∙ number_goes p [] (All-head (λ q. q < 2 ^ 32) p [] fit) (refl, refl)
all_go p (q ∷ ps) fit =
    let later : goes_on before (picks_text (q ∷ ps)) ≡ true = all_go q ps (All-tail (λ q. q < 2 ^ 32) p (q ∷ ps) fit) in
    number_goes p (32 ∷ picks_text (q ∷ ps)) (All-head (λ q. q < 2 ^ 32) p (q ∷ ps) fit) (later, later)

spells_none : (b : ℕ) (bs picks : List ℕ) → goes_on before (b ∷ bs) ≡ false → SpellsPicks (b ∷ bs) picks → ⊥
spells_none b bs [] stuck h = let e : b ∷ bs ≡ [] = h.spelled in cc
spells_none b bs (p ∷ ps) stuck h = let e : false ≡ true = sym stuck ∙ ap (goes_on before) h.spelled ∙ all_go p ps h.fit in cc

-- `0 00`: a leading zero
pub bad_picks_leading_zero : (picks : List ℕ) → SpellsPicks (codes "0 00") picks → ⊥
bad_picks_leading_zero picks h = spells_none 48 (codes " 00") picks refl h

-- `0  0`: two spaces
pub bad_picks_two_spaces : (picks : List ℕ) → SpellsPicks (codes "0  0") picks → ⊥
bad_picks_two_spaces picks h = spells_none 48 (codes "  0") picks refl h

-- a space at the end, or at the front
bad_picks_space_at_the_end : (picks : List ℕ) → SpellsPicks (codes "0 ") picks → ⊥
bad_picks_space_at_the_end picks h = spells_none 48 (codes " ") picks refl h

bad_picks_space_in_front : (picks : List ℕ) → SpellsPicks (codes " 0") picks → ⊥
bad_picks_space_in_front picks h = spells_none 32 (codes "0") picks refl h
