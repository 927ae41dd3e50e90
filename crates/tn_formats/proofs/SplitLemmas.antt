-- A text that is cut at the first byte of a kind.
use Rattle.std.proofs.Common.{◌≡◌, ℕ, ◌+◌, ◌≤◌, Bool, true, false, List, [], ◌∷◌, None, Some, cond, nat_lt, length, position, take, drop, subst, refl, rules, arith}
use Rattle.std.specs.List.{position_or_len, slice_split}
use Rattle.std.proofs.lemmas.List.Splits.{slice_split_none, slice_split_first}
use Rattle.std.proofs.lemmas.List.Sums.{position_or_len_is, fails_before_first}
use Rattle.std.proofs.lemmas.List.Quantifiers.{position-Some}
use Rattle.std.proofs.lemmas.List.Elements.{All-from_get_or}

absent : (b : Bool) (i : ℕ) → cond b (Some i) None ≡ None → b ≡ false
absent true i e = cc
absent false i e = refl

-- where no byte passes, the text is one piece
pub split_none : (p : ℕ → Bool) (text : List ℕ) → position p text ≡ None → slice_split p text ≡ text ∷ []
split_none p text none =
    let beyond : nat_lt (position_or_len p text) (length text) ≡ false = absent _ _ none in
    let past : length text ≤ position_or_len p text = search rules in
    slice_split_none p text (All-from_get_or (λ b. p b ≡ false) text 0 (λ i h. fails_before_first p text i 0 (omega arith)))

-- where the first byte that passes is at this place, the pieces are what is before it, and those of what is after it
pub split_some : (p : ℕ → Bool) (text : List ℕ) (end : ℕ) → position p text ≡ Some end → slice_split p text ≡ take end text ∷ slice_split p (drop (end + 1) text)
split_some p text end some =
    let (inside, passes, before) = position-Some p text end 0 some in
    let is : position_or_len p text ≡ end = position_or_len_is p text end 0 (omega arith) before (λ _. passes) in
    subst (λ k. slice_split p text ≡ take k text ∷ slice_split p (drop (k + 1) text)) is (slice_split_first p text 0 (omega arith))
