-- The first line of a text, and the others.
use Rattle.std.proofs.Common.{◌≡◌, ◌∙◌, ℕ, ◌+◌, ◌<◌, ◌≤◌, ◌==◌, Bool, true, false, List, [], ◌∷◌, None, Some, cond, nat_lt, length, position, take, drop, subst, ap, refl, rules, arith}
use Rattle.std.specs.List.{position_or_len, slice_split}
use Rattle.std.specs.Str.Lines.{lines_of_parts, strip_carriage_return}
use Rattle.std.proofs.lemmas.List.Splits.{slice_split_none, slice_split_first, length-slice_split}
use Rattle.std.proofs.lemmas.List.Sums.{position_or_len_is, fails_before_first}
use Rattle.std.proofs.lemmas.List.Quantifiers.{position-Some}
use Rattle.std.proofs.lemmas.List.Elements.{All-from_get_or}
use Rattle.def_trace_text.specs.Lines.{trace_text_lines}

absent : (b : Bool) (i : ℕ) → cond b (Some i) None ≡ None → b ≡ false
absent true i e = cc
absent false i e = refl

-- where no byte passes, the text is one piece
split_none : (p : ℕ → Bool) (text : List ℕ) → position p text ≡ None → slice_split p text ≡ text ∷ []
split_none p text none =
    let beyond : nat_lt (position_or_len p text) (length text) ≡ false = absent _ _ none in
    let past : length text ≤ position_or_len p text = search rules in
    slice_split_none p text (All-from_get_or (λ b. p b ≡ false) text 0 (λ i h. fails_before_first p text i 0 (omega arith)))

-- where the first byte that passes is at this place, the pieces are what is before it, and those of what is after it
split_some : (p : ℕ → Bool) (text : List ℕ) (end : ℕ) → position p text ≡ Some end → slice_split p text ≡ take end text ∷ slice_split p (drop (end + 1) text)
split_some p text end some =
    let (inside, passes, before) = position-Some p text end 0 some in
    let is : position_or_len p text ≡ end = position_or_len_is p text end 0 (omega arith) before (λ _. passes) in
    subst (λ k. slice_split p text ≡ take k text ∷ slice_split p (drop (k + 1) text)) is (slice_split_first p text 0 (omega arith))

abbrev is_line_feed : ℕ → Bool
is_line_feed b = b == 10

some_bytes : (n : ℕ) → 0 < n → (n == 0) ≡ false
some_bytes n some = search rules

-- a last part that isn't empty is a line
last_part : (text : List ℕ) → 0 < length text → lines_of_parts (text ∷ []) ≡ text ∷ []
last_part text some = rw (some_bytes (length text) some) refl

-- a part before others is a line
part_before : (part : List ℕ) (parts : List (List ℕ)) → 0 < length parts → lines_of_parts (part ∷ parts) ≡ strip_carriage_return part ∷ lines_of_parts parts
part_before part [] some = absurd (omega (arith, some))
part_before part (next ∷ more) some = refl

-- a text with no line feed is one line
pub line_alone : (text : List ℕ) → 0 < length text → position (λ b. b == 10) text ≡ None → trace_text_lines text ≡ text ∷ []
line_alone text some none = ap lines_of_parts (split_none is_line_feed text none) ∙ last_part text some

-- what is before the first line feed is the first line
pub line_first : (text : List ℕ) (end : ℕ) → position (λ b. b == 10) text ≡ Some end → trace_text_lines text ≡ strip_carriage_return (take end text) ∷ trace_text_lines (drop (end + 1) text)
line_first text end some =
    let count = length-slice_split is_line_feed (drop (end + 1) text) in
    ap lines_of_parts (split_some is_line_feed text end some) ∙ part_before (take end text) (slice_split is_line_feed (drop (end + 1) text)) (omega (arith, count))
