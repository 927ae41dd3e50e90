-- The first line of a text, and the others.
use Rattle.std.proofs.Common.{◌≡◌, ◌∙◌, ℕ, ◌+◌, ◌<◌, ◌==◌, Bool, List, [], ◌∷◌, None, Some, length, position, take, drop, ap, refl, arith}
use Rattle.std.specs.List.{slice_split}
use Rattle.std.proofs.lemmas.List.Splits.{length-slice_split}
use Rattle.def_formats.specs.Lines.{text_lines, without_empty_end}
use Rattle.tn_formats.proofs.SplitLemmas.{split_none, split_some}

abbrev is_line_feed : ℕ → Bool
is_line_feed b = b == 10

-- a last piece that isn't empty is a line
last_line : (text : List ℕ) → 0 < length text → without_empty_end (text ∷ []) ≡ text ∷ []
last_line [] some = absurd (omega (arith, some))
last_line (c ∷ cs) some = refl

-- a piece before others is a line
line_before : (piece : List ℕ) (pieces : List (List ℕ)) → 0 < length pieces → without_empty_end (piece ∷ pieces) ≡ piece ∷ without_empty_end pieces
line_before piece [] some = absurd (omega (arith, some))
line_before piece (next ∷ more) some = refl

-- a text with no line feed is one line
pub line_alone : (text : List ℕ) → 0 < length text → position (λ b. b == 10) text ≡ None → text_lines text ≡ text ∷ []
line_alone text some none = ap without_empty_end (split_none is_line_feed text none) ∙ last_line text some

-- what stands before the first line feed is the first line
pub line_first : (text : List ℕ) (end : ℕ) → position (λ b. b == 10) text ≡ Some end → text_lines text ≡ take end text ∷ text_lines (drop (end + 1) text)
line_first text end some =
    let count = length-slice_split is_line_feed (drop (end + 1) text) in
    ap without_empty_end (split_some is_line_feed text end some) ∙ line_before (take end text) (slice_split is_line_feed (drop (end + 1) text)) (omega (arith, count))
