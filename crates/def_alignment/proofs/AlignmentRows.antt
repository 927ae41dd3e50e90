-- Rows: lists side by side, worked out by hand.
use Rattle.std.specs.Prelude.{◌≡◌, [], ◌∷◌, codes, refl}
use Rattle.def_alignment.specs.Alignments.{in_both, in_first, in_second, Aligns, common_count}
use Rattle.def_alignment.specs.AlignmentLaws.{common_lines}

-- a, b, c and a, c, d: a and c are of both
row_of_two : Aligns (in_both ∷ in_first ∷ in_both ∷ in_second ∷ []) (codes "a" ∷ codes "b" ∷ codes "c" ∷ []) (codes "a" ∷ codes "c" ∷ codes "d" ∷ [])
row_of_two = (refl, (refl, (refl, refl)))

row_of_two_lines : common_lines (in_both ∷ in_first ∷ in_both ∷ in_second ∷ []) (codes "a" ∷ codes "b" ∷ codes "c" ∷ []) ≡ codes "a" ∷ codes "c" ∷ []
row_of_two_lines = refl

row_of_two_count : common_count (in_both ∷ in_first ∷ in_both ∷ in_second ∷ []) ≡ 2
row_of_two_count = refl

-- nothing in common
row_apart : Aligns (in_first ∷ in_second ∷ []) (codes "a" ∷ []) (codes "b" ∷ [])
row_apart = (refl, refl)

-- both empty
row_empty : Aligns [] [] []
row_empty = (refl, refl)
