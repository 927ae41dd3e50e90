-- The columns of a picture.
use Rattle.std.proofs.Common.{◌≡◌, ℕ, ◌+◌, ◌*◌, ◌≤◌, List, [], ◌∷◌, ◌++◌, map, sum, length, min, ap, ◌∙◌, sym, le_refl, le_trans, arith}
use Rattle.std.proofs.Math.Nat.{le-min, le-max_right}
use Rattle.std.proofs.lemmas.List.{map-append, take_all}
use Rattle.std.proofs.lemmas.List.Sums.{fold-append}
use Rattle.def_node.specs.Process.{FRAMES}
use Rattle.def_picture.specs.Picture.{Life}
use Rattle.def_picture.specs.Svg.{column_width, columns_end}
use Rattle.def_picture.specs.Laws.{FrameIsInItsColumn, ColumnsAreSideBySide}

eight-more : (d m : ℕ) → d ≤ m → 8 * d + 40 ≤ 8 * m + 40
eight-more d m h = omega arith

pub frame_in_column : FrameIsInItsColumn
frame_in_column l d deep most =
    le_trans (eight-more d (min l.depth FRAMES) (le-min deep most)) (le-max_right 110 (8 * min l.depth FRAMES + 40))

sum-one : (xs : List ℕ) (n : ℕ) → sum (xs ++ n ∷ []) ≡ sum xs + n
sum-one xs n = fold-append ◌+◌ 0 xs (n ∷ [])

all-columns : (ls : List Life) → columns_end ls ≡ 80 + sum (map column_width ls)
all-columns ls = ap (λ k. 80 + sum (map column_width k)) (take_all (length ls) ls (le_refl (length ls)))

one-more : (a b w : ℕ) → a ≡ b + w → 80 + a ≡ (80 + b) + w
one-more a b w h = omega arith

pub columns_side_by_side : ColumnsAreSideBySide
columns_side_by_side ls l =
    all-columns (ls ++ l ∷ [])
    ∙ one-more (sum (map column_width (ls ++ l ∷ []))) (sum (map column_width ls)) (column_width l)
    (ap sum (map-append column_width ls (l ∷ [])) ∙ sum-one (map column_width ls) (column_width l))
    ∙ ap (λ k. k + column_width l) (sym (all-columns ls))
