-- How many lines two lists have in common at most, and the table of that. Lists are given with their last line first.
-- Depends on alignments.
use Rattle.std.specs.Prelude.{◌≡◌, ◌≢◌, ◌+◌, ◌<◌, ◌≤◌, ℕ, suc, Bool, if◌then◌else◌, List, [], ◌∷◌, length, map, reverse, take, max}
use Rattle.std.specs.Borrow.{Bor}
use Rattle.std.specs.Str.{bytes_eq}
use Rattle.std.specs.declared.vec.Vec.{Vec}
use Rattle.std.proofs.Common.{get_or}
use Rattle.def_alignment.specs.Alignments.{LineStep, in_both, in_first, in_second, Aligns, common_count}
use Rattle.tn_alignment.specs.declared.steps.Step as code
use Rattle.tn_alignment.specs.declared.steps.Step.TheVariants.{Both, First, Second}
use Rattle.tn_alignment.specs.declared.steps.Grid.{Grid}
use Rattle.tn_alignment.specs.declared.steps.LinesLeft.{LinesLeft}

-- the bytes of lines
abbrev pub line_texts : List (Bor (List ℕ)) → List (List ℕ)
line_texts lines = map (λ l. l.now) lines

-- the last lines of a list that has its last line first, in their order
abbrev pub back : List (List ℕ) → ℕ → List (List ℕ)
back lines n = reverse (take n lines)

-- the greatest of three: of two, and, where two lines are the same, of one more than the third
abbrev pub best : (below left corner : ℕ) → Bool → ℕ
best below left corner is_same = if is_same then max (max below left) (suc corner) else max below left

-- of one line more, by what is known of those without it
abbrev pub with_line : List ℕ → (List (List ℕ) → ℕ) → List (List ℕ) → ℕ
with_line x below [] = 0
with_line x below (y ∷ ys) = best (below (y ∷ ys)) (with_line x below ys) (below ys) (bytes_eq x y)

-- how many lines two lists have in common at most
abbrev pub most_common : List (List ℕ) → List (List ℕ) → ℕ
most_common [] ys = 0
most_common (x ∷ xs) ys = with_line x (most_common xs) ys

-- the row of so many last lines of the first list: a cell for each number of last lines of the second
pub record IsRow (first : List (List ℕ)) (at : ℕ) (second : List (List ℕ)) (row : List ℕ) : Type 0 where
  pub size : length row ≡ length second + 1
  pub cells : (k : ℕ) → k ≤ length second → get_or row k 0 ≡ most_common (back first at) (back second k)

-- a row for each number of last lines of the first list
pub record IsTable {A : Type 0} (first second : List (List ℕ)) (table : List (Vec ℕ A)) : Type 0 where
  pub height : length table ≡ length first + 1
  pub rows : (i : ℕ) (d : Vec ℕ A) → i ≤ length first → IsRow first i second (get_or table i d).items

-- ---- of the code's steps

abbrev pub line_step_seen : code.Step → LineStep
line_step_seen Both = in_both
line_step_seen First = in_first
line_step_seen Second = in_second

-- the table is that of the two lists
abbrev pub IsGrid : {A : Type 0} → Grid A → Type 0
IsGrid g = IsTable (line_texts g.first.now) (line_texts g.second.now) g.table.now

-- so many lines are left of each list, at most all
pub record IsLeft (first second : List (List ℕ)) (left : LinesLeft) : Type 0 where
  pub of_first : left.first ≤ length first
  pub of_second : left.second ≤ length second

-- the step is the next one through the lines that are left: those after it have as many lines in common as are left to find
pub record LeadsThrough (first second : List (List ℕ)) (old : LinesLeft) (s : LineStep) (new : LinesLeft) : Type 0 where
  pub goes : (t : List LineStep) → Aligns t (back first new.first) (back second new.second) → Aligns (s ∷ t) (back first old.first) (back second old.second)
  pub counts : most_common (back first old.first) (back second old.second) ≡ common_count (s ∷ []) + most_common (back first new.first) (back second new.second)
  pub within : IsLeft first second new
  pub nearer : new.first + new.second < old.first + old.second

-- no line of both is next, or going by it loses one that they have in common
abbrev pub CommonStepLoses : (first second : List (List ℕ)) → LinesLeft → Type 0
CommonStepLoses first second left =
    (x y : List ℕ) (xs ys : List (List ℕ)) → back first left.first ≡ x ∷ xs → back second left.second ≡ y ∷ ys
    → x ≡ y → most_common (x ∷ xs) (y ∷ ys) ≢ suc (most_common xs ys)

-- no line of the first list is next, or going by it loses one that they have in common
abbrev pub FirstStepLoses : (first second : List (List ℕ)) → LinesLeft → Type 0
FirstStepLoses first second left =
    (x : List ℕ) (xs : List (List ℕ)) → back first left.first ≡ x ∷ xs → most_common (back first left.first) (back second left.second) ≢ most_common xs (back second left.second)
