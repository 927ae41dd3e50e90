-- Two lists of lines side by side (own): which lines they have in common, in their order, and which one of them alone has.
-- Depends on nothing.
use Rattle.std.specs.Prelude.{◌≡◌, ◌≤◌, ℕ, suc, List, [], ◌∷◌}

-- the next line is one of both lists, or one that the first or the second alone has
pub data LineStep : Type 0 where
  in_both : LineStep
  in_first : LineStep
  in_second : LineStep

-- these steps go through all lines of both
abbrev pub Aligns : List LineStep → (first second : List (List ℕ)) → Type 0
Aligns [] xs ys = (xs ≡ []) × (ys ≡ [])
Aligns (in_both ∷ s) [] ys = ⊥
Aligns (in_both ∷ s) (x ∷ xs) [] = ⊥
Aligns (in_both ∷ s) (x ∷ xs) (y ∷ ys) = (x ≡ y) × Aligns s xs ys
Aligns (in_first ∷ s) [] ys = ⊥
Aligns (in_first ∷ s) (x ∷ xs) ys = Aligns s xs ys
Aligns (in_second ∷ s) xs [] = ⊥
Aligns (in_second ∷ s) xs (y ∷ ys) = Aligns s xs ys

-- how many lines they go through that are of both
abbrev pub common_count : List LineStep → ℕ
common_count [] = 0
common_count (in_both ∷ s) = suc (common_count s)
common_count (in_first ∷ s) = common_count s
common_count (in_second ∷ s) = common_count s

-- they go through all lines, and no steps that do have more lines of both
pub record IsAlignment (s : List LineStep) (first second : List (List ℕ)) : Type 0 where
  pub goes_through : Aligns s first second
  pub greatest : (other : List LineStep) → Aligns other first second → common_count other ≤ common_count s
