-- What is promised of alignments (own): their common lines are a longest common subsequence.
-- Depends on alignments.
use Rattle.std.specs.Prelude.{◌≡◌, ◌≤◌, ◌⊎◌, ℕ, List, [], ◌∷◌, length}
use Rattle.def_alignment.specs.Alignments.{LineStep, in_both, in_first, in_second, IsAlignment}

-- the lines are some of a list's, in its order
abbrev pub IsSubsequence : (lines list : List (List ℕ)) → Type 0
IsSubsequence [] xs = Unit {0}
IsSubsequence (z ∷ zs) [] = ⊥
IsSubsequence (z ∷ zs) (x ∷ xs) = ((z ≡ x) × IsSubsequence zs xs) ⊎ IsSubsequence (z ∷ zs) xs

-- no longer list is a subsequence of both
pub record IsLongestCommon (lines first second : List (List ℕ)) : Type 0 where
  pub of_first : IsSubsequence lines first
  pub of_second : IsSubsequence lines second
  pub longest : (other : List (List ℕ)) → IsSubsequence other first → IsSubsequence other second → length other ≤ length lines

-- the lines of both
abbrev pub common_lines : List LineStep → (first : List (List ℕ)) → List (List ℕ)
common_lines [] xs = []
common_lines (in_both ∷ s) [] = []
common_lines (in_both ∷ s) (x ∷ xs) = x ∷ common_lines s xs
common_lines (in_first ∷ s) [] = []
common_lines (in_first ∷ s) (x ∷ xs) = common_lines s xs
common_lines (in_second ∷ s) xs = common_lines s xs

abbrev pub CommonLinesAreLongest : Type 0
CommonLinesAreLongest =
    (s : List LineStep) (first second : List (List ℕ)) → IsAlignment s first second → IsLongestCommon (common_lines s first) first second
