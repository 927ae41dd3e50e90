-- What is promised of pairs of pids (own).
-- Depends on renamings.
use Rattle.std.specs.Prelude.{◌≡◌, ℕ, List, Contains, Some}
use Rattle.def_term.specs.Tree.{Tree}
use Rattle.def_renaming.specs.Renaming.{IsOneToOne, IsRenamedPrefix, HaveRenamedPrefixes, with_prefix_pairs, first_renaming}

-- the first has each pair of the second
abbrev pub HasPairsOf : (ps qs : List (ℕ × ℕ)) → Type 0
HasPairsOf ps qs = (p : ℕ × ℕ) → Contains qs p → Contains ps p

-- the pairs that are found are one to one, and by them each group is a prefix of a list
abbrev pub FoundRenamingIsSound : Type 0
FoundRenamingIsSound =
    (groups lists : List (List Tree)) (ps : List (ℕ × ℕ)) → first_renaming groups lists ≡ Some ps →
    IsOneToOne ps × HaveRenamedPrefixes ps groups lists

-- where there are such pairs, some are found
abbrev pub RenamingIsFound : Type 0
RenamingIsFound =
    (groups lists : List (List Tree)) (ps : List (ℕ × ℕ)) → IsOneToOne ps → HaveRenamedPrefixes ps groups lists →
    (qs : List (ℕ × ℕ)) × (first_renaming groups lists ≡ Some qs)

-- pairs that are one to one stay so, no pair goes, and by them the messages are the first ones
abbrev pub PairsOfAPrefixAreSound : Type 0
PairsOfAPrefixAreSound =
    (ps qs : List (ℕ × ℕ)) (there here : List Tree) → IsOneToOne ps → with_prefix_pairs ps there here ≡ Some qs →
    IsOneToOne qs × HasPairsOf qs ps × IsRenamedPrefix qs there here

-- they are the least: whatever one-to-one pairs with the given ones make the messages the first ones have all of them
abbrev pub PairsOfAPrefixAreLeast : Type 0
PairsOfAPrefixAreLeast =
    (ps rs : List (ℕ × ℕ)) (there here : List Tree) → IsOneToOne rs → HasPairsOf rs ps → IsRenamedPrefix rs there here →
    (qs : List (ℕ × ℕ)) × (with_prefix_pairs ps there here ≡ Some qs) × HasPairsOf rs qs
