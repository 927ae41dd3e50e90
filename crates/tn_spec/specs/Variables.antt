-- Which variables a head binds, as a table by their numbers.
use Rattle.std.specs.Prelude.{◌≡◌, ◌≤◌, ℕ, Bool, true, false, List, get_or, set}
use Rattle.def_spec.specs.Matching.{Pattern, variable, anything, only_term, in_tuple, in_list, Patterns, no_patterns, and_pattern, occurs}

-- place n is true exactly where the pattern has the variable n
abbrev pub IsTableOf : Pattern → List Bool → Type 0
IsTableOf p table = (n : ℕ) → n ≤ 999 → get_or table n false ≡ occurs n p

-- the table with the places of the pattern's variables true
abbrev mutual
  pub mark_variables : Pattern → List Bool → List Bool
  mark_variables (variable n) bs = set bs n true
  mark_variables anything bs = bs
  mark_variables (only_term t) bs = bs
  mark_variables (in_tuple ps) bs = marked_all ps bs
  mark_variables (in_list ps) bs = marked_all ps bs

  -- those of several patterns
  pub marked_all : Patterns → List Bool → List Bool
  marked_all no_patterns bs = bs
  marked_all (and_pattern p ps) bs = marked_all ps (mark_variables p bs)
