-- Trees whose integers and atoms are those of terms.
use Rattle.std.specs.Prelude.{ℕ, ◌+◌, ◌≤◌, List, [], ◌∷◌}
use Rattle.def_term.specs.Atoms.{IsAtomText}
use Rattle.def_fun.specs.Operators as op
use Rattle.def_fun.specs.Operators.{FunOperator}
use Rattle.def_fun.specs.Trees.{FunExpr, variable, whole, atom, strings, in_parens, call, list, list_onto, tuple, before, between, FunExprs, none, more, FunHead, alone, both, FunClause}
use Rattle.def_fun.specs.Limits.{GREATEST_INTEGER}

-- the greatest integer right after a prefix
abbrev pub greatest_after : FunOperator → ℕ
greatest_after op.minus = GREATEST_INTEGER + 1
greatest_after o = GREATEST_INTEGER

-- its integers are of signed 64 bits, and its atoms of at most 255 characters from 32 to 126
abbrev mutual
  pub HasTermLeaves : FunExpr → Type 0
  HasTermLeaves (variable at s) = Unit {0}
  HasTermLeaves (whole at n) = n ≤ GREATEST_INTEGER
  HasTermLeaves (atom at s) = IsAtomText s
  HasTermLeaves (strings at s ss) = Unit {0}
  HasTermLeaves (in_parens at e) = HasTermLeaves e
  HasTermLeaves (call at s es) = IsAtomText s × HaveTermLeaves es
  HasTermLeaves (list at es) = HaveTermLeaves es
  HasTermLeaves (list_onto at es e) = HaveTermLeaves es × HasTermLeaves e
  HasTermLeaves (tuple at es) = HaveTermLeaves es
  HasTermLeaves (before at o (whole here n)) = n ≤ greatest_after o
  HasTermLeaves (before at o e) = HasTermLeaves e
  HasTermLeaves (between at o l r) = HasTermLeaves l × HasTermLeaves r

  -- each of several
  pub HaveTermLeaves : FunExprs → Type 0
  HaveTermLeaves none = Unit {0}
  HaveTermLeaves (more e es) = HasTermLeaves e × HaveTermLeaves es

-- each of a list
abbrev pub RowHasTermLeaves : List FunExpr → Type 0
RowHasTermLeaves [] = Unit {0}
RowHasTermLeaves (e ∷ es) = HasTermLeaves e × RowHasTermLeaves es

-- a head
abbrev pub HeadHasTermLeaves : FunHead → Type 0
HeadHasTermLeaves (alone e) = HasTermLeaves e
HeadHasTermLeaves (both a b) = HasTermLeaves a × HasTermLeaves b

-- guards
abbrev pub GuardsHaveTermLeaves : List (List FunExpr) → Type 0
GuardsHaveTermLeaves [] = Unit {0}
GuardsHaveTermLeaves (g ∷ gs) = RowHasTermLeaves g × GuardsHaveTermLeaves gs

-- a clause
abbrev pub ClauseHasTermLeaves : FunClause → Type 0
ClauseHasTermLeaves k = HeadHasTermLeaves k.head × GuardsHaveTermLeaves k.guards × RowHasTermLeaves k.body

-- clauses
abbrev pub ClausesHaveTermLeaves : List FunClause → Type 0
ClausesHaveTermLeaves [] = Unit {0}
ClausesHaveTermLeaves (k ∷ ks) = ClauseHasTermLeaves k × ClausesHaveTermLeaves ks
