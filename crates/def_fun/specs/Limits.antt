-- The limits on funs (own).
-- Depends on trees. Most are those of scripts.
use Rattle.std.specs.Prelude.{◌≡◌, ℕ, ◌+◌, ◌≤◌, max, List, [], ◌∷◌, length, Bool, true, false, ◌&&◌, nat_le}
use Rattle.def_term.specs.Atoms.{ATOM_LENGTH}
use Rattle.def_text.specs.Limits.{TUPLE_LENGTH, LIST_LENGTH}
use Rattle.def_fun.specs.Operators as op
use Rattle.def_fun.specs.Trees.{FunExpr, variable, whole, atom, strings, in_parens, call, list, list_onto, tuple, before, between, FunExprs, none, more, each_expr, nesting_depth, joined_codes, FunHead, alone, both, FunClause}

-- in one head, condition or expression of a body brackets, braces, parentheses, calls and operators nest at most 64 deep
abbrev pub FUN_DEPTH : ℕ
FUN_DEPTH = 64

-- a specification has at most 4,096 clauses
abbrev pub CLAUSES : ℕ
CLAUSES = 4096

-- the greatest integer that a text has; right after a prefix `-` it may be one more
abbrev pub GREATEST_INTEGER : ℕ
GREATEST_INTEGER = 9223372036854775807

-- integers, atoms, variables, strings, lists and tuples are not too large
abbrev mutual
  pub is_sized : FunExpr → Bool
  is_sized (variable at s) = nat_le (length s) ATOM_LENGTH
  is_sized (whole at n) = nat_le n GREATEST_INTEGER
  is_sized (atom at s) = nat_le (length s) ATOM_LENGTH
  is_sized (strings at s ss) = nat_le (length (joined_codes s ss)) LIST_LENGTH
  is_sized (in_parens at e) = is_sized e
  is_sized (call at s es) = nat_le (length s) ATOM_LENGTH && are_sized es
  is_sized (list at es) = nat_le (length (each_expr es)) LIST_LENGTH && are_sized es
  is_sized (list_onto at es e) = nat_le (length (each_expr es)) LIST_LENGTH && (are_sized es && is_sized e)
  is_sized (tuple at es) = nat_le (length (each_expr es)) TUPLE_LENGTH && are_sized es
  is_sized (before at op.minus (whole here n)) = nat_le n (GREATEST_INTEGER + 1)
  is_sized (before at o e) = is_sized e
  is_sized (between at o l r) = is_sized l && is_sized r

  -- each of several
  pub are_sized : FunExprs → Bool
  are_sized none = true
  are_sized (more e es) = is_sized e && are_sized es

-- each of a list
abbrev pub each_sized : List FunExpr → Bool
each_sized [] = true
each_sized (e ∷ es) = is_sized e && each_sized es

-- the conditions of a guard, or the expressions of a body
abbrev pub is_sized_row : List FunExpr → Bool
is_sized_row es = nat_le (length es) LIST_LENGTH && each_sized es

-- the guards
abbrev pub are_sized_guards : List (List FunExpr) → Bool
are_sized_guards [] = true
are_sized_guards (g ∷ gs) = is_sized_row g && are_sized_guards gs

-- a head
abbrev pub is_sized_head : FunHead → Bool
is_sized_head (alone e) = is_sized e
is_sized_head (both a b) = is_sized a && is_sized b

-- a clause
abbrev pub is_sized_clause : FunClause → Bool
is_sized_clause k = is_sized_head k.head && (are_sized_guards k.guards && is_sized_row k.body)

-- each clause
abbrev pub are_sized_clauses : List FunClause → Bool
are_sized_clauses [] = true
are_sized_clauses (k ∷ ks) = is_sized_clause k && are_sized_clauses ks

-- how many clauses of the specification a fun's clause is: one for each guard, and one where there is none
abbrev pub clause_count : FunClause → ℕ
clause_count k = max 1 (length k.guards)

-- those of all clauses
abbrev pub spec_clauses : List FunClause → ℕ
spec_clauses [] = 0
spec_clauses (k ∷ ks) = clause_count k + spec_clauses ks

-- within the limits on sizes, where they count
abbrev pub fun_sizes : Bool → List FunClause → Bool
fun_sizes false ks = true
fun_sizes true ks = are_sized_clauses ks && nat_le (spec_clauses ks) CLAUSES

-- how deep a head nests
abbrev pub head_nesting : FunHead → ℕ
head_nesting (alone e) = nesting_depth e
head_nesting (both a b) = max (nesting_depth a) (nesting_depth b)

-- the greatest of several expressions
abbrev pub row_nesting : List FunExpr → ℕ
row_nesting [] = 0
row_nesting (e ∷ es) = max (nesting_depth e) (row_nesting es)

-- that of guards
abbrev pub guards_nesting : List (List FunExpr) → ℕ
guards_nesting [] = 0
guards_nesting (g ∷ gs) = max (row_nesting g) (guards_nesting gs)

-- that of clauses
abbrev pub clauses_nesting : List FunClause → ℕ
clauses_nesting [] = 0
clauses_nesting (k ∷ ks) = max (max (head_nesting k.head) (max (guards_nesting k.guards) (row_nesting k.body))) (clauses_nesting ks)

-- within the limit on depth, and within those on sizes where they count
pub record FunFits (limit : ℕ) (sized : Bool) (ks : List FunClause) : Type 0 where
  pub nests : clauses_nesting ks ≤ limit
  pub sizes : fun_sizes sized ks ≡ true
