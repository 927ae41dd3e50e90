-- Funs as trees: expressions, heads, clauses.
-- Depends on operators and names. They are those of the Erlang Reference Manual ("Expressions", "Fun Expressions", "Guard Sequences") that this profile has (own).
use Rattle.std.specs.Prelude.{ℕ, ◌+◌, max, List, [], ◌∷◌, ◌++◌, Bool, true, false, ◌&&◌}
use Rattle.def_term.specs.Names.{Name}
use Rattle.def_fun.specs.Operators as op
use Rattle.def_fun.specs.Operators.{FunOperator}

-- A node has the offset of its token: of a call that of its name, of an operator that of the operator, of anything else that of its first.
mutual
  -- a variable, an integer, an atom, strings beside each other, an expression in parentheses, a call, a list, a list with a tail, a tuple, an operator before an operand, and one between two
  pub data FunExpr : Type 0 where
    variable : ℕ → Name → FunExpr
    whole : ℕ → ℕ → FunExpr
    atom : ℕ → Name → FunExpr
    -- the first string, and the others
    strings : ℕ → List ℕ → List (List ℕ) → FunExpr
    in_parens : ℕ → FunExpr → FunExpr
    call : ℕ → Name → FunExprs → FunExpr
    list : ℕ → FunExprs → FunExpr
    list_onto : ℕ → FunExprs → FunExpr → FunExpr
    tuple : ℕ → FunExprs → FunExpr
    before : ℕ → FunOperator → FunExpr → FunExpr
    between : ℕ → FunOperator → FunExpr → FunExpr → FunExpr

  -- several expressions in their order
  pub data FunExprs : Type 0 where
    none : FunExprs
    more : FunExpr → FunExprs → FunExprs

-- as a list
abbrev pub each_expr : FunExprs → List FunExpr
each_expr none = []
each_expr (more e es) = e ∷ each_expr es

-- a list of expressions as the parts of a node
abbrev pub of_exprs : List FunExpr → FunExprs
of_exprs [] = none
of_exprs (e ∷ es) = more e (of_exprs es)

-- the offset of the first byte
abbrev pub first_byte : FunExpr → ℕ
first_byte (variable at s) = at
first_byte (whole at n) = at
first_byte (atom at s) = at
first_byte (strings at s ss) = at
first_byte (in_parens at e) = at
first_byte (call at s es) = at
first_byte (list at es) = at
first_byte (list_onto at es e) = at
first_byte (tuple at es) = at
first_byte (before at o e) = at
first_byte (between at o l r) = first_byte l

-- the codes of strings beside each other
abbrev pub joined_codes : List ℕ → List (List ℕ) → List ℕ
joined_codes s [] = s
joined_codes s (u ∷ us) = joined_codes (s ++ u) us

-- how deep brackets, braces, parentheses, calls and operators nest
abbrev mutual
  pub nesting_depth : FunExpr → ℕ
  nesting_depth (variable at s) = 0
  nesting_depth (whole at n) = 0
  nesting_depth (atom at s) = 0
  nesting_depth (strings at s ss) = 0
  nesting_depth (in_parens at e) = 1 + nesting_depth e
  nesting_depth (call at s es) = 1 + greatest_nesting es
  nesting_depth (list at es) = 1 + greatest_nesting es
  nesting_depth (list_onto at es e) = 1 + max (greatest_nesting es) (nesting_depth e)
  nesting_depth (tuple at es) = 1 + greatest_nesting es
  nesting_depth (before at o e) = 1 + nesting_depth e
  nesting_depth (between at o l r) = 1 + max (nesting_depth l) (nesting_depth r)

  -- the greatest of several
  pub greatest_nesting : FunExprs → ℕ
  greatest_nesting none = 0
  greatest_nesting (more e es) = max (nesting_depth e) (greatest_nesting es)

-- ---- heads

-- a pattern: a variable, an integer, `-` and an integer, an atom, strings, and lists and tuples of patterns
abbrev mutual
  pub is_pattern : FunExpr → Bool
  is_pattern (before at op.minus (whole here n)) = true
  is_pattern (before at o e) = false
  is_pattern (in_parens at e) = false
  is_pattern (call at s es) = false
  is_pattern (between at o l r) = false
  is_pattern (list at es) = are_patterns es
  is_pattern (list_onto at es e) = are_patterns es && is_pattern e
  is_pattern (tuple at es) = are_patterns es
  is_pattern (variable at s) = true
  is_pattern (whole at n) = true
  is_pattern (atom at s) = true
  is_pattern (strings at s ss) = true

  -- each is one
  pub are_patterns : FunExprs → Bool
  are_patterns none = true
  are_patterns (more e es) = is_pattern e && are_patterns es

-- a variable
abbrev pub is_variable_expr : FunExpr → Bool
is_variable_expr (variable at s) = true
is_variable_expr _ = false

-- a list of patterns
abbrev pub is_list_pattern : FunExpr → Bool
is_list_pattern (list at es) = are_patterns es
is_list_pattern (list_onto at es e) = are_patterns es && is_pattern e
is_list_pattern _ = false

-- a head alone, or `E1 = E2`
pub data FunHead : Type 0 where
  alone : FunExpr → FunHead
  both : FunExpr → FunExpr → FunHead

-- ---- clauses

-- the offset of its `(`, its head, its guards, each of some conditions, and its body
pub record FunClause : Type 0 where
  pub at : ℕ
  pub head : FunHead
  pub guards : List (List FunExpr)
  pub body : List FunExpr
