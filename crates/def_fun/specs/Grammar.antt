-- The grammar of funs: which tokens spell a tree ("Fun Expressions", "Guard Sequences" and "Operator Precedence" of the Erlang Reference Manual).
-- Depends on tokens, operators and trees. The profile is this project's own.
use Rattle.std.specs.Prelude.{◌≡◌, ℕ, List, [], ◌∷◌, ◌++◌, map, Bool, true, false, ◌&&◌, ◌||◌, ◌⊎◌, nat_le}
use Rattle.def_fun.specs.Operators.{operator_binding, level_of, left_level, right_level, PREFIX_LEVEL, is_infix, is_prefix}
use Rattle.def_fun.specs.Tokens as token
use Rattle.def_fun.specs.Tokens.{FunToken, FunSpan}
use Rattle.def_fun.specs.Trees.{FunExpr, variable, whole, atom, strings, in_parens, call, list, list_onto, tuple, before, between, FunExprs, none, more, is_variable_expr, is_list_pattern, FunHead, alone, both, FunClause}

-- a token of a tree; one that a node has the offset of, or another
pub data Piece : Type 0 where
  at_offset : ℕ → FunToken → Piece
  anywhere : FunToken → Piece

-- the token of a text that it stands for
abbrev pub IsPiece : Piece → FunSpan → Type 0
IsPiece (at_offset at t) x = (x.from ≡ at) × (x.token ≡ t)
IsPiece (anywhere t) x = x.token ≡ t

-- as many tokens, each of which is that piece
abbrev pub ArePieces : List Piece → List FunSpan → Type 0
ArePieces [] ts = ts ≡ []
ArePieces (p ∷ ps) [] = ⊥
ArePieces (p ∷ ps) (x ∷ ts) = IsPiece p x × ArePieces ps ts

-- a string after another
abbrev pub string_piece : List ℕ → Piece
string_piece s = anywhere (token.characters s)

-- the tokens of an expression, by cases on it
abbrev mutual
  pub expr_pieces : FunExpr → List Piece
  expr_pieces (variable at s) = at_offset at (token.variable s) ∷ []
  expr_pieces (whole at n) = at_offset at (token.whole n) ∷ []
  expr_pieces (atom at s) = at_offset at (token.atom s) ∷ []
  expr_pieces (strings at s ss) = at_offset at (token.characters s) ∷ map string_piece ss
  expr_pieces (in_parens at e) = at_offset at token.open_paren ∷ (expr_pieces e ++ anywhere token.close_paren ∷ [])
  expr_pieces (call at s es) = at_offset at (token.atom s) ∷ anywhere token.open_paren ∷ (pieces_of es ++ anywhere token.close_paren ∷ [])
  expr_pieces (list at es) = at_offset at token.open_bracket ∷ (pieces_of es ++ anywhere token.close_bracket ∷ [])
  expr_pieces (list_onto at es e) = at_offset at token.open_bracket ∷ (pieces_of es ++ anywhere token.bar ∷ (expr_pieces e ++ anywhere token.close_bracket ∷ []))
  expr_pieces (tuple at es) = at_offset at token.open_brace ∷ (pieces_of es ++ anywhere token.close_brace ∷ [])
  expr_pieces (before at o e) = at_offset at (token.operator o) ∷ expr_pieces e
  expr_pieces (between at o l r) = expr_pieces l ++ at_offset at (token.operator o) ∷ expr_pieces r

  -- those of several, with a comma between any two
  pub pieces_of : FunExprs → List Piece
  pieces_of none = []
  pieces_of (more e es) = expr_pieces e ++ pieces_after es

  -- with a comma before each
  pub pieces_after : FunExprs → List Piece
  pieces_after none = []
  pieces_after (more e es) = anywhere token.comma ∷ (expr_pieces e ++ pieces_after es)

-- there is one at least
abbrev pub has_one : FunExprs → Bool
has_one none = false
has_one (more e es) = true

-- Operators bind as their levels say: an operand is of the level that its operator asks for there, or binds more; in parentheses, brackets and braces is any expression.
abbrev mutual
  pub has_level : ℕ → FunExpr → Bool
  has_level n (variable at s) = true
  has_level n (whole at k) = true
  has_level n (atom at s) = true
  has_level n (strings at s ss) = true
  has_level n (in_parens at e) = has_level 1 e
  has_level n (call at s es) = have_levels es
  has_level n (list at es) = have_levels es
  has_level n (list_onto at es e) = has_one es && (have_levels es && has_level 1 e)
  has_level n (tuple at es) = have_levels es
  has_level n (before at o e) = is_prefix o && (nat_le n PREFIX_LEVEL && has_level PREFIX_LEVEL e)
  has_level n (between at o l r) =
      is_infix o && (nat_le n (level_of (operator_binding o)) && (has_level (left_level (operator_binding o)) l && has_level (right_level (operator_binding o)) r))

  -- each is an expression
  pub have_levels : FunExprs → Bool
  have_levels none = true
  have_levels (more e es) = has_level 1 e && have_levels es

-- the tokens spell the expression, which binds at least so strongly
pub record SpellsExpr (n : ℕ) (ts : List FunSpan) (e : FunExpr) : Type 0 where
  pub tokens : ArePieces (expr_pieces e) ts
  pub level : has_level n e ≡ true

-- ---- heads, guards and clauses

-- a variable or a list, or a variable with another or with a list
abbrev pub is_fun_head : FunHead → Bool
is_fun_head (alone e) = is_variable_expr e || is_list_pattern e
is_fun_head (both a b) = (is_variable_expr a && (is_variable_expr b || is_list_pattern b)) || (is_list_pattern a && is_variable_expr b)

-- each part of a head is an expression, so that a list with a tail has an element before it
abbrev pub is_level_head : FunHead → Bool
is_level_head (alone e) = has_level 1 e
is_level_head (both a b) = has_level 1 a && has_level 1 b

-- the tokens of a head
abbrev pub head_pieces : FunHead → List Piece
head_pieces (alone e) = expr_pieces e
head_pieces (both a b) = expr_pieces a ++ anywhere token.match ∷ expr_pieces b

-- of expressions with a comma between any two
abbrev pub comma_pieces : List FunExpr → List Piece
comma_pieces [] = []
comma_pieces (e ∷ []) = expr_pieces e
comma_pieces (e ∷ f ∷ es) = expr_pieces e ++ anywhere token.comma ∷ comma_pieces (f ∷ es)

-- of guards with a semicolon between any two
abbrev pub guard_pieces : List (List FunExpr) → List Piece
guard_pieces [] = []
guard_pieces (g ∷ []) = comma_pieces g
guard_pieces (g ∷ h ∷ gs) = comma_pieces g ++ anywhere token.semicolon ∷ guard_pieces (h ∷ gs)

-- `when` and the guards, where there are some
abbrev pub when_pieces : List (List FunExpr) → List Piece
when_pieces [] = []
when_pieces (g ∷ gs) = anywhere token.when_word ∷ guard_pieces (g ∷ gs)

-- ( head ) when guards -> body
abbrev pub clause_pieces : FunClause → List Piece
clause_pieces k = at_offset k.at token.open_paren ∷ (head_pieces k.head ++ anywhere token.close_paren ∷ (when_pieces k.guards ++ anywhere token.arrow ∷ comma_pieces k.body))

-- of clauses with a semicolon between any two
abbrev pub clauses_pieces : List FunClause → List Piece
clauses_pieces [] = []
clauses_pieces (k ∷ []) = clause_pieces k
clauses_pieces (k ∷ l ∷ ks) = clause_pieces k ++ anywhere token.semicolon ∷ clauses_pieces (l ∷ ks)

-- fun clauses end
abbrev pub fun_pieces : List FunClause → List Piece
fun_pieces ks = anywhere token.fun_word ∷ (clauses_pieces ks ++ anywhere token.end_word ∷ [])

-- each is an expression, and there is one at least
abbrev pub are_exprs : List FunExpr → Bool
are_exprs [] = false
are_exprs (e ∷ []) = has_level 1 e
are_exprs (e ∷ f ∷ es) = has_level 1 e && are_exprs (f ∷ es)

-- each guard has conditions
abbrev pub are_guards : List (List FunExpr) → Bool
are_guards [] = true
are_guards (g ∷ gs) = are_exprs g && are_guards gs

-- a head, guards and a body
abbrev pub is_fun_clause : FunClause → Bool
is_fun_clause k = is_fun_head k.head && (is_level_head k.head && (are_guards k.guards && are_exprs k.body))

-- each is a clause, and there is one at least
abbrev pub are_fun_clauses : List FunClause → Bool
are_fun_clauses [] = false
are_fun_clauses (k ∷ []) = is_fun_clause k
are_fun_clauses (k ∷ l ∷ ks) = is_fun_clause k && are_fun_clauses (l ∷ ks)

-- the tokens spell the clauses of a fun, with or without a full stop after it
pub record DerivesFun (ts : List FunSpan) (ks : List FunClause) : Type 0 where
  pub tokens : ArePieces (fun_pieces ks) ts ⊎ ArePieces (fun_pieces ks ++ anywhere token.full_stop ∷ []) ts
  pub clauses : are_fun_clauses ks ≡ true
