-- Reading a fun as a fold over its tokens, with a stack that has a frame for each bracket, call and operator that waits for its end.
-- Depends on tokens, trees, limits and def_text's kinds of refusal (own). Laws say that it reads what the grammar says.
use Rattle.std.specs.Prelude.{ℕ, ◌+◌, List, [], ◌∷◌, ◌++◌, length, max, Bool, true, false, not, ◌&&◌, ◌||◌, if◌then◌else◌, nat_le, nat_lt, Option, Some, None, Result, Ok, Err}
use Rattle.def_term.specs.Atoms.{ATOM_LENGTH}
use Rattle.def_term.specs.Names.{Name}
use Rattle.def_text.specs.Faults.{FaultKind, misplaced, too_deep, too_large}
use Rattle.def_text.specs.Limits.{TUPLE_LENGTH, LIST_LENGTH}
use Rattle.def_fun.specs.Operators as op
use Rattle.def_fun.specs.Operators.{FunOperator, operator_binding, level_of, left_level, right_level, is_infix, is_prefix}
use Rattle.def_fun.specs.Tokens as token
use Rattle.def_fun.specs.Tokens.{FunToken, FunSpan}
use Rattle.def_fun.specs.Trees.{FunExpr, variable, whole, atom, strings, in_parens, call, list, list_onto, tuple, before, between, of_exprs, nesting_depth, joined_codes, is_variable_expr, FunHead, alone, both, FunClause}
use Rattle.def_fun.specs.Limits.{GREATEST_INTEGER, CLAUSES, spec_clauses}

-- ---- expressions

-- what waits for its end: parentheses, a call, a list, a list after its `|`, and a tuple, with the elements before; an operator with its left operand; a prefix
pub data OpenPart : Type 0 where
  in_open_parens : ℕ → OpenPart
  in_open_call : ℕ → Name → List FunExpr → OpenPart
  in_open_list : ℕ → List FunExpr → OpenPart
  in_open_tail : ℕ → List FunExpr → OpenPart
  in_open_tuple : ℕ → List FunExpr → OpenPart
  after_left : ℕ → FunOperator → FunExpr → OpenPart
  after_prefix : ℕ → FunOperator → OpenPart

-- an operand comes next, or it came; the innermost part is the first
pub data ExprState : Type 0 where
  wants : List OpenPart → ExprState
  has : FunExpr → List OpenPart → ExprState

-- an operand with the operators that wait for it and bind at least so strongly
abbrev pub gather : ℕ → FunExpr → List OpenPart → FunExpr × List OpenPart
gather n e [] = (e, [])
gather n e (after_prefix at o ∷ fs) = gather n (before at o e) fs
gather n e (after_left at o l ∷ fs) = if nat_le n (level_of (operator_binding o)) then gather n (between at o l e) fs else (e, after_left at o l ∷ fs)
gather n e (in_open_parens at ∷ fs) = (e, in_open_parens at ∷ fs)
gather n e (in_open_call at s es ∷ fs) = (e, in_open_call at s es ∷ fs)
gather n e (in_open_list at es ∷ fs) = (e, in_open_list at es ∷ fs)
gather n e (in_open_tail at es ∷ fs) = (e, in_open_tail at es ∷ fs)
gather n e (in_open_tuple at es ∷ fs) = (e, in_open_tuple at es ∷ fs)

-- with all operators that wait for it
abbrev pub whole_operand : FunExpr → List OpenPart → FunExpr × List OpenPart
whole_operand e fs = gather 1 e fs

-- an operator may be in the right operand of the one that waits
abbrev pub may_follow : FunOperator → List OpenPart → Bool
may_follow o (after_left at p l ∷ fs) = nat_le (right_level (operator_binding p)) (level_of (operator_binding o))
may_follow o fs = true

-- in a pattern an integer alone may be after `-`
abbrev pub may_stand : Bool → List OpenPart → Bool
may_stand true (after_prefix at o ∷ fs) = false
may_stand pattern fs = true

-- the greatest integer there: right after a prefix `-` it may be one more
abbrev pub greatest_there : List OpenPart → ℕ
greatest_there (after_prefix at op.minus ∷ fs) = GREATEST_INTEGER + 1
greatest_there fs = GREATEST_INTEGER

-- the first of three tests that fails decides
abbrev pub if_placed : Bool → Bool → Bool → ExprState → Result ExprState FaultKind
if_placed placed deep sized s = if placed then (if deep then (if sized then Ok s else Err too_large) else Err too_deep) else Err misplaced

module _ (pattern : Bool) (limit : ℕ) (sized : Bool) where
  -- one level more is there
  abbrev pub has_level_left : List OpenPart → Bool
  has_level_left fs = nat_lt (length fs) limit

  -- a number is not too large
  abbrev pub at_most_there : ℕ → ℕ → Bool
  at_most_there n greatest = not sized || nat_le n greatest

  -- there may be one more after so many
  abbrev pub one_more_of : ℕ → ℕ → Bool
  one_more_of n greatest = not sized || nat_lt n greatest

  -- a token where an operand must come
  abbrev pub operand_at : List OpenPart → ℕ → FunToken → Result ExprState FaultKind
  operand_at fs at (token.variable s) = if_placed (may_stand pattern fs) true (at_most_there (length s) ATOM_LENGTH) (has (variable at s) fs)
  operand_at fs at (token.atom s) = if_placed (may_stand pattern fs) true (at_most_there (length s) ATOM_LENGTH) (has (atom at s) fs)
  operand_at fs at (token.characters s) = if_placed (may_stand pattern fs) true (at_most_there (length s) LIST_LENGTH) (has (strings at s []) fs)
  operand_at fs at (token.whole n) = if_placed true true (at_most_there n (greatest_there fs)) (has (whole at n) fs)
  operand_at fs at (token.operator op.minus) = if_placed (may_stand pattern fs) (has_level_left fs) true (wants (after_prefix at op.minus ∷ fs))
  operand_at fs at (token.operator o) = if_placed (is_prefix o && not pattern) (has_level_left fs) true (wants (after_prefix at o ∷ fs))
  operand_at fs at token.open_paren = if_placed (not pattern) (has_level_left fs) true (wants (in_open_parens at ∷ fs))
  operand_at fs at token.open_bracket = if_placed (may_stand pattern fs) (has_level_left fs) true (wants (in_open_list at [] ∷ fs))
  operand_at fs at token.open_brace = if_placed (may_stand pattern fs) (has_level_left fs) true (wants (in_open_tuple at [] ∷ fs))
  operand_at (in_open_list here [] ∷ fs) at token.close_bracket = Ok (has (list here (of_exprs [])) fs)
  operand_at (in_open_tuple here [] ∷ fs) at token.close_brace = Ok (has (tuple here (of_exprs [])) fs)
  operand_at (in_open_call here s [] ∷ fs) at token.close_paren = Ok (has (call here s (of_exprs [])) fs)
  operand_at fs at t = Err misplaced

  -- an operator after an operand, with those that bind more
  abbrev pub operator_after : ℕ → FunOperator → FunExpr → List OpenPart → Result ExprState FaultKind
  operator_after at o e fs = if_placed (not pattern && (is_infix o && may_follow o fs)) (nat_lt (length fs + nesting_depth e) limit) true (wants (after_left at o e ∷ fs))

  -- a string after strings
  abbrev pub string_after : List ℕ → FunExpr → List OpenPart → Result ExprState FaultKind
  string_after u (strings at s ss) fs = if_placed true true (at_most_there (length (joined_codes s (ss ++ u ∷ []))) LIST_LENGTH) (has (strings at s (ss ++ u ∷ [])) fs)
  string_after u e fs = Err misplaced

  -- a parenthesis after an atom
  abbrev pub arguments_after : FunExpr → List OpenPart → Result ExprState FaultKind
  arguments_after (atom at s) fs = if_placed (not pattern) (has_level_left fs) true (wants (in_open_call at s [] ∷ fs))
  arguments_after e fs = Err misplaced

  -- a bracket that closes, after the last element
  abbrev pub close_after : FunToken → FunExpr → List OpenPart → Result ExprState FaultKind
  close_after token.close_paren e (in_open_parens at ∷ fs) = Ok (has (in_parens at e) fs)
  close_after token.close_paren e (in_open_call at s es ∷ fs) = Ok (has (call at s (of_exprs (es ++ e ∷ []))) fs)
  close_after token.close_bracket e (in_open_list at es ∷ fs) = Ok (has (list at (of_exprs (es ++ e ∷ []))) fs)
  close_after token.close_bracket e (in_open_tail at es ∷ fs) = Ok (has (list_onto at (of_exprs es) e) fs)
  close_after token.close_brace e (in_open_tuple at es ∷ fs) = Ok (has (tuple at (of_exprs (es ++ e ∷ []))) fs)
  close_after t e fs = Err misplaced

  -- a comma after an element
  abbrev pub comma_after : FunExpr → List OpenPart → Result ExprState FaultKind
  comma_after e (in_open_call at s es ∷ fs) = Ok (wants (in_open_call at s (es ++ e ∷ []) ∷ fs))
  comma_after e (in_open_list at es ∷ fs) = if_placed true true (one_more_of (length (es ++ e ∷ [])) LIST_LENGTH) (wants (in_open_list at (es ++ e ∷ []) ∷ fs))
  comma_after e (in_open_tuple at es ∷ fs) = if_placed true true (one_more_of (length (es ++ e ∷ [])) TUPLE_LENGTH) (wants (in_open_tuple at (es ++ e ∷ []) ∷ fs))
  comma_after e fs = Err misplaced

  -- a bar after the last element before a tail
  abbrev pub bar_after : FunExpr → List OpenPart → Result ExprState FaultKind
  bar_after e (in_open_list at es ∷ fs) = Ok (wants (in_open_tail at (es ++ e ∷ []) ∷ fs))
  bar_after e fs = Err misplaced

  -- with the operand and the parts that are left
  abbrev pub on_operand : (FunExpr → List OpenPart → Result ExprState FaultKind) → FunExpr × List OpenPart → Result ExprState FaultKind
  on_operand f p = f p.0 p.1

  -- a token after an operand
  abbrev pub after_operand : FunExpr → List OpenPart → ℕ → FunToken → Result ExprState FaultKind
  after_operand e fs at (token.operator o) = on_operand (operator_after at o) (gather (left_level (operator_binding o)) e fs)
  after_operand e fs at (token.characters u) = string_after u e fs
  after_operand e fs at token.open_paren = arguments_after e fs
  after_operand e fs at token.close_paren = on_operand (close_after token.close_paren) (whole_operand e fs)
  after_operand e fs at token.close_bracket = on_operand (close_after token.close_bracket) (whole_operand e fs)
  after_operand e fs at token.close_brace = on_operand (close_after token.close_brace) (whole_operand e fs)
  after_operand e fs at token.comma = on_operand comma_after (whole_operand e fs)
  after_operand e fs at token.bar = on_operand bar_after (whole_operand e fs)
  after_operand e fs at t = Err misplaced

  -- a token within an expression or a pattern
  abbrev pub fun_expr_step : ExprState → FunSpan → Result ExprState FaultKind
  fun_expr_step (wants fs) x = operand_at fs x.from x.token
  fun_expr_step (has e fs) x = after_operand e fs x.from x.token

-- the whole expression, where no bracket is open
abbrev pub if_none_open : FunExpr × List OpenPart → Option FunExpr
if_none_open (e, []) = Some e
if_none_open (e, f ∷ fs) = None

-- the expression so far, where it may end here
abbrev pub ended_expr : ExprState → Option FunExpr
ended_expr (wants fs) = None
ended_expr (has e fs) = if_none_open (whole_operand e fs)

-- ---- clauses

-- a clause whose head is read: the clauses before, the offset of its `(`, its head, and its guards so far
pub record ClauseSoFar : Type 0 where
  pub earlier : List FunClause
  pub at : ℕ
  pub head : FunHead
  pub guards : List (List FunExpr)

-- how far a fun is read
pub data FunState : Type 0 where
  -- `fun` comes next
  before_fun : FunState
  -- `(` comes next
  before_clause : List FunClause → FunState
  -- in a head, or in its part after `=`
  in_head : List FunClause → ℕ → Option FunExpr → ExprState → FunState
  -- `when` or `->` comes next
  after_head : ClauseSoFar → FunState
  -- in a guard, after some of its conditions
  in_guard : ClauseSoFar → List FunExpr → ExprState → FunState
  -- in a body, after some of its expressions
  in_fun_body : ClauseSoFar → List FunExpr → ExprState → FunState
  -- after `end`
  after_end : List FunClause → FunState
  -- after the full stop
  after_stop : List FunClause → FunState

-- a head of one part or two
abbrev pub head_of_parts : Option FunExpr → FunExpr → FunHead
head_of_parts None e = alone e
head_of_parts (Some a) e = both a e

-- a head begins with a variable or a list; after a list and `=` with a variable
abbrev pub begins_head : Option FunExpr → FunToken → Bool
begins_head a (token.variable s) = true
begins_head None token.open_bracket = true
begins_head (Some a) token.open_bracket = is_variable_expr a
begins_head a t = false

-- how many clauses of the specification there are up to here, with the guard that is read
abbrev pub clauses_in_guard : ClauseSoFar → ℕ
clauses_in_guard c = spec_clauses c.earlier + (length c.guards + 1)

-- up to here, in a body
abbrev pub clauses_in_body : ClauseSoFar → ℕ
clauses_in_body c = spec_clauses c.earlier + max 1 (length c.guards)

-- the clause with its guard
abbrev pub with_guard : ClauseSoFar → List FunExpr → ClauseSoFar
with_guard c g = record c { guards = c.guards ++ g ∷ [] }

-- the clauses with this one
abbrev pub with_clause : ClauseSoFar → List FunExpr → List FunClause
with_clause c es = c.earlier ++ record { at = c.at; head = c.head; guards = c.guards; body = es } ∷ []

-- where it fits
abbrev pub if_sized : Bool → FunState → Result FunState FaultKind
if_sized fits s = if fits then Ok s else Err too_large

-- a step within
abbrev pub on_step : (ExprState → FunState) → Result ExprState FaultKind → Result FunState FaultKind
on_step f (Ok s) = Ok (f s)
on_step f (Err k) = Err k

-- nothing of an expression is read yet
abbrev pub expr_start : ExprState
expr_start = wants []

-- `fun`
abbrev pub begin_fun : FunToken → Result FunState FaultKind
begin_fun token.fun_word = Ok (before_clause [])
begin_fun t = Err misplaced

-- `(`
abbrev pub begin_clause : List FunClause → ℕ → FunToken → Result FunState FaultKind
begin_clause ks at token.open_paren = Ok (in_head ks at None expr_start)
begin_clause ks at t = Err misplaced

-- `when` or `->`
abbrev pub begin_guard : ClauseSoFar → FunToken → Result FunState FaultKind
begin_guard c token.when_word = Ok (in_guard c [] expr_start)
begin_guard c token.arrow = Ok (in_fun_body c [] expr_start)
begin_guard c t = Err misplaced

-- a full stop
abbrev pub stop_fun : List FunClause → FunToken → Result FunState FaultKind
stop_fun ks token.full_stop = Ok (after_stop ks)
stop_fun ks t = Err misplaced

-- a refusal, with the tokens from the refused one on; there are none where the text ends before its fun does
abbrev pub FunFault : Type 0
FunFault = FaultKind × List FunSpan

module _ (limit : ℕ) (sized : Bool) where
  -- a token after a part of a head that may end here; another goes on with it
  abbrev pub head_after : List FunClause → ℕ → Option FunExpr → FunExpr → FunToken → Result FunState FaultKind → Result FunState FaultKind
  head_after ks at a e token.close_paren r = Ok (after_head (record { earlier = ks; at = at; head = head_of_parts a e; guards = [] }))
  head_after ks at None e token.match r = Ok (in_head ks at (Some e) expr_start)
  head_after ks at a e t r = r

  -- after a condition that may end here
  abbrev pub guard_after : ClauseSoFar → List FunExpr → FunToken → Result FunState FaultKind → Result FunState FaultKind
  guard_after c es token.comma r = if_sized (not sized || nat_lt (length es) LIST_LENGTH) (in_guard c es expr_start)
  guard_after c es token.semicolon r = if_sized (not sized || nat_lt (clauses_in_guard c) CLAUSES) (in_guard (with_guard c es) [] expr_start)
  guard_after c es token.arrow r = Ok (in_fun_body (with_guard c es) [] expr_start)
  guard_after c es t r = r

  -- after an expression of a body that may end here
  abbrev pub body_after : ClauseSoFar → List FunExpr → FunToken → Result FunState FaultKind → Result FunState FaultKind
  body_after c es token.comma r = if_sized (not sized || nat_lt (length es) LIST_LENGTH) (in_fun_body c es expr_start)
  body_after c es token.semicolon r = if_sized (not sized || nat_lt (clauses_in_body c) CLAUSES) (before_clause (with_clause c es))
  body_after c es token.end_word r = Ok (after_end (with_clause c es))
  body_after c es t r = r

  -- where an expression may end, and where it goes on
  abbrev pub ends_or : Option FunExpr → (FunExpr → Result FunState FaultKind → Result FunState FaultKind) → Result FunState FaultKind → Result FunState FaultKind
  ends_or None f r = r
  ends_or (Some e) f r = f e r

  -- the first token of a head, or a later one
  abbrev pub head_step : List FunClause → ℕ → Option FunExpr → ExprState → FunSpan → Result FunState FaultKind
  head_step ks at a (wants []) x = if begins_head a x.token then on_step (in_head ks at a) (fun_expr_step true limit sized (wants []) x) else Err misplaced
  head_step ks at a s x = ends_or (ended_expr s) (λ e r. head_after ks at a e x.token r) (on_step (in_head ks at a) (fun_expr_step true limit sized s x))

  -- one token
  abbrev pub fun_step : FunState → FunSpan → Result FunState FaultKind
  fun_step before_fun x = begin_fun x.token
  fun_step (before_clause ks) x = begin_clause ks x.from x.token
  fun_step (in_head ks at a s) x = head_step ks at a s x
  fun_step (after_head c) x = begin_guard c x.token
  fun_step (in_guard c es s) x = ends_or (ended_expr s) (λ e r. guard_after c (es ++ e ∷ []) x.token r) (on_step (in_guard c es) (fun_expr_step false limit sized s x))
  fun_step (in_fun_body c es s) x = ends_or (ended_expr s) (λ e r. body_after c (es ++ e ∷ []) x.token r) (on_step (in_fun_body c es) (fun_expr_step false limit sized s x))
  fun_step (after_end ks) x = stop_fun ks x.token
  fun_step (after_stop ks) x = Err misplaced

  -- one token after the other; the first that is refused, with those after it
  abbrev pub after_fun_step : Result FunState FaultKind → (FunState → Result FunState FunFault) → List FunSpan → Result FunState FunFault
  after_fun_step (Ok s) go ts = go s
  after_fun_step (Err k) go ts = Err (k, ts)

  -- a fold
  abbrev pub fun_run : FunState → List FunSpan → Result FunState FunFault
  fun_run s [] = Ok s
  fun_run s (x ∷ xs) = after_fun_step (fun_step s x) (λ z. fun_run z xs) (x ∷ xs)

-- a fun ends after `end`, or after a full stop; elsewhere the text ends before it does
abbrev pub fun_end : FunState → Result (List FunClause) FunFault
fun_end (after_end ks) = Ok ks
fun_end (after_stop ks) = Ok ks
fun_end s = Err (misplaced, [])

-- the end of a run
abbrev pub fun_finish : Result FunState FunFault → Result (List FunClause) FunFault
fun_finish (Err r) = Err r
fun_finish (Ok s) = fun_end s

-- the clauses that the tokens spell, or the refusal
abbrev pub read_fun : ℕ → Bool → List FunSpan → Result (List FunClause) FunFault
read_fun limit sized ts = fun_finish (fun_run limit sized before_fun ts)
