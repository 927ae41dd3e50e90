-- What the code's specifications stand for.
use Rattle.std.specs.Prelude.{List, [], ◌∷◌, map}
use Rattle.std.specs.declared.vec.Vec.{Vec}
use Rattle.tn_term.specs.Views.{tree_of}
use Rattle.def_spec.specs.Matching as matching
use Rattle.def_spec.specs.Matching.{Patterns, no_patterns, and_pattern}
use Rattle.def_spec.specs.Functions as fn
use Rattle.def_spec.specs.Expressions as ex
use Rattle.def_spec.specs.Expressions.{Exprs, no_exprs, and_expr}
use Rattle.def_spec.specs.Outcome as outcome
use Rattle.tn_spec.specs.declared.func.Dialect.{Dialect}
use Rattle.tn_spec.specs.declared.func.Dialect.TheVariants as dialects
use Rattle.tn_spec.specs.declared.func.Func.{Func}
use Rattle.tn_spec.specs.declared.func.Func.TheVariants as funcs
use Rattle.tn_spec.specs.declared.func.Action.{Action}
use Rattle.tn_spec.specs.declared.func.Action.TheVariants as actions
use Rattle.tn_spec.specs.declared.pattern.Pattern.{Pattern, fold-Pattern}
use Rattle.tn_spec.specs.declared.pattern.Pattern.TheOpen.{Pattern-F}
use Rattle.tn_spec.specs.declared.pattern.Head.{Head}
use Rattle.tn_spec.specs.declared.pattern.Head.TheVariants as heads
use Rattle.tn_spec.specs.declared.expr.Expr.{Expr, fold-Expr}
use Rattle.tn_spec.specs.declared.expr.Expr.TheOpen.{Expr-F}
use Rattle.tn_spec.specs.declared.spec.Clause.{Clause}

abbrev pub dialect_of : Dialect → ex.Dialect
dialect_of dialects.Call = ex.for_calls
dialect_of dialects.Send = ex.for_sends
dialect_of dialects.Recv = ex.for_receives

abbrev pub func_of : Func → fn.Func
func_of funcs.IsAtom = fn.is_atom
func_of funcs.IsInteger = fn.is_integer
func_of funcs.IsList = fn.is_list
func_of funcs.IsTuple = fn.is_tuple
func_of funcs.IsPid = fn.is_pid
func_of funcs.IsNumber = fn.is_number
func_of funcs.IsBoolean = fn.is_boolean
func_of funcs.IsFloat = fn.is_float
func_of funcs.IsPort = fn.is_port
func_of funcs.IsReference = fn.is_reference
func_of funcs.IsMap = fn.is_map
func_of funcs.IsBinary = fn.is_binary
func_of funcs.IsBitstring = fn.is_bitstring
func_of funcs.IsFunction = fn.is_function
func_of funcs.Head = fn.head
func_of funcs.Tail = fn.tail
func_of funcs.Length = fn.length
func_of funcs.Size = fn.size
func_of funcs.TupleSize = fn.tuple_size
func_of funcs.Element = fn.element
func_of funcs.Absolute = fn.absolute
func_of funcs.Add = fn.add
func_of funcs.Subtract = fn.subtract
func_of funcs.Multiply = fn.multiply
func_of funcs.Divide = fn.divide
func_of funcs.Remainder = fn.remainder
func_of funcs.BitAnd = fn.bit_and
func_of funcs.BitOr = fn.bit_or
func_of funcs.BitXor = fn.bit_xor
func_of funcs.BitNot = fn.bit_not
func_of funcs.Greater = fn.greater
func_of funcs.GreaterOrEqual = fn.greater_or_equal
func_of funcs.Less = fn.less
func_of funcs.LessOrEqual = fn.less_or_equal
func_of funcs.Equal = fn.equal
func_of funcs.ExactlyEqual = fn.exactly_equal
func_of funcs.NotEqual = fn.not_equal
func_of funcs.ExactlyNotEqual = fn.exactly_not_equal
func_of funcs.OwnPid = fn.own_pid
func_of funcs.OwnNode = fn.own_node
func_of funcs.AllOf = fn.all_of
func_of funcs.OneOf = fn.one_of
func_of funcs.JustOneOf = fn.just_one_of
func_of funcs.IsFalse = fn.is_false

abbrev pub action_of : Action → ex.Action
action_of actions.Message = ex.message
action_of actions.ReturnTrace = ex.return_trace
action_of actions.ExceptionTrace = ex.exception_trace
action_of actions.Silent = ex.silent
action_of actions.EnableTrace = ex.enable_trace
action_of actions.DisableTrace = ex.disable_trace
action_of actions.Trace = ex.trace
action_of actions.Caller = ex.caller

-- ---- heads

abbrev pub patterns_from : List matching.Pattern → Patterns
patterns_from [] = no_patterns
patterns_from (p ∷ ps) = and_pattern p (patterns_from ps)

-- one level, with each part already seen
abbrev pub pattern_step : {A : Type 0} → Pattern-F A matching.Pattern → matching.Pattern
pattern_step (Pattern-F.Variable n) = matching.variable n
pattern_step Pattern-F.Anything = matching.anything
pattern_step (Pattern-F.Only t) = matching.only_term (tree_of t)
pattern_step (Pattern-F.Tuple v) = matching.in_tuple (patterns_from v.items)
pattern_step (Pattern-F.List v) = matching.in_list (patterns_from v.items)

abbrev pub pattern_seen : {A : Type 0} → Pattern A → matching.Pattern
pattern_seen {A} = fold-Pattern A matching.Pattern pattern_step

abbrev pub patterns_seen : {A : Type 0} → List (Pattern A) → Patterns
patterns_seen ps = patterns_from (map pattern_seen ps)

abbrev pub pattern_list : {A : Type 0} → Vec (Pattern A) A → Patterns
pattern_list v = patterns_seen v.items

abbrev pub head_seen : {A : Type 0} → Head A → matching.Pattern
head_seen (heads.Variable n) = matching.variable n
head_seen heads.Anything = matching.anything
head_seen (heads.List v) = matching.in_list (patterns_seen v.items)

-- ---- expressions

abbrev pub exprs_from : List ex.Expr → Exprs
exprs_from [] = no_exprs
exprs_from (e ∷ es) = and_expr e (exprs_from es)

-- one level, with each part already seen
abbrev pub expr_step : {A : Type 0} → Expr-F A ex.Expr → ex.Expr
expr_step (Expr-F.Variable n) = ex.bound_to n
expr_step Expr-F.WholeList = ex.whole_list
expr_step Expr-F.AllBound = ex.all_bound
expr_step (Expr-F.Constant t) = ex.constant (tree_of t)
expr_step (Expr-F.Tuple v) = ex.tuple_of (exprs_from v.items)
expr_step (Expr-F.List v) = ex.list_of (exprs_from v.items)
expr_step (Expr-F.Call f v) = ex.call (func_of f) (exprs_from v.items)
expr_step (Expr-F.AndAlso v) = ex.and_also (exprs_from v.items)
expr_step (Expr-F.OrElse v) = ex.or_else (exprs_from v.items)
expr_step (Expr-F.Perform a v) = ex.perform (action_of a) (exprs_from v.items)

abbrev pub expr_seen : {A : Type 0} → Expr A → ex.Expr
expr_seen {A} = fold-Expr A ex.Expr expr_step

abbrev pub exprs_seen : {A : Type 0} → List (Expr A) → Exprs
exprs_seen es = exprs_from (map expr_seen es)

abbrev pub expr_list : {A : Type 0} → Vec (Expr A) A → Exprs
expr_list v = exprs_seen v.items

-- ---- clauses

abbrev pub clause_seen : {A : Type 0} → Clause A → outcome.Clause
clause_seen k = record { head = head_seen k.head; conditions = exprs_seen k.conditions.items; body = exprs_seen k.body.items }

abbrev pub clause_list : {A : Type 0} → Vec (Clause A) A → List outcome.Clause
clause_list v = map clause_seen v.items

-- a specification of these clauses
abbrev pub spec_from : {A : Type 0} → Dialect → List (Clause A) → outcome.Spec
spec_from d ks = record { dialect = dialect_of d; clauses = map clause_seen ks }
