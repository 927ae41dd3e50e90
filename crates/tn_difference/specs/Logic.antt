-- Logic on what is no boolean, in the code's expressions.
use Rattle.std.specs.Prelude.{◌≡◌, Bool, List}
use Rattle.std.specs.declared.alloc.Allocator.{Ghosts}
use Rattle.std.specs.declared.vec.Vec.{Vec}
use Rattle.def_spec.specs.Expressions.{Expr, Exprs, Effect}
use Rattle.def_explain.specs.Logic.{one_is_no_boolean, on_value, is_logic_on_other, has_logic_on_other, one_has_logic_on_other, has_logic_on_other_while, clause_has_logic_on_other}
use Rattle.tn_head.specs.Views.{bindings_seen}
use Rattle.tn_head.specs.declared.bindings.Bindings.{Bindings}
use Rattle.tn_spec.specs.Views.{dialect_of, func_of, clause_seen, expr_seen, exprs_seen}
use Rattle.tn_spec.specs.declared.expr.Expr as code
use Rattle.tn_spec.specs.declared.func.Dialect.{Dialect}
use Rattle.tn_spec.specs.declared.func.Func.{Func}
use Rattle.tn_spec.specs.declared.spec.Clause.{Clause}
use Rattle.tn_action.specs.Parts.{eval_position_seen}
use Rattle.tn_action.specs.Steps.{effect_list_seen, list_values, AreAfter}
use Rattle.tn_action.specs.Views.{context_seen}
use Rattle.tn_action.specs.declared.context.Context.{Context}
use Rattle.tn_action.specs.declared.effect.Effect as done
use Rattle.tn_action.specs.declared.eval_context.EvalContext.{EvalContext}

-- the old effects are there, with others after them
abbrev pub HasMoreEffects : {A : Type 0} → Vec (done.Effect A) A → Vec (done.Effect A) A → Type 0
HasMoreEffects old new = (es : List Effect) × AreAfter es old new

-- the same effects
abbrev pub HasSameEffects : {A : Type 0} → Vec (done.Effect A) A → Vec (done.Effect A) A → Type 0
HasSameEffects old new = effect_list_seen new ≡ effect_list_seen old

module _ {A : Type 0} {G : Ghosts A} (s : EvalContext A G) where
  -- after some effects: whether an expression calls logic on what is no boolean, or one of several, or one up to the first that isn't true, or is
  abbrev pub logic_in : Expr → List Effect → Bool
  logic_in = has_logic_on_other (dialect_of s.dialect) (eval_position_seen s.part) (bindings_seen s.bindings.now) (context_seen s.context.now)

  abbrev pub logic_in_one : Exprs → List Effect → Bool
  logic_in_one = one_has_logic_on_other (dialect_of s.dialect) (eval_position_seen s.part) (bindings_seen s.bindings.now) (context_seen s.context.now)

  abbrev pub logic_in_turn : Bool → Exprs → List Effect → Bool
  logic_in_turn = has_logic_on_other_while (dialect_of s.dialect) (eval_position_seen s.part) (bindings_seen s.bindings.now) (context_seen s.context.now)

  -- the same of the code's expressions
  abbrev pub logic_of : code.Expr A → Vec (done.Effect A) A → Bool
  logic_of e x = logic_in (expr_seen e) (effect_list_seen x)

  abbrev pub logic_of_one : Vec (code.Expr A) A → Vec (done.Effect A) A → Bool
  logic_of_one es x = logic_in_one (exprs_seen es.items) (effect_list_seen x)

  abbrev pub logic_of_turn : Bool → Vec (code.Expr A) A → Vec (done.Effect A) A → Bool
  logic_of_turn q es x = logic_in_turn q (exprs_seen es.items) (effect_list_seen x)

  -- whether the call of a function is one of logic on what is no boolean
  abbrev pub logic_of_call : Func → Vec (code.Expr A) A → Vec (done.Effect A) A → Bool
  logic_of_call f es x =
      is_logic_on_other (dialect_of s.dialect) (eval_position_seen s.part) (bindings_seen s.bindings.now) (context_seen s.context.now) (func_of f) (exprs_seen es.items) (effect_list_seen x)

  -- several have values, and one of these is no boolean
  abbrev pub has_other_value : Vec (code.Expr A) A → Vec (done.Effect A) A → Bool
  has_other_value es x = on_value (list_values s es x) (λ ts y. one_is_no_boolean ts)

-- a clause that fires with these bindings calls logic on what is no boolean
abbrev pub logic_of_clause : {A B : Type 0} → Dialect → Clause A → Bindings A B → Context A → Bool
logic_of_clause d k b c = clause_has_logic_on_other (dialect_of d) (clause_seen k) (bindings_seen b) (context_seen c)
