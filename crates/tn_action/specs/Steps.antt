-- What the code's functions come to, in the definitions' words.
use Rattle.std.specs.Prelude.{◌≡◌, ℕ, Bool, if◌then◌else◌, List, [], ◌∷◌, ◌++◌, map, Option}
use Rattle.std.specs.Option.{option_map}
use Rattle.std.specs.declared.alloc.Allocator.{Ghosts}
use Rattle.std.specs.declared.vec.Vec.{Vec}
use Rattle.smallvec.specs.SmallVec.{SmallVec}
use Rattle.def_term.specs.Tree.{Tree, tuple, list, of_elements}
use Rattle.def_spec.specs.Expressions as ex
use Rattle.def_spec.specs.Flags.{Flags, no_flags, flags_in}
use Rattle.def_spec.specs.Functions.{truth}
use Rattle.def_spec.specs.Outcome as definition
use Rattle.tn_guard.specs.Views.{value_seen}
use Rattle.tn_guard.specs.declared.value.Value.{Value}
use Rattle.tn_spec.specs.Views.{dialect_of, func_of, action_of, clause_seen, expr_seen, exprs_seen}
use Rattle.tn_spec.specs.Wholes.{spec_seen}
use Rattle.tn_spec.specs.declared.expr.Expr.{Expr}
use Rattle.tn_spec.specs.declared.func.Action.{Action}
use Rattle.tn_spec.specs.declared.func.Dialect.{Dialect}
use Rattle.tn_spec.specs.declared.func.Func.{Func}
use Rattle.tn_spec.specs.declared.spec.Clause.{Clause}
use Rattle.tn_spec.specs.declared.spec.Spec.{Spec}
use Rattle.tn_action.specs.Parts.{eval_position_seen}
use Rattle.tn_action.specs.EvalContexts.{evaluation_in, all_in, while_true_in, until_true_in}
use Rattle.tn_action.specs.Views.{result_seen, context_seen, effect_seen}
use Rattle.tn_action.specs.declared.actions.ActionResult.{ActionResult}
use Rattle.tn_action.specs.declared.context.Context.{Context}
use Rattle.tn_action.specs.declared.effect.Effect.{Effect}
use Rattle.tn_action.specs.declared.eval_context.EvalContext.{EvalContext}

-- ---- actions

-- the value and the effects of the action on these values, in every dialect and context
abbrev pub IsActionDone : {A : Type 0} → ex.Action → List (Value A) → Option (ActionResult A) → Type 0
IsActionDone a args r = (d : ex.Dialect) → (c : ex.Context) → option_map result_seen r ≡ ex.action_done d a (map value_seen args) c

-- the context whose flags are those after these effects
abbrev pub context_at : {A : Type 0} → Context A → List (Effect A) → ex.Context
context_at c es = ex.context_after (context_seen c) (map effect_seen es)

-- one effect, where there is one
abbrev pub change_seen : {A : Type 0} → Option (Effect A) → Option (List ex.Effect)
change_seen r = option_map (λ e. effect_seen e ∷ []) r

-- two values as arguments
abbrev pub two_seen : {A : Type 0} → Value A → Value A → List Tree
two_seen one other = value_seen one ∷ value_seen other ∷ []

-- these flags of a process set or cleared
abbrev pub flags_changed : Bool → ℕ → Flags → ex.Effect
flags_changed on n f = ex.changes n (if on then no_flags else f) (if on then f else no_flags)

-- `trace` on the process of a value, with two lists of flags
abbrev pub trace_of : {A : Type 0} → ex.Context → (process off on : Value A) → Option (Tree × List ex.Effect)
trace_of c process off on = ex.trace_on c (value_seen process) (value_seen off) (value_seen on)

-- it changes these flags, and tells whether they change
abbrev pub flags_traced : ex.Context → ℕ → (off on : Flags) → Tree × List ex.Effect
flags_traced c n off on = (truth (ex.is_changing (flags_in c.flags n) off on), ex.changes n off on ∷ [])

-- ---- values

-- the values, where there are any
abbrev pub several_seen : {A : Type 0} → Option (SmallVec (Value A)) → Option (List Tree)
several_seen vs = option_map (λ v. map value_seen v.items) vs

-- the tuple of them
abbrev pub tuple_seen : {A : Type 0} → Option (SmallVec (Value A)) → Option Tree
tuple_seen vs = option_map (λ ts. tuple (of_elements ts)) (several_seen vs)

-- the list of them
abbrev pub value_list_seen : {A : Type 0} → Option (SmallVec (Value A)) → Option Tree
value_list_seen vs = option_map (λ ts. list (of_elements ts)) (several_seen vs)

-- what the effects so far ask of the session
abbrev pub effect_list_seen : {A : Type 0} → Vec (Effect A) A → List ex.Effect
effect_list_seen es = map effect_seen es.items

-- the effects are these after the old ones
abbrev pub AreAfter : {A : Type 0} → List ex.Effect → Vec (Effect A) A → Vec (Effect A) A → Type 0
AreAfter es old new = effect_list_seen new ≡ effect_list_seen old ++ es

-- a value or a fault, with the effects so far
abbrev pub evaluation_seen : {A : Type 0} → Option (Value A) → Vec (Effect A) A → ex.Evaluation Tree
evaluation_seen v es = ex.or_fault (option_map value_seen v) (effect_list_seen es)

-- several values or a fault
abbrev pub evaluations_seen : {A : Type 0} → Option (SmallVec (Value A)) → Vec (Effect A) A → ex.Evaluation (List Tree)
evaluations_seen vs es = ex.or_fault (several_seen vs) (effect_list_seen es)

module _ {A : Type 0} {G : Ghosts A} (s : EvalContext A G) where
  -- what an expression comes to after the effects so far; a tuple of expressions, a list of them, and a function or an action on them
  abbrev pub evaluation_of : Expr A → Vec (Effect A) A → ex.Evaluation Tree
  evaluation_of e x = evaluation_in s (expr_seen e) (effect_list_seen x)

  abbrev pub evaluation_of_tuple : Vec (Expr A) A → Vec (Effect A) A → ex.Evaluation Tree
  evaluation_of_tuple es x = evaluation_in s (ex.tuple_of (exprs_seen es.items)) (effect_list_seen x)

  abbrev pub evaluation_of_list : Vec (Expr A) A → Vec (Effect A) A → ex.Evaluation Tree
  evaluation_of_list es x = evaluation_in s (ex.list_of (exprs_seen es.items)) (effect_list_seen x)

  abbrev pub call_value : Func → Vec (Expr A) A → Vec (Effect A) A → ex.Evaluation Tree
  call_value f es x = evaluation_in s (ex.call (func_of f) (exprs_seen es.items)) (effect_list_seen x)

  abbrev pub action_value : Action → Vec (Expr A) A → Vec (Effect A) A → ex.Evaluation Tree
  action_value a es x = evaluation_in s (ex.perform (action_of a) (exprs_seen es.items)) (effect_list_seen x)

  -- several expressions, all of them, and up to the first that isn't true, or that is
  abbrev pub list_values : Vec (Expr A) A → Vec (Effect A) A → ex.Evaluation (List Tree)
  list_values es x = all_in s (exprs_seen es.items) (effect_list_seen x)

  abbrev pub evaluation_while_true : Vec (Expr A) A → Vec (Effect A) A → ex.Evaluation Tree
  evaluation_while_true es x = while_true_in s (exprs_seen es.items) (effect_list_seen x)

  abbrev pub evaluation_until_true : Vec (Expr A) A → Vec (Effect A) A → ex.Evaluation Tree
  evaluation_until_true es x = until_true_in s (exprs_seen es.items) (effect_list_seen x)

  -- an action on these values after some effects
  abbrev pub action_on_values : Action → List (Value A) → List (Effect A) → Option (Tree × List ex.Effect)
  action_on_values a vs es = ex.action_done (dialect_of s.dialect) (action_of a) (map value_seen vs) (context_at s.context.now es)

  -- what a call of it comes to
  abbrev pub perform_seen : Action → List (Value A) → Vec (Effect A) A → ex.Evaluation Tree
  perform_seen a vs es = ex.with_effect (eval_position_seen s.part) (action_on_values a vs es.items) (effect_list_seen es)

-- ---- outcomes

-- the effects, where there are any
abbrev pub effects_seen : {A : Type 0} → Option (Vec (Effect A) A) → Option (List ex.Effect)
effects_seen r = option_map (λ v. map effect_seen v.items) r

-- the outcome of a specification
abbrev pub spec_outcome : {A : Type 0} → Spec A → Context A → definition.Outcome
spec_outcome s c = definition.outcome_of (spec_seen s) (context_seen c)

-- it is the outcome of a specification
abbrev pub IsOutcomeIn : {A : Type 0} → Spec A → Context A → definition.Outcome → Type 0
IsOutcomeIn s c o = definition.IsOutcome (spec_seen s) (context_seen c) o

-- what the clause gives where it fires, or what the clauses after it give
abbrev pub fired_or : {A : Type 0} → Dialect → Clause A → Context A → definition.Outcome → definition.Outcome
fired_or d k c next =
    definition.or_next (dialect_of d) (definition.firing_bindings (dialect_of d) (clause_seen k) (context_seen c)) (context_seen c) (exprs_seen k.body.items) next
