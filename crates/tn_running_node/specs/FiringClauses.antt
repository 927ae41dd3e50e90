-- Whether a clause fires, and with which binding.
use Rattle.std.specs.Prelude.{◌≡◌, Bool}
use Rattle.std.specs.declared.alloc.Allocator.{Ghosts}
use Rattle.def_spec.specs.Expressions.{Exprs, in_condition, value, is_true_value, effects_of_all}
use Rattle.def_spec.specs.Outcome.{each_true}
use Rattle.def_explain.specs.Reasons.{Reason}
use Rattle.def_explain.specs.Verdicts.{fails, fires, verdict_of}
use Rattle.tn_head.specs.Views.{bindings_seen}
use Rattle.tn_head.specs.declared.bindings.Bindings.{Bindings}
use Rattle.tn_spec.specs.Views.{dialect_of, clause_seen, expr_seen}
use Rattle.tn_spec.specs.declared.expr.Expr.{Expr}
use Rattle.tn_spec.specs.declared.func.Dialect.{Dialect}
use Rattle.tn_spec.specs.declared.spec.Clause.{Clause}
use Rattle.tn_action.specs.Views.{context_seen}
use Rattle.tn_action.specs.declared.context.Context.{Context}
use Rattle.tn_action.specs.declared.eval_context.EvalContext.{EvalContext}

module _ {A : Type 0} {G : Ghosts A} (s : EvalContext A G) where
  -- a condition is `true`
  abbrev pub holds_in : Expr A → Bool
  holds_in e = is_true_value (value (dialect_of s.dialect) in_condition (bindings_seen s.bindings.now) (context_seen s.context.now) (expr_seen e))

  -- each of several is
  abbrev pub all_hold_in : Exprs → Bool
  all_hold_in es = each_true (dialect_of s.dialect) (bindings_seen s.bindings.now) (context_seen s.context.now) es

-- the clause doesn't fire
abbrev pub Fails : {A : Type 0} → Dialect → Clause A → Context A → Type 0
Fails d k c = (r : Reason) × (fails r ≡ verdict_of (dialect_of d) (clause_seen k) (context_seen c))

-- it fires with this binding
abbrev pub FiresWith : {A B : Type 0} → Dialect → Clause A → Context A → Bindings A B → Type 0
FiresWith d k c b = fires (bindings_seen b) (effects_of_all (dialect_of d) (bindings_seen b) (context_seen c) (clause_seen k).body) ≡ verdict_of (dialect_of d) (clause_seen k) (context_seen c)
