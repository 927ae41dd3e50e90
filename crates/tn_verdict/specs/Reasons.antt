-- The definitions of reasons, of the code's heads and clauses and in what their conditions are evaluated in.
use Rattle.std.specs.Prelude.{◌≡◌, ℕ, Bool, true, false, Option, []}
use Rattle.std.specs.declared.alloc.Allocator.{Ghosts}
use Rattle.std.specs.declared.vec.Vec.{Vec}
use Rattle.def_spec.specs.Expressions as ex
use Rattle.def_explain.specs.Heads as heads
use Rattle.def_explain.specs.Values as faults
use Rattle.def_explain.specs.Verdicts as verdicts
use Rattle.tn_guard.specs.Views.{parts_list}
use Rattle.tn_guard.specs.declared.list_view.ListView.{ListView}
use Rattle.tn_head.specs.Views.{bindings_seen}
use Rattle.tn_spec.specs.Views.{clause_seen, dialect_of, expr_seen, exprs_seen, head_seen, patterns_seen}
use Rattle.tn_spec.specs.declared.expr.Expr.{Expr}
use Rattle.tn_spec.specs.declared.func.Dialect.{Dialect}
use Rattle.tn_spec.specs.declared.pattern.Head.{Head}
use Rattle.tn_spec.specs.declared.pattern.Pattern.{Pattern}
use Rattle.tn_spec.specs.declared.spec.Clause.{Clause}
use Rattle.tn_action.specs.Views.{context_seen}
use Rattle.tn_action.specs.declared.context.Context.{Context}
use Rattle.tn_action.specs.declared.eval_context.Position.TheVariants.{Condition}
use Rattle.tn_action.specs.declared.eval_context.EvalContext.{EvalContext}

-- why a head doesn't match the list of these elements
abbrev pub head_reason_of : {P A : Type 0} → Head P → ListView A → Option heads.HeadReason
head_reason_of h list = heads.head_reason (head_seen h) (parts_list list)

-- what becomes of a clause
abbrev pub clause_verdict_of : {A : Type 0} → Dialect → Clause A → Context A → verdicts.Verdict
clause_verdict_of d k c = verdicts.verdict_of (dialect_of d) (clause_seen k) (context_seen c)

module _ {A : Type 0} {G : Ghosts A} (s : EvalContext A G) where
  -- conditions are evaluated
  abbrev pub IsOfConditions : Type 0
  IsOfConditions = s.part ≡ Condition

  abbrev pub fault_of : Expr A → Option ex.Expr
  fault_of e = faults.fault_in (dialect_of s.dialect) (bindings_seen s.bindings.now) (context_seen s.context.now) (expr_seen e)

  abbrev pub fault_of_one : Vec (Expr A) A → Option ex.Expr
  fault_of_one es = faults.fault_in_one (dialect_of s.dialect) (bindings_seen s.bindings.now) (context_seen s.context.now) (exprs_seen es.items)

  -- up to the first whose being true is this
  abbrev pub fault_in_turn : Bool → ex.Exprs → Option ex.Expr
  fault_in_turn true es = faults.fault_until_true (dialect_of s.dialect) (bindings_seen s.bindings.now) (context_seen s.context.now) es
  fault_in_turn false es = faults.fault_while_true (dialect_of s.dialect) (bindings_seen s.bindings.now) (context_seen s.context.now) es
