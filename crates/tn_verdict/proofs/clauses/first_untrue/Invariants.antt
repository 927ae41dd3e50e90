use Rattle.std.proofs.Common.{◌≡◌, drop}
use Rattle.def_explain.specs.Reasons.{untrue_in}
use Rattle.tn_action.specs.Views.{context_seen}
use Rattle.tn_head.specs.Views.{bindings_seen}
use Rattle.tn_spec.specs.Views.{dialect_of, exprs_seen}
use Rattle.tn_verdict.proofs.clauses.first_untrue.Given as goal

abbrev pub invariant-loop-index : goal.invariant-loop-index
invariant-loop-index g l =
    untrue_in (dialect_of l.fn.dialect) (bindings_seen l.bindings) (context_seen l.context) l.index (exprs_seen (drop l.index l.conditions.items))
    ≡ untrue_in (dialect_of l.fn.dialect) (bindings_seen l.bindings) (context_seen l.context) 0 (exprs_seen l.conditions.items)
