use Rattle.std.proofs.Common.{◌≡◌, drop}
use Rattle.tn_spec.specs.Views.{dialect_of, exprs_seen}
use Rattle.tn_head.specs.Views.{bindings_seen}
use Rattle.tn_action.specs.Views.{context_seen}
use Rattle.def_explain.specs.Values as faults
use Rattle.tn_verdict.specs.Reasons.{fault_of_one, fault_in_turn}
use Rattle.tn_verdict.proofs.faults.+fault.Given as goal

abbrev pub invariant-fault_in_one-loop-i : goal.invariant-fault_in_one-loop-i
invariant-fault_in_one-loop-i g l = faults.fault_in_one (dialect_of l.scene.dialect) (bindings_seen l.scene.bindings.now) (context_seen l.scene.context.now) (exprs_seen (drop l.i l.exprs.items)) ≡ fault_of_one l.scene l.exprs

abbrev pub invariant-fault_in_turn-loop-i : goal.invariant-fault_in_turn-loop-i
invariant-fault_in_turn-loop-i g l = fault_in_turn l.scene l.stop (exprs_seen (drop l.i l.exprs.items)) ≡ fault_in_turn l.scene l.stop (exprs_seen l.exprs.items)
