use Rattle.std.proofs.Common.{◌≡◌, drop}
use Rattle.def_explain.specs.Differences.{one_calls_action}
use Rattle.tn_spec.specs.Views.{exprs_seen}
use Rattle.tn_difference.proofs.order.+action.Given as goal

abbrev pub invariant-one_calls_action-loop-i : goal.invariant-one_calls_action-loop-i
invariant-one_calls_action-loop-i g l = one_calls_action (exprs_seen (drop l.i l.exprs.items)) ≡ one_calls_action (exprs_seen l.exprs.items)
