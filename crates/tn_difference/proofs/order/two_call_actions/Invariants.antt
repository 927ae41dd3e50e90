use Rattle.std.proofs.Common.{◌≡◌, ◌&&◌, ◌||◌, drop}
use Rattle.def_explain.specs.Differences.{one_calls_action, two_call_actions}
use Rattle.tn_spec.specs.Views.{exprs_seen}
use Rattle.tn_difference.proofs.order.two_call_actions.Given as goal

abbrev pub invariant-loop-i : goal.invariant-loop-i
invariant-loop-i g l = ((l.one_has && one_calls_action (exprs_seen (drop l.i l.exprs.items))) || two_call_actions (exprs_seen (drop l.i l.exprs.items))) ≡ two_call_actions (exprs_seen l.exprs.items)
