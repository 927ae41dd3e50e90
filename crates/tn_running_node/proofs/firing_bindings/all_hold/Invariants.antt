use Rattle.std.proofs.Common.{◌≡◌, drop}
use Rattle.tn_spec.specs.Views.{exprs_seen}
use Rattle.tn_running_node.specs.FiringClauses.{all_hold_in}
use Rattle.tn_running_node.proofs.firing_bindings.all_hold.Given as goal

abbrev pub invariant-loop-i : goal.invariant-loop-i
invariant-loop-i g l = all_hold_in l.scene (exprs_seen (drop l.i l.conditions.items)) ≡ all_hold_in l.scene (exprs_seen l.conditions.items)
