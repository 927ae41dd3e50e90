use Rattle.std.proofs.Common.{◌≡◌, drop}
use Rattle.def_explain.specs.NodeCommands.{one_can_differ}
use Rattle.tn_spec.specs.Views.{exprs_seen}
use Rattle.tn_replay.proofs.node_commands.+expressions.Given as goal

abbrev pub invariant-one_can_differ-loop-i : goal.invariant-one_can_differ-loop-i
invariant-one_can_differ-loop-i g l = one_can_differ (exprs_seen (drop l.i l.exprs.items)) ≡ one_can_differ (exprs_seen l.exprs.items)
