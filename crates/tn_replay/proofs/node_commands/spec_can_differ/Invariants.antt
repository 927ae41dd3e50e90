use Rattle.std.proofs.Common.{◌≡◌, drop, map}
use Rattle.std.specs.List.{list_any}
use Rattle.def_explain.specs.NodeCommands.{clause_can_differ}
use Rattle.tn_spec.specs.Views.{clause_seen}
use Rattle.tn_replay.proofs.node_commands.spec_can_differ.Given as goal

abbrev pub invariant-loop-i : goal.invariant-loop-i
invariant-loop-i g l = list_any clause_can_differ (map clause_seen (drop l.i l.spec.clauses.items)) ≡ list_any clause_can_differ (map clause_seen l.spec.clauses.items)
