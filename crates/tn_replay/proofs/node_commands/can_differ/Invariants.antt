use Rattle.std.proofs.Common.{◌≡◌, drop, map}
use Rattle.std.specs.List.{list_any}
use Rattle.def_explain.specs.NodeCommands.{command_can_differ}
use Rattle.tn_flags.specs.Views.{command_of}
use Rattle.tn_replay.proofs.node_commands.can_differ.Given as goal

abbrev pub invariant-loop-command : goal.invariant-loop-command
invariant-loop-command g l = list_any command_can_differ (map command_of (drop l.command-index l.command-items)) ≡ list_any command_can_differ (map command_of l.command-items)
