use Rattle.std.proofs.Common.{◌≡◌, map, drop}
use Rattle.tn_flags.specs.Views.{command_of}
use Rattle.tn_program.specs.Commands.{any_creates}
use Rattle.tn_program.proofs.session_rules.commands_create.Given as goal

abbrev pub invariant-loop-command : goal.invariant-loop-command
invariant-loop-command g l = any_creates l.fn.of l.fn.name (map (command_of {A = g.row.A.Denot}) l.fn.commands) ≡ any_creates l.fn.of l.fn.name (map (command_of {A = g.row.A.Denot}) (drop l.command-index l.fn.commands))
