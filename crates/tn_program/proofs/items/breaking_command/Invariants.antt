use Rattle.tn_program.specs.Commands.{command_breaks, form_commands}
use Rattle.tn_flags.specs.Views.{command_of}
use Rattle.tn_program.proofs.Positions.{PositionSo}
use Rattle.tn_program.proofs.items.breaking_command.Given as goal

abbrev pub invariant-loop-i : goal.invariant-loop-i
invariant-loop-i g l = PositionSo (command_breaks l.fn.rule) (command_of {A = g.row.A.Denot}) (form_commands {A = g.row.A.Denot} l.fn.forms) l.fn.commands l.i
