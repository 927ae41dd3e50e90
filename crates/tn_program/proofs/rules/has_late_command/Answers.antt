use Rattle.std.proofs.Common.{length, map, lit<, arith}
use Rattle.std.proofs.lemmas.List.{length-map}
use Rattle.def_script.specs.Rules.{commands_of}
use Rattle.tn_flags.specs.Views.{command_of}
use Rattle.tn_script.specs.Views.{form_of}
use Rattle.tn_program.proofs.rules.has_late_command.Goals as goal

pub returns : goal.returns
returns g c = c.holds_past.ensures (length (commands_of (map (form_of {A = g.row.A.Denot}) c.args.earlier.now))) (length (map (command_of {A = g.row.A.Denot}) c.args.commands.now)) (lit< tt) c.all_commands.ensures (omega (arith, length-map c.args.commands.now (command_of {A = g.row.A.Denot})))
