use Rattle.std.proofs.Common.{map, lit<}
use Rattle.std.specs.List.{count_by}
use Rattle.def_script.specs.Rules.{commands_of, is_creation}
use Rattle.tn_flags.specs.Views.{command_of}
use Rattle.tn_script.specs.Views.{form_of}
use Rattle.tn_program.proofs.rules.has_late_creation.Goals as goal

pub returns : goal.returns
returns g c = c.holds_past.ensures (count_by is_creation (commands_of (map (form_of {A = g.row.A.Denot}) c.args.earlier.now))) (count_by is_creation (map (command_of {A = g.row.A.Denot}) c.args.commands.now)) (lit< tt) c.all_creations.ensures c.creation_total.ensures
