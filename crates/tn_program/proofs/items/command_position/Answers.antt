use Rattle.std.proofs.Common.{map, sym, ap, ◌∙◌}
use Rattle.def_refusal.specs.Items.{position_with_earlier, breaks_by_command}
use Rattle.tn_flags.specs.Views.{command_of}
use Rattle.tn_program.specs.Commands.{form_commands}
use Rattle.tn_program.specs.Faults.{rule_of}
use Rattle.tn_program.proofs.Positions.{nowhere}
use Rattle.tn_program.proofs.items.command_position.Goals as goal

pub returns-in-NotExported : goal.returns-in-NotExported
returns-in-NotExported g c =
    let cs = map (command_of {A = g.row.A.Denot}) c.args.commands.now in
    sym (ap (λ r. position_with_earlier (breaks_by_command (rule_of r)) (form_commands {A = g.row.A.Denot} c.args.forms.now) 1 cs) c.in-NotExported.is ∙ nowhere (form_commands {A = g.row.A.Denot} c.args.forms.now) cs 1)

pub returns-in-Unbound : goal.returns-in-Unbound
returns-in-Unbound g c =
    let cs = map (command_of {A = g.row.A.Denot}) c.args.commands.now in
    sym (ap (λ r. position_with_earlier (breaks_by_command (rule_of r)) (form_commands {A = g.row.A.Denot} c.args.forms.now) 1 cs) c.in-Unbound.is ∙ nowhere (form_commands {A = g.row.A.Denot} c.args.forms.now) cs 1)

pub returns-in-Arity : goal.returns-in-Arity
returns-in-Arity g c =
    let cs = map (command_of {A = g.row.A.Denot}) c.args.commands.now in
    sym (ap (λ r. position_with_earlier (breaks_by_command (rule_of r)) (form_commands {A = g.row.A.Denot} c.args.forms.now) 1 cs) c.in-Arity.is ∙ nowhere (form_commands {A = g.row.A.Denot} c.args.forms.now) cs 1)
