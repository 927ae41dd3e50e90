use Rattle.std.proofs.Common.{◌||◌, map, ap, sym, ◌∙◌}
use Rattle.std.specs.List.{list_any}
use Rattle.def_script.specs.Rules.{commands_of_form}
use Rattle.tn_program.specs.Commands.{creates_with}
use Rattle.tn_flags.specs.Views.{command_of}
use Rattle.tn_script.specs.Views.{form_of}
use Rattle.tn_program.proofs.Any.{any_flat}
use Rattle.tn_program.proofs.session_rules.is_created.Goals as goal

pub returns-then-forms_create : goal.returns-then-forms_create
returns-then-forms_create g c = c.if-forms_create.true ∙ sym (any_flat (creates_with c.args.of c.args.name.now) commands_of_form (map (form_of {A = g.row.A.Denot}) c.args.forms.now) (map (command_of {A = g.row.A.Denot}) c.args.commands.now) ∙ ap (λ b. b || list_any (creates_with c.args.of c.args.name.now) (map (command_of {A = g.row.A.Denot}) c.args.commands.now)) (sym c.forms_create.ensures ∙ c.if-forms_create.true))

pub returns-else-forms_create : goal.returns-else-forms_create
returns-else-forms_create g c = c.commands_create.ensures ∙ sym (any_flat (creates_with c.args.of c.args.name.now) commands_of_form (map (form_of {A = g.row.A.Denot}) c.args.forms.now) (map (command_of {A = g.row.A.Denot}) c.args.commands.now) ∙ ap (λ b. b || list_any (creates_with c.args.of c.args.name.now) (map (command_of {A = g.row.A.Denot}) c.args.commands.now)) (sym c.forms_create.ensures ∙ c.if-forms_create.false))
