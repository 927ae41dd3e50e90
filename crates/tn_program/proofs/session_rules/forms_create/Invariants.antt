use Rattle.std.proofs.Common.{◌≡◌, map, drop}
use Rattle.std.specs.List.{list_any}
use Rattle.tn_script.specs.Views.{form_of}
use Rattle.def_script.specs.Rules.{commands_of_form}
use Rattle.tn_program.specs.Commands.{any_creates}
use Rattle.tn_program.proofs.session_rules.forms_create.Given as goal

abbrev pub invariant-loop-form : goal.invariant-loop-form
invariant-loop-form g l = list_any (λ f. any_creates l.fn.of l.fn.name (commands_of_form f)) (map (form_of {A = g.row.A.Denot}) l.fn.forms) ≡ list_any (λ f. any_creates l.fn.of l.fn.name (commands_of_form f)) (map (form_of {A = g.row.A.Denot}) (drop l.form-index l.fn.forms))
