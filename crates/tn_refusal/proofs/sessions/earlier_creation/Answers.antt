use Rattle.std.proofs.Common.{◌∙◌, map, sym, ap}
use Rattle.std.specs.Option.{option_or}
use Rattle.def_wording.specs.RuleTexts.{session_passing}
use Rattle.tn_flags.specs.Views.{command_of}
use Rattle.tn_program.specs.Commands.{form_commands}
use Rattle.tn_refusal.specs.RuleViews.{creates_in_role}
use Rattle.tn_refusal.proofs.RuleReasons.{passing_append}
use Rattle.tn_refusal.proofs.sessions.earlier_creation.Goals as goal

pub returns-in-Some : goal.returns-in-Some
returns-in-Some g c =
    let p = creates_in_role c.args.role c.args.name.now in
    let after = map (command_of {A = g.row.A.Denot}) c.args.commands.now in
    sym (passing_append p (form_commands c.args.earlier.now) after ∙ ap (λ o. option_or o (session_passing p after)) (sym c.in-Some.ensures))

pub returns-in-None : goal.returns-in-None
returns-in-None g c =
    let p = creates_in_role c.args.role c.args.name.now in
    let after = map (command_of {A = g.row.A.Denot}) c.args.commands.now in
    c.created_in.ensures ∙ sym (passing_append p (form_commands c.args.earlier.now) after ∙ ap (λ o. option_or o (session_passing p after)) (sym c.in-None.ensures))
