use Rattle.std.proofs.Common.{◌∙◌, ap}
use Rattle.def_script.specs.Rules.{creates_session}
use Rattle.def_wording.specs.RuleTexts.{session_passing, unless_there}
use Rattle.tn_program.specs.Commands.{commands_before}
use Rattle.tn_refusal.proofs.sessions.unless_created.Goals as goal

pub returns-in-Some : goal.returns-in-Some
returns-in-Some g c =
    ap (unless_there c.args.session.now) (c.in-Some.ensures ∙ ap (λ t. session_passing (creates_session t) (commands_before c.args.earlier.now c.args.before.now)) c.text.ensures.text)

pub returns-in-None : goal.returns-in-None
returns-in-None g c =
    ap (unless_there c.args.session.now) (c.in-None.ensures ∙ ap (λ t. session_passing (creates_session t) (commands_before c.args.earlier.now c.args.before.now)) c.text.ensures.text)
