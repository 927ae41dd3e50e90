use Rattle.std.proofs.Common.{◌∙◌, ap}
use Rattle.def_script.specs.Rules.{is_created}
use Rattle.tn_program.specs.Commands.{commands_before}
use Rattle.tn_program.proofs.session_rules.is_again.Goals as goal

pub returns-in-SessionCreate : goal.returns-in-SessionCreate
returns-in-SessionCreate g c = rw c.in-SessionCreate.is (c.is_session.ensures ∙ ap (is_created (commands_before c.args.forms.now c.args.before.now)) c.text.ensures.text)
