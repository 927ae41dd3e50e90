use Rattle.std.proofs.Common.{◌∙◌, ap, not}
use Rattle.def_script.specs.Rules.{is_created}
use Rattle.tn_program.specs.Commands.{commands_before}
use Rattle.tn_program.proofs.session_rules.is_unmade.Goals as goal

pub returns-in-SessionDestroy : goal.returns-in-SessionDestroy
returns-in-SessionDestroy g c = rw c.in-SessionDestroy.is (ap not (c.is_session.ensures ∙ ap (is_created (commands_before c.args.forms.now c.args.before.now)) c.text.ensures.text))

pub returns-in-Process : goal.returns-in-Process
returns-in-Process g c = rw c.in-Process.is (ap not (c.is_session-in-Process.ensures ∙ ap (is_created (commands_before c.args.forms.now c.args.before.now)) c.text-in-Process.ensures.text))

pub returns-in-Function : goal.returns-in-Function
returns-in-Function g c = rw c.in-Function.is (ap not (c.is_session-in-Function.ensures ∙ ap (is_created (commands_before c.args.forms.now c.args.before.now)) c.text-in-Function.ensures.text))

pub returns-in-Send : goal.returns-in-Send
returns-in-Send g c = rw c.in-Send.is (ap not (c.is_session-in-Send.ensures ∙ ap (is_created (commands_before c.args.forms.now c.args.before.now)) c.text-in-Send.ensures.text))

pub returns-in-Recv : goal.returns-in-Recv
returns-in-Recv g c = rw c.in-Recv.is (ap not (c.is_session-in-Recv.ensures ∙ ap (is_created (commands_before c.args.forms.now c.args.before.now)) c.text-in-Recv.ensures.text))
