use Rattle.std.proofs.Common.{◌∙◌, sym, ap}
use Rattle.def_explain.specs.CommandReasons.{live_failure}
use Rattle.tn_flags.specs.Views.{command_of}
use Rattle.tn_session.specs.Looks.{look_seen}
use Rattle.tn_command_reason.proofs.command_reasons.live_failure.Goals as goal

pub returns-in_ok-function_reason-in-Function : goal.returns-in_ok-function_reason-in-Function
returns-in_ok-function_reason-in-Function g c = λ o fs.
    c.in_ok-function_reason-in-Function.ensures o fs ∙ sym (ap (λ k. live_failure o (look_seen c.args.look.now) (command_of k)) c.in-Function.is)

pub returns-in_ok-setting_reason-in-Send : goal.returns-in_ok-setting_reason-in-Send
returns-in_ok-setting_reason-in-Send g c = λ o fs.
    c.in_ok-setting_reason-in-Send.ensures ∙ sym (ap (λ k. live_failure o (look_seen c.args.look.now) (command_of k)) c.in-Send.is)

pub returns-in_ok-setting_reason-in-Recv : goal.returns-in_ok-setting_reason-in-Recv
returns-in_ok-setting_reason-in-Recv g c = λ o fs.
    c.in_ok-setting_reason-in-Recv.ensures ∙ sym (ap (λ k. live_failure o (look_seen c.args.look.now) (command_of k)) c.in-Recv.is)
