use Rattle.std.proofs.Common.{◌∙◌, sym, ap}
use Rattle.std.proofs.lemmas.Result.{IfOk-weaker}
use Rattle.tn_flags.specs.Views.{command_of}
use Rattle.tn_state.specs.NewSettings.{new_receive_setting, new_send_setting, new_subject_setting}
use Rattle.tn_state.proofs.settings.new_subject_setting.Goals as goal

pub returns-in-Send : goal.returns-in-Send
returns-in-Send g c =
    IfOk-weaker c.new_setting.result _ _
    (λ r is. is ∙ sym (ap (λ k. new_send_setting (command_of k)) c.in-Send.is) ∙ sym (ap (λ s. new_subject_setting s (command_of c.args.command.now)) c.in-Sends.is))
    c.new_setting.ensures

pub returns-in-Recv : goal.returns-in-Recv
returns-in-Recv g c =
    IfOk-weaker c.new_setting-in-Recv.result _ _
    (λ r is. is ∙ sym (ap (λ k. new_receive_setting (command_of k)) c.in-Recv.is) ∙ sym (ap (λ s. new_subject_setting s (command_of c.args.command.now)) c.in-Receives.is))
    c.new_setting-in-Recv.ensures
