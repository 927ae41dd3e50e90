use Rattle.std.proofs.Common.{◌∙◌, sym, ap}
use Rattle.std.proofs.lemmas.Result.{IfOk-weaker}
use Rattle.tn_flags.specs.Views.{command_of}
use Rattle.tn_term.specs.Views.{mfa_seen}
use Rattle.tn_state.specs.NewSettings.{new_function_setting}
use Rattle.tn_state.proofs.settings.new_function_setting.Goals as goal

pub returns-in-Function : goal.returns-in-Function
returns-in-Function g c =
    IfOk-weaker c.function_setting.result _ _ (λ r is. is ∙ sym (ap (λ k. new_function_setting (mfa_seen c.args.mfa.now) c.args.exported (command_of k)) c.in-Function.is)) c.function_setting.ensures
