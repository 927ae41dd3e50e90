use Rattle.std.proofs.Common.{◌∙◌, sym, ap}
use Rattle.def_state.specs.SessionTexts.{function_setting_text}
use Rattle.tn_term.specs.Views.{mfa_seen}
use Rattle.tn_text.proofs.Growth.{written_as}
use Rattle.tn_state.specs.Commands.{own_commands}
use Rattle.tn_state.specs.NewSettings.{text_of_function}
use Rattle.tn_state.proofs.NewSettingLemmas.{function_written}
use Rattle.tn_state.proofs.settings.put_function.Goals as goal

pub returns : goal.returns
returns g c =
    let cs = own_commands c.args.name.now c.args.commands.now in
    let f = mfa_seen c.in_ok-mfa.mfa in
    let exported = c.args.function.now.exported in
    written_as c.put_function_setting.result c.args.out.now.items c.put_function_setting.new.out.items
    (sym (ap (text_of_function f) c.in_ok-setting.ensures ∙ function_written cs f exported ∙ ap (λ m. function_setting_text cs (m, exported)) c.in_ok-mfa.ensures))
    c.put_function_setting.ensures
