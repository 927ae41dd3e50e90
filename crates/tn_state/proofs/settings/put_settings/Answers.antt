use Rattle.std.proofs.Common.{◌++◌}
use Rattle.def_script.specs.Exports.{visible}
use Rattle.def_state.specs.SettingTerms.{newest, receive_term_of, send_term_of}
use Rattle.def_state.specs.SessionTexts.{function_texts, setting_text}
use Rattle.def_term.specs.Names.{word}
use Rattle.tn_script.specs.Views.{functions_of}
use Rattle.tn_text.proofs.Growth.{on_done}
use Rattle.tn_state.specs.Commands.{own_commands}
use Rattle.tn_state.proofs.Texts.{text_then}
use Rattle.tn_state.proofs.settings.put_settings.Goals as goal

pub returns : goal.returns
returns g c =
    let cs = own_commands c.args.name.now c.args.commands.now in
    let functions = function_texts cs (visible (functions_of c.args.functions.now)) in
    let sends = setting_text (word "send") (newest send_term_of cs) in
    let receives = setting_text (word "receive") (newest receive_term_of cs) in
    let o0 = c.args.out.now.items in
    let o1 = c.put_functions.new.out.items in
    let o2 = c.put_sends.new.out.items in
    on_done c.put_receives.result
    (λ last. text_then o0 o2 c.put_receives.new.out.items (functions ++ sends) receives (text_then o0 o1 o2 functions sends c.in_ok-put_functions.ensures c.in_ok-put_sends.ensures) last)
    c.put_receives.ensures
