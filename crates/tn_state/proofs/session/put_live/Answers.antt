use Rattle.std.proofs.Common.{◌≡◌, ◌∙◌, ◌∷◌, [], ◌++◌, ap}
use Rattle.def_script.specs.Exports.{visible}
use Rattle.def_state.specs.Lines.{terms_line}
use Rattle.def_state.specs.SessionTexts.{flag_texts, mark_texts, new_process_text, settings_text}
use Rattle.def_term.specs.Names.{word}
use Rattle.tn_program.specs.Views.{program_of}
use Rattle.tn_session.specs.Looks.{look_seen}
use Rattle.tn_text.proofs.Growth.{on_done, on_failed}
use Rattle.tn_state.specs.Commands.{own_commands}
use Rattle.tn_state.proofs.Texts.{text_then}
use Rattle.tn_state.proofs.session.put_live.Goals as goal

pub returns-in_err-put_settings : goal.returns-in_err-put_settings
returns-in_err-put_settings g c = on_failed c.from_residual-in_err-put_settings.result _ _ c.from_residual-in_err-put_settings.ensures.1

pub returns : goal.returns
returns g c =
    let s = look_seen c.args.look.now in
    let cs = own_commands c.args.name.now c.args.commands.now in
    let fs = visible (program_of c.args.program.now).functions in
    let live = terms_line (word "live" ∷ []) in
    let settings = settings_text cs fs in
    let o0 = c.args.out.now.items in
    let o1 = c.put_live_word.new.out.items in
    let o2 = c.put_all_flags.new.out.items in
    let o3 = c.put_new_flags.new.out.items in
    let o4 = c.put_settings.new.out.items in
    let set : o4 ≡ o3 ++ settings = c.in_ok-put_settings.ensures ∙ ap (λ ks. o3 ++ settings_text cs (visible ks)) c.functions.ensures in
    let front = text_then o0 o2 o3 (live ++ flag_texts s) (new_process_text s) (text_then o0 o1 o2 live (flag_texts s) c.in_ok-put_live_word.ensures c.in_ok-put_all_flags.ensures) c.in_ok-put_new_flags.ensures in
    on_done c.put_all_marks.result
    (λ last. text_then o0 o4 c.put_all_marks.new.out.items (((live ++ flag_texts s) ++ new_process_text s) ++ settings) (mark_texts s) (text_then o0 o3 o4 ((live ++ flag_texts s) ++ new_process_text s) settings front set) last)
    c.put_all_marks.ensures
