use Rattle.std.proofs.Common.{◌∙◌, ◌+◌, ◌++◌, drop, get_or, ap}
use Rattle.std.proofs.lemmas.List.{drop_more}
use Rattle.def_script.specs.Exports.{visible}
use Rattle.def_state.specs.SessionTexts.{function_setting_text}
use Rattle.tn_script.specs.Views.{functions_of}
use Rattle.tn_state.specs.Commands.{own_commands}
use Rattle.tn_state.specs.NewSettings.{visible_function}
use Rattle.tn_state.proofs.Texts.{one_text}
use Rattle.tn_state.proofs.settings.put_functions.Goals as goal

pub loop-function-preserved : goal.loop-function-preserved
loop-function-preserved g c =
    let l = c.loop-function in
    let fs = c.args.functions.now in
    let i = l.function-index in
    let f = c.function-item.result in
    let text = function_setting_text (own_commands c.args.name.now c.args.commands.now) in
    one_text text l.out.items c.put_function.new.out.items _ (visible_function (get_or fs i f)) _ (visible (functions_of (drop (i + 1) fs)))
    (ap (λ ks. visible (functions_of ks)) (drop_more fs i f c.loop-function-test.true)) l.invariant
    (c.in_ok-put_function.ensures ∙ ap (λ k. l.out.items ++ text (visible_function k)) c.function-item.is)
