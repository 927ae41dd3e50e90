use Rattle.std.proofs.Common.{◌≡◌, ◌∙◌, refl, sym}
use Rattle.def_script.specs.Exports.{Exports, visible}
use Rattle.tn_flags.specs.Views.{command_of}
use Rattle.tn_script.specs.Views.{functions_of}
use Rattle.tn_command_reason.specs.FunctionTraps.{TellsTrap}
use Rattle.complete_explain.proofs.OneNote.{if_both}
use Rattle.complete_explain.proofs.command_reasons.has_trap.Goals as goal

pub returns : goal.returns
returns g c =
    let fs = c.args.functions.now in
    let k = command_of c.args.command.now in
    let o : Exports = record { functions = visible (functions_of fs); processes = 0 } in
    if_both c.has_trap.result c.has_trap-2.result (TellsTrap fs k) (TellsTrap fs k) (λ x y. x ≡ y) (λ x y h i. h o refl ∙ sym (i o refl)) c.has_trap.ensures c.has_trap-2.ensures
