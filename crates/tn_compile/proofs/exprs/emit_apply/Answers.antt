use Rattle.std.proofs.Common.{◌∙◌, ◌∷◌, ap}
use Rattle.std.proofs.lemmas.Result.{on_ok_weaker}
use Rattle.def_machine.specs.Instructions.{apply_function}
use Rattle.def_machine.specs.Compilation.{registers_of}
use Rattle.tn_spec.specs.Views.{func_of, exprs_seen}
use Rattle.tn_code.specs.Views.{on_fault_seen}
use Rattle.tn_compile.specs.Views.{code_left, variables_seen}
use Rattle.tn_compile.proofs.exprs.emit_apply.Goals as goal

pub returns-clause-emitted : goal.returns-clause-emitted
returns-clause-emitted g c =
    let v = variables_seen c.args.scene.now.variables.now in
    let k = code_left c.args.code.now in
    let from = c.in_ok-from.ensures ∙ ap (λ x. registers_of v (exprs_seen x) c.args.to) c.as_slice.ensures.value in
    on_ok_weaker c.emit.result (λ h. h ∙ ap (λ rs. apply_function (func_of c.args.func) c.args.to rs (on_fault_seen c.on_fault-on_fault.result) ∷ k) from ∙ ap (λ f. apply_function (func_of c.args.func) c.args.to (registers_of v (exprs_seen c.args.exprs.now.items) c.args.to) f ∷ k) c.on_fault-on_fault.ensures) c.emit.ensures.emitted
