use Rattle.std.proofs.Common.{◌∙◌, ◌∷◌, ap}
use Rattle.std.proofs.lemmas.Result.{on_ok_weaker}
use Rattle.def_machine.specs.Instructions.{build}
use Rattle.def_machine.specs.Compilation.{registers_of}
use Rattle.tn_spec.specs.Views.{exprs_seen}
use Rattle.tn_code.specs.Views.{shape_kind_seen}
use Rattle.tn_compile.specs.Views.{code_left, variables_seen}
use Rattle.tn_compile.proofs.exprs.emit_build.Goals as goal

pub returns-clause-emitted : goal.returns-clause-emitted
returns-clause-emitted g c =
    let v = variables_seen c.args.scene.now.variables.now in
    let k = code_left c.args.code.now in
    let from = c.in_ok-from.ensures ∙ ap (λ x. registers_of v (exprs_seen x) c.args.to) c.as_slice.ensures.value in
    on_ok_weaker c.emit.result (λ h. h ∙ ap (λ rs. build (shape_kind_seen c.args.kind) c.args.to rs ∷ k) from) c.emit.ensures.emitted
