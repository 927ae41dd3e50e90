use Rattle.std.proofs.Common.{◌∙◌, ◌∷◌, ap}
use Rattle.std.proofs.lemmas.Result.{on_ok_weaker}
use Rattle.def_machine.specs.Compilation.{registers_of, action_code}
use Rattle.tn_spec.specs.Views.{dialect_of, action_of, exprs_seen}
use Rattle.tn_compile.specs.Views.{code_left, variables_seen}
use Rattle.tn_compile.proofs.exprs.emit_perform.Goals as goal

pub returns-clause-emitted : goal.returns-clause-emitted
returns-clause-emitted g c =
    let v = variables_seen c.args.scene.now.variables.now in
    let k = code_left c.args.code.now in
    let from = c.in_ok-from.ensures ∙ ap (λ x. registers_of v (exprs_seen x) c.args.to) c.as_slice.ensures.value in
    on_ok_weaker c.emit.result (λ h. h ∙ ap (λ i. i ∷ k) (c.action_instr.ensures ∙ ap (action_code (dialect_of c.args.scene.now.dialect) (action_of c.args.action) c.args.to) from)) c.emit.ensures.emitted
