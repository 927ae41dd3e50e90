use Rattle.std.proofs.Common.{ap, ◌∙◌}
use Rattle.std.specs.List.{insert}
use Rattle.tn_compile.specs.Views.{variables_seen}
use Rattle.tn_compile.specs.declared.emit_context.VariableRegister.{VariableRegister}
use Rattle.tn_compile.proofs.Walks.{inserted, place_in}
use Rattle.tn_compile.proofs.heads.add_variable.Goals as goal

pub returns : goal.returns
returns g c =
    let b : VariableRegister = record { number = c.args.number; register = c.args.register } in
    let xs = c.args.variables.now.items in
    ap variables_seen (c.in_ok-insert.ensures.items ∙ ap (λ i. insert xs i b) (c.place_of-place.ensures.place ∙ ap (place_in b) c.as_slice.ensures.value)) ∙ inserted b xs c.requires
