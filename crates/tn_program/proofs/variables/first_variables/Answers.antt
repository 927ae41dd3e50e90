use Rattle.std.proofs.Common.{◌∷◌, [], ◌++◌, take, ap, sym, ◌∙◌}
use Rattle.std.proofs.lemmas.List.{take_more}
use Rattle.def_term.specs.Text.{is_among}
use Rattle.def_script.specs.Shapes.{self_name}
use Rattle.tn_program.proofs.BoundVariables.{adds_one}
use Rattle.tn_program.proofs.variables.first_variables.Goals as goal

pub loop-param-preserved : goal.loop-param-preserved
loop-param-preserved g c =
    let items = c.deref-param-items.result.now in
    let i = c.loop-param.param-index in
    λ q. adds_one c.loop-param.bound c.insert-in-loop-param.new.self c.text.result.now _ c.in_ok-insert-2.ensures.updates (self_name ∷ take i items) c.loop-param.invariant q
    ∙ ap (λ zs. is_among (self_name ∷ zs) q) (ap (λ z. take i items ++ z ∷ []) (c.text.ensures.text ∙ c.param-item.is) ∙ sym (take_more items i c.param-item.result c.loop-param-test.true))
