use Rattle.std.proofs.Common.{◌≡◌, map, sym, ◌∙◌}
use Rattle.std.proofs.lemmas.List.{map-id}
use Rattle.tn_script.specs.Views.{step_of}
use Rattle.tn_script.proofs.Equal.{seen_equal, function_equal}
use Rattle.tn_script.proofs.same.FunctionPart.same.Goals as goal

pub returns : goal.returns
returns g c =
    let exported : c.args.self.now.exported ≡ c.args.other.now.exported = c.same_visibility.ensures.0 c.if-not-same_visibility.false in
    let params = (seen_equal (λ s. s) c.args.self.now.params.items c.args.other.now.params.items c.deref.result.now c.deref-2.result.now c.same_each.result c.deref.ensures.value c.deref-2.ensures.value c.same_each.ensures).0 c.if-not-same_each.false in
    function_equal c.args.self.now.module c.args.other.now.module c.args.self.now.name c.args.other.now.name c.args.self.now.exported c.args.other.now.exported
    c.args.self.now.params.items c.args.other.now.params.items (map (step_of {A = g.row.A.Denot}) c.args.self.now.steps.items) (map (step_of {A = g.row.A.Denot}) c.args.other.now.steps.items) c.same_each-2.result
    (c.same_name.ensures.0 c.if-not-same_name.false) (c.same_name-2.ensures.0 c.if-not-same_name-2.false) exported
    (sym (map-id c.args.self.now.params.items) ∙ params ∙ map-id c.args.other.now.params.items)
    (seen_equal (step_of {A = g.row.A.Denot}) c.args.self.now.steps.items c.args.other.now.steps.items c.deref-3.result.now c.deref-4.result.now c.same_each-2.result c.deref-3.ensures.value c.deref-4.ensures.value c.same_each-2.ensures)
