use Rattle.std.proofs.Common.{◌≡◌, ◌≤◌, length, map, ap, sym, ◌∙◌, arith}
use Rattle.std.specs.declared.vec.Vec.{Vec}
use Rattle.std.specs.Option.{option_map}
use Rattle.std.proofs.lemmas.List.{length-map}
use Rattle.def_term.specs.Names.{Name}
use Rattle.def_script.specs.Shapes.{variable_in}
use Rattle.tn_term.specs.Views.{tree_of}
use Rattle.tn_script.proofs.Each.{each_length}
use Rattle.tn_script.proofs.Functions.{few_still}
use Rattle.tn_script.proofs.params.params.Goals as goal

pub returns-in-Some-2-clause-few : goal.returns-in-Some-2-clause-few
returns-in-Some-2-clause-few g c =
    let same : length c.in-Some-2.params.items ≡ length (map (tree_of {A = g.row.A.Denot}) c.in-Some.args.terms.items) = each_length variable_in (map (tree_of {A = g.row.A.Denot}) c.in-Some.args.terms.items) c.in-Some-2.params.items (ap (option_map (λ (v : Vec Name g.row.A.Denot). v.items)) (sym c.in-Some-2.is) ∙ c.in_ok-params.ensures) in
    let few : length c.in-Some.args.terms.items ≤ 255 = c.in-Some.args.fits in
    few_still c.distinct.result c.in-Some-2.params.items c.distinct.ensures.same (omega (arith, same ∙ length-map c.in-Some.args.terms.items (tree_of {A = g.row.A.Denot}), few))
