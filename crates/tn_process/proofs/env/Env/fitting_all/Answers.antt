use Rattle.std.proofs.Common.{◌≡◌, ◌≤◌, length, map, sym, ap, ◌∙◌, arith}
use Rattle.std.proofs.lemmas.List.{length-map}
use Rattle.std.specs.Option.{option_map}
use Rattle.std.specs.declared.vec.Vec.{Vec}
use Rattle.def_node.specs.Values.{instance_of, all_fit}
use Rattle.tn_term.specs.Views.{tree_of}
use Rattle.tn_term.specs.declared.term.Term.{Term}
use Rattle.tn_process.specs.Templates.{args_built_by}
use Rattle.tn_process.specs.Views.{env_of}
use Rattle.tn_process.proofs.Templates.{fit_is}
use Rattle.tn_process.proofs.env.Env.fitting_all.Goals as goal

pub invariant_of-result : goal.invariant_of-result
invariant_of-result g c =
    let ts = c.args.templates.now.terms.items in
    let built = args_built_by c.args.self.now c.args.templates.now in
    let all = fit_is (all_fit built) built (map tree_of c.in-Some.terms.items) (ap (option_map (λ (v : Vec (Term g.row.A.Denot) g.row.A.Denot). map tree_of v.items)) (sym c.in-Some.is) ∙ c.in_ok-terms.ensures) in
    let same : length c.in-Some.terms.items ≡ length ts =
    sym (length-map c.in-Some.terms.items (tree_of {A = g.row.A.Denot})) ∙ ap length all ∙ length-map ts (λ t. instance_of (env_of c.args.self.now) (tree_of {A = g.row.A.Denot} t)) in
    let few : length ts ≤ 255 = c.args.templates.now.fits in
    omega (arith, same, few)
