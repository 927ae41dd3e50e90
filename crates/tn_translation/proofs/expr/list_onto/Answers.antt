use Rattle.std.proofs.Common.{Ok, refl, ap, sym, ◌∙◌}
use Rattle.std.specs.Option.{option_map}
use Rattle.def_fun.specs.Translation as spec
use Rattle.def_fun.specs.Translation.{all_terms, all_constants}
use Rattle.tn_term.specs.Views.{tree_of}
use Rattle.tn_translation.proofs.Steps.{then_value}
use Rattle.tn_translation.proofs.Values.{same_translated}
use Rattle.tn_translation.proofs.expr.list_onto.Goals as goal

pub returns : goal.returns
returns g c = λ text xs are.
    let t = tree_of c.in_ok-term.term in
    let tail = tree_of c.args.rest.term in
    let value = option_map tree_of c.args.rest.constant in
    then_value (spec.onto_tail c.args.at (all_terms xs) tail) (λ u. Ok (record { becomes = u; constant = spec.constants_onto (all_constants xs) value })) t
    (ap (λ ts. spec.onto_tail c.args.at ts tail) (sym are.terms) ∙ c.in_ok-term.ensures text)
    ∙ ap Ok (same_translated t t (spec.constants_onto (all_constants xs) value) (option_map tree_of c.in_ok-constant.constant) refl
    (sym (c.in_ok-constant.ensures ∙ ap (λ k. spec.constants_onto k value) are.constants)))
