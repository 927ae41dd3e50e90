use Rattle.std.proofs.Common.{◌∙◌, ◌∷◌, [], ◌++◌, map, ap}
use Rattle.std.proofs.lemmas.List.{map-append}
use Rattle.def_term.specs.Names.{mfa_term}
use Rattle.tn_term.specs.Views.{tree_of}
use Rattle.tn_state.proofs.process.push_mfa.Goals as goal

pub returns : goal.returns
returns g c =
    let old = c.args.terms.now.items in
    ap (map tree_of) c.in_ok-push.ensures.items
    ∙ map-append tree_of old (c.in_ok-mfa_term.field-0 ∷ [])
    ∙ ap (λ t. map tree_of old ++ t ∷ []) (c.in_ok-mfa_term.ensures ∙ ap mfa_term c.in_ok-mfa.ensures)
