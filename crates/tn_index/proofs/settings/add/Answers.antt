use Rattle.std.proofs.Common.{◌≡◌, ◌∙◌, ◌++◌, ◌∷◌, [], length, get_or, subst, sym, ap, map, arith}
use Rattle.std.specs.Prelude.{slice_get}
use Rattle.std.proofs.lemmas.Option.{get_or_from_slice_get}
use Rattle.std.specs.List.{All}
use Rattle.tn_index.specs.Entries.{IsRight, renew}
use Rattle.tn_index.proofs.Renewals.{all_right_again, at_end}
use Rattle.tn_index.proofs.settings.add.Goals as goal

pub returns-clause-right : goal.returns-clause-right
returns-clause-right g c =
    let k = c.args.function_setting in
    let ks = c.args.accepted.now.items in
    let es = c.args.entries.now.items in
    let v = c.args.accepted.now in
    let place : c.len-place.result ≡ length ks = omega (arith, c.len-place.ensures, v.ok.0, v.ok.1, v.small) in
    let same : c.index.result.now ≡ k =
    c.index.ensures ∙ ap (λ js. get_or js c.len-place.result c.index.result.now) c.in_ok-push.ensures.items
    ∙ get_or_from_slice_get (ks ++ k ∷ []) c.len-place.result k c.index.result.now (ap (slice_get (ks ++ k ∷ [])) place ∙ at_end ks k) in
    let after = c.renew.ensures ∙ (λ i. map (renew (same i) (place i)) es) in
    subst (λ js. All (IsRight js) c.renew.new.entries.items) (sym c.in_ok-push.ensures.items)
    (subst (All (IsRight (ks ++ k ∷ []))) (sym after) (all_right_again ks k es c.requires))
