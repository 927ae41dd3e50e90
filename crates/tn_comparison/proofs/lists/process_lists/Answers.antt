use Rattle.std.proofs.Common.{◌∙◌, ◌++◌, ap, map, sym, flat_map}
use Rattle.std.proofs.lemmas.List.Folds.{flat_map-map}
use Rattle.tn_messages.specs.MessageViews.{lists_seen}
use Rattle.tn_renaming.specs.Pairs.{lent_terms_seen}
use Rattle.tn_comparison.proofs.lists.process_lists.Goals as goal

pub returns : goal.returns
returns g c =
    c.in_ok-add_sessions.ensures
    ∙ ap (λ vs. map lent_terms_seen vs ++ flat_map (λ v. lists_seen v) c.deref.result.now) c.new-lists.ensures.items
    ∙ ap (flat_map (λ v. lists_seen v)) c.deref.ensures.value
    ∙ sym (flat_map-map (λ pss. pss) lists_seen c.args.sessions.now.items)
