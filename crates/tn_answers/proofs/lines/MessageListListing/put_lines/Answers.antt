use Rattle.std.proofs.Common.{◌≡◌, ◌∙◌, ◌++◌, OnOk, flat_map, ap, sym, subst}
use Rattle.std.proofs.lemmas.List.Folds.{flat_map-map}
use Rattle.def_run.specs.Listing.{line_of}
use Rattle.tn_messages.specs.MessageViews.{message_tree}
use Rattle.tn_answers.proofs.lines.MessageListListing.put_lines.Goals as goal

pub returns : goal.returns
returns g c =
    subst (λ xs. OnOk c.put_messages.result (c.put_messages.new.out.items ≡ c.args.out.now.items ++ xs))
    (ap (flat_map (λ m. line_of (message_tree m))) c.deref.ensures.value ∙ sym (flat_map-map line_of message_tree c.args.self.now.items)) c.put_messages.ensures
