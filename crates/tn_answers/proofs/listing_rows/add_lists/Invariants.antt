use Rattle.std.proofs.Common.{◌≡◌, ◌++◌, drop, flat_map}
use Rattle.tn_messages.specs.MessageViews.{trees_seen}
use Rattle.tn_answers.specs.RowViews.{lent_messages}
use Rattle.tn_answers.proofs.listing_rows.add_lists.Given as goal

abbrev pub invariant-loop-messages : goal.invariant-loop-messages
invariant-loop-messages g l = lent_messages l.all ++ flat_map (λ v. trees_seen v) (drop l.messages-index l.lists) ≡ lent_messages l.fn.all ++ flat_map (λ v. trees_seen v) l.lists
