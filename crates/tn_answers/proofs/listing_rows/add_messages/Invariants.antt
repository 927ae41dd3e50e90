use Rattle.std.proofs.Common.{◌≡◌, ◌++◌, drop, map}
use Rattle.tn_messages.specs.MessageViews.{message_tree}
use Rattle.tn_answers.specs.RowViews.{lent_messages}
use Rattle.tn_answers.proofs.listing_rows.add_messages.Given as goal

abbrev pub invariant-loop-message : goal.invariant-loop-message
invariant-loop-message g l = lent_messages l.all ++ map message_tree (drop l.message-index l.messages) ≡ lent_messages l.fn.all ++ map message_tree l.messages
