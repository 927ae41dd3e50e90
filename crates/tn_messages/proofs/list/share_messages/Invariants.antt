use Rattle.std.proofs.Common.{◌≡◌, map, take}
use Rattle.tn_messages.specs.MessageViews.{message_tree}
use Rattle.tn_messages.proofs.list.share_messages.Given as goal

abbrev pub invariant-loop-message : goal.invariant-loop-message
invariant-loop-message g l = map message_tree l.copies.items ≡ map message_tree (take l.message-index l.message-items)
