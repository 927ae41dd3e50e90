use Rattle.std.proofs.Common.{◌≡◌, map, take}
use Rattle.tn_messages.specs.MessageViews.{trees_seen, trees_of_list}
use Rattle.tn_messages.proofs.messages_by_process.share_all_messages.Given as goal

abbrev pub invariant-loop-list : goal.invariant-loop-list
invariant-loop-list g l = map trees_seen l.copies.items ≡ map trees_of_list (take l.list-index l.list-items)
