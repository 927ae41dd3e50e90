use Rattle.std.proofs.Common.{◌≡◌, ◌≤◌, ◌-◌, length}
use Rattle.tn_messages.specs.MessageViews.{shared_lists}
use Rattle.tn_messages.proofs.Additions.{followed}
use Rattle.tn_messages.proofs.messages_by_process.lengthen.Given as goal

abbrev pub invariant-loop : goal.invariant-loop
invariant-loop g l =
    let n = length l.fn.lists.items in
    (shared_lists l.lists ≡ followed (l.counter - n) (shared_lists l.fn.lists)) × (l.counter - n ≤ l.fn.count - n)
