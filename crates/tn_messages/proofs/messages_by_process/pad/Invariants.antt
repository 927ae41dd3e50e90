use Rattle.std.proofs.Common.{◌≡◌, ◌≤◌, ◌-◌, length}
use Rattle.tn_messages.specs.MessageViews.{lists_seen}
use Rattle.tn_messages.proofs.Additions.{followed}
use Rattle.tn_messages.proofs.messages_by_process.pad.Given as goal

abbrev pub invariant-loop : goal.invariant-loop
invariant-loop g l =
    let n = length l.fn.lists.items in
    (lists_seen l.lists ≡ followed (l.counter - n) (lists_seen l.fn.lists)) × (l.counter - n ≤ l.fn.count - n)
