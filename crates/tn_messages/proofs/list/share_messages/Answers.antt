use Rattle.std.proofs.Common.{ap, ◌∙◌, map, arith}
use Rattle.std.proofs.lemmas.List.{take_all}
use Rattle.tn_messages.specs.MessageViews.{message_tree}
use Rattle.tn_messages.proofs.list.share_messages.Goals as goal

pub returns : goal.returns
returns g c =
    let s = c.loop-message in
    s.invariant ∙ ap (map (message_tree {A = g.row.A.Denot})) (take_all s.message-index c.deref-message-items.result.now (omega arith))
    ∙ ap (map (message_tree {A = g.row.A.Denot})) c.deref-message-items.ensures.value
