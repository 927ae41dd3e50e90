use Rattle.std.proofs.Common.{ap, ◌∙◌, map, arith}
use Rattle.std.proofs.lemmas.List.{take_all}
use Rattle.tn_messages.specs.MessageViews.{trees_of_list}
use Rattle.tn_messages.proofs.messages_by_process.share_lists.Goals as goal

pub returns : goal.returns
returns g c =
    let s = c.loop-list in
    s.invariant ∙ ap (map (trees_of_list {A = g.row.A.Denot})) (take_all s.list-index c.deref-list-items.result.now (omega arith))
    ∙ ap (map (trees_of_list {A = g.row.A.Denot})) c.deref-list-items.ensures.value
