use Rattle.std.proofs.Common.{◌∙◌, sym}
use Rattle.std.specs.Prelude.{IsTrue}
use Rattle.std.proofs.lemmas.Result.{IfOk-weaker}
use Rattle.tn_node.specs.Nodes.{moved_seen}
use Rattle.tn_search.specs.FirstPicks.{GoesFirst, LeavesSessionsFree}
use Rattle.tn_search.proofs.FirstPicks.{silent_first, own_first}
use Rattle.tn_search.proofs.reduction.goes_first.Goals as goal

pub returns-then-has_no_event : goal.returns-then-has_no_event
returns-then-has_no_event g c = λ _. silent_first g.K.MessageSink.keeps g.K.SearchSink.is_by_process c.args.program.now c.args.state.now c.node.result.now c.args.pick (moved_seen c.in_ok-moved.moved) c.args.by_process_alone c.node.ensures c.in_ok-moved.ensures (sym c.has_no_event.ensures ∙ c.if-has_no_event.true)

pub returns : goal.returns
returns g c =
    let Keeps = g.K.MessageSink.keeps in
    let b = g.K.SearchSink.is_by_process in
    let x = c.args.program.now in
    let s = c.args.state.now in
    let pick = c.args.pick in
    IfOk-weaker c.leaves_sessions_free.result (λ r. IsTrue r → LeavesSessionsFree Keeps b x s pick) (λ r. IsTrue r → GoesFirst Keeps b x s c.args.by_process_alone pick)
    (λ r free yes. own_first Keeps b x s c.node.result.now pick (moved_seen c.in_ok-moved.moved) c.args.by_process_alone c.node.ensures c.in_ok-moved.ensures (sym c.has_own_steps.ensures ∙ c.if-not-has_own_steps.false) c.if-not-by_process_alone.false (free yes))
    c.leaves_sessions_free.ensures
