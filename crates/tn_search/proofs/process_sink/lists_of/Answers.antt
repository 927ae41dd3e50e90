use Rattle.std.proofs.Common.{sym, subst}
use Rattle.tn_search.proofs.Gathers.{AreListsUpTo, no_lists, lists_more, all_lists}
use Rattle.tn_search.proofs.process_sink.lists_of.Goals as goal

pub loop-sink-init : goal.loop-sink-init
loop-sink-init g c = subst (AreListsUpTo 0 c.args.sinks.now) (sym c.in_ok-lists.ensures.items) (no_lists c.args.sinks.now)

pub loop-sink-preserved : goal.loop-sink-preserved
loop-sink-preserved g c =
    let l = c.loop-sink in
    lists_more l.sink-index c.args.sinks.now c.sink-item.result l.lists.items c.push.new.self.items c.in_ok-lists_in.field-0 c.loop-sink-test.true c.sink-item.is c.in_ok-push.ensures.items c.in_ok-lists_in.ensures l.invariant

pub returns : goal.returns
returns g c =
    let l = c.loop-sink in
    all_lists l.sink-index c.args.sinks.now l.lists.items c.loop-sink-test.false l.invariant
