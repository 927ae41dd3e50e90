use Rattle.def_run.specs.Run.{event_item}
use Rattle.tn_flags.specs.Views.{event_of}
use Rattle.tn_node.specs.Outlooks.{outlook_seen}
use Rattle.tn_text.proofs.Growth.{grows_none, grows_on}
use Rattle.tn_running_node.proofs.EventLoops.{none_seen, one_more_seen, all_events_seen}
use Rattle.tn_running_node.proofs.comparison.Comparison.see_events.Goals as goal

pub loop-event-init : goal.loop-event-init
loop-event-init g c = record {
  grows = grows_none c.args.out.now.items;
  made = λ o d h. none_seen o (outlook_seen c.args.outlook) d (λ e. event_item (event_of e)) c.deref-event-items.result.now c.args.self.now c.args.out.now c.none-kinds.result h c.none-kinds.ensures.differs c.none-kinds.ensures.open_lines;
}

pub loop-event-preserved : goal.loop-event-preserved
loop-event-preserved g c =
    let l = c.loop-event in
    record {
      grows = grows_on l.invariant.grows c.see_event.ensures.grows;
      made = λ o d h.
          one_more_seen o (outlook_seen c.args.outlook) d (λ e. event_item (event_of e)) c.deref-event-items.result.now l.event-index c.event-item.result l.self c.see_event.new.self c.args.out.now l.out c.see_event.new.out l.kinds c.in_ok-one.one c.join-kinds.result
          c.loop-event-test.true c.event-item.is (λ f at. c.in_ok-one.ensures.ok o f at) c.join-kinds.ensures.differs c.join-kinds.ensures.open_lines (l.invariant.made o d h);
    }

pub returns-in_err-one-clause-grows : goal.returns-in_err-one-clause-grows
returns-in_err-one-clause-grows g c = grows_on c.loop-event.invariant.grows c.see_event.ensures.grows

pub returns-clause-ok : goal.returns-clause-ok
returns-clause-ok g c = λ o d h.
    let l = c.loop-event in
    all_events_seen o (outlook_seen c.args.outlook) d event_of c.deref-event-items.result.now c.args.events.now.items l.event-index l.self c.args.out.now l.out l.kinds c.deref-event-items.ensures.value c.loop-event-test.false (l.invariant.made o d h)
