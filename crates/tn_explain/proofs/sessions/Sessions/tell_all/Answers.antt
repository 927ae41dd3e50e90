use Rattle.def_run.specs.Run.{event_item}
use Rattle.def_run.specs.History.{all_after}
use Rattle.tn_flags.specs.Views.{event_of}
use Rattle.tn_explain.proofs.MoveTexts.{not_yet}
use Rattle.tn_explain.proofs.MoveLines.{none_shown, more_shown, shown_of, seen_all}
use Rattle.tn_explain.proofs.sessions.Sessions.tell_all.Goals as goal
use Rattle.tn_text.proofs.Growth.{grows_on}

pub loop-event-init : goal.loop-event-init
loop-event-init g c = record {
  grows = not_yet c.args.out.now.items;
  reported = λ o ss h. (ss, h, none_shown c.args.step.now o ss (shown_of event_of c.deref-event-items.result.now) c.args.out.now.items);
}

pub loop-event-preserved : goal.loop-event-preserved
loop-event-preserved g c =
    let l = c.loop-event in
    let e = c.event-item.result in
    record {
      grows = grows_on l.invariant.grows c.tell.ensures.grows;
      reported = λ o ss h.
          let inv = l.invariant.reported o ss h in
          let made = c.in_ok-tell.ensures.ok o inv.0 inv.1 in (
            all_after o inv.0 (event_item (event_of e)),
            made.0,
            more_shown event_of c.args.step.now o ss inv.0 c.deref-event-items.result.now l.event-index e c.args.out.now.items l.out.items c.tell.new.out.items c.loop-event-test.true c.event-item.is made.1 inv.2,
          );
    }

pub returns-in_err-tell-clause-grows : goal.returns-in_err-tell-clause-grows
returns-in_err-tell-clause-grows g c = grows_on c.loop-event.invariant.grows c.tell.ensures.grows

pub returns-clause-ok : goal.returns-clause-ok
returns-clause-ok g c = λ o ss h.
    let l = c.loop-event in
    let inv = l.invariant.reported o ss h in
    seen_all event_of c.args.step.now o ss inv.0 c.deref-event-items.result.now c.args.events.now.items l.event-index l.self c.args.out.now.items l.out.items c.deref-event-items.ensures.value c.loop-event-test.false inv.1 inv.2
