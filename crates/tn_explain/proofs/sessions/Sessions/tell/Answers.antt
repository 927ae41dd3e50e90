use Rattle.std.proofs.Common.{sym, subst}
use Rattle.def_run.specs.Run.{event_item}
use Rattle.def_run.specs.History.{all_after}
use Rattle.tn_term.specs.Views.{alive_of}
use Rattle.tn_flags.specs.Views.{event_of}
use Rattle.tn_trace.specs.Slots.{EachPair}
use Rattle.tn_trace.specs.NamedSessions.{HasState}
use Rattle.tn_explain.proofs.MoveLines.{shown_and_made}
use Rattle.tn_explain.proofs.sessions.Sessions.tell.Goals as goal

pub returns-clause-ok : goal.returns-clause-ok
returns-clause-ok g c = λ o ss h.
    let x = event_item (event_of c.args.event.now) in
    let made = c.in_ok-tell_each.ensures.ok o (alive_of c.args.self.now.living) ss h in (
      subst (λ living. EachPair (HasState o living) (all_after o ss x) c.tell_each.new.slots.items) (sym c.living_after-self.ensures) made.0,
      shown_and_made c.args.step.now o ss x c.args.out.now.items c.put_event.new.out.items c.tell_each.new.out.items c.in_ok-put_event.ensures.ok made.1,
    )
