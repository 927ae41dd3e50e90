use Rattle.std.proofs.Common.{List, drop}
use Rattle.def_script.specs.Exports.{Exports}
use Rattle.def_run.specs.History.{NamedSession}
use Rattle.tn_flags.specs.Views.{event_of}
use Rattle.tn_text.specs.Writes.{Grows}
use Rattle.tn_explain.specs.NamedSessions.{AreNamedSessions}
use Rattle.tn_explain.proofs.MoveLines.{IsPartway, shown_of}
use Rattle.tn_explain.proofs.sessions.Sessions.tell_all.Given as goal

abbrev pub invariant-loop-event : goal.invariant-loop-event
invariant-loop-event g l = record {
  grows : Grows l.fn.out.items l.out.items;
  reported : (o : Exports) (ss : List NamedSession) → AreNamedSessions o ss l.fn.self →
      (us : List NamedSession) × AreNamedSessions o us l.self × IsPartway l.step o ss us (shown_of event_of l.event-items) (shown_of event_of (drop l.event-index l.event-items)) l.fn.out.items l.out.items;
}
