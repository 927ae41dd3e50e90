use Rattle.std.proofs.Common.{List, drop}
use Rattle.def_script.specs.Exports.{Exports}
use Rattle.def_run.specs.History.{NamedSession}
use Rattle.tn_flags.specs.Views.{event_of}
use Rattle.tn_picture.specs.Painters.{ArePainterSessions, rows_seen}
use Rattle.tn_picture.proofs.PaintedMoves.{IsPainted, items_of}
use Rattle.tn_picture.proofs.painter.Painter.put_events.Given as goal

abbrev pub invariant-loop-event : goal.invariant-loop-event
invariant-loop-event g l = (o : Exports) (ss : List NamedSession) → ArePainterSessions o ss l.fn.self →
    (us : List NamedSession) × ArePainterSessions o us l.self × IsPainted o l.number ss us (items_of event_of l.event-items) (items_of event_of (drop l.event-index l.event-items)) (rows_seen l.fn.rows) (rows_seen l.rows)
