use Rattle.std.proofs.Common.{List, drop}
use Rattle.def_script.specs.Exports.{Exports}
use Rattle.def_run.specs.History.{NamedSession}
use Rattle.tn_flags.specs.Views.{event_of}
use Rattle.tn_message_choice.specs.Choices.{choice_seen, session_asked}
use Rattle.tn_message_choice.specs.Choosers.{AreChoosers}
use Rattle.tn_message_choice.proofs.Moves.{IsPartway, shown_of}
use Rattle.tn_message_choice.proofs.choosers.Choosers.see.Given as goal

abbrev pub invariant-loop-event : goal.invariant-loop-event
invariant-loop-event g l =
    (o : Exports) (ss : List NamedSession) → AreChoosers o ss l.fn.self →
    (us : List NamedSession) × AreChoosers o us l.self
    × IsPartway (choice_seen l.question.choice) (session_asked l.question) o ss us (shown_of event_of l.event-items) (shown_of event_of (drop l.event-index l.event-items)) l.is_chosen
