use Rattle.std.proofs.Common.{◌≡◌, List, length}
use Rattle.def_term.specs.Alive.{Alive}
use Rattle.def_script.specs.Exports.{Exports}
use Rattle.def_session.specs.State.{alive_after}
use Rattle.def_run.specs.Run.{event_item}
use Rattle.def_run.specs.History.{NamedSession}
use Rattle.def_message_choice.specs.MessageChoices.{would_match, chooses}
use Rattle.tn_flags.specs.Views.{event_of}
use Rattle.tn_trace.specs.Slots.{EachPair}
use Rattle.tn_trace.specs.NamedSessions.{HasState}
use Rattle.tn_message_choice.specs.Choices.{choice_seen, session_asked}
use Rattle.tn_message_choice.proofs.SideBySide.{IsHalfway}
use Rattle.tn_message_choice.proofs.slots.see_each.Given as goal

abbrev pub invariant-loop-place : goal.invariant-loop-place
invariant-loop-place g l = record {
  size : length l.slots.items ≡ length l.fn.slots.items;
  one : (o : Exports) (living : Alive) (ss : List NamedSession) → EachPair (HasState o living) ss l.fn.slots.items → l.would ≡ would_match (choice_seen l.question.choice) (event_of l.event) →
      IsHalfway o living (alive_after living (event_of l.event)) (event_item (event_of l.event)) ss (chooses (choice_seen l.question.choice) (session_asked l.question) (event_item (event_of l.event))) l.place l.slots.items l.one_chooses;
}
