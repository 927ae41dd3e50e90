use Rattle.std.proofs.Common.{◌≡◌, List, flat_map, length, take}
use Rattle.def_term.specs.Alive.{Alive}
use Rattle.def_script.specs.Exports.{Exports}
use Rattle.def_session.specs.State.{alive_after}
use Rattle.tn_flags.specs.Views.{event_of}
use Rattle.tn_session.specs.EventTexts.{event_in}
use Rattle.tn_trace.specs.Tracks.{Track, with_event, reported_to, AreMore}
use Rattle.tn_trace.specs.Slots.{IsTracked, EachPair, EachUpTo}
use Rattle.tn_trace.proofs.sessions.tell_each.Given as goal

abbrev pub invariant-loop-place : goal.invariant-loop-place
invariant-loop-place g l = (length l.slots.items ≡ length l.initial.slots.items) × (event_in l.text ≡ l.event) × ((o : Exports) (living : Alive) (ts : List Track) → EachPair (IsTracked g.K.MessageSink.keeps o living) ts l.initial.slots.items →
    EachUpTo (λ t s. IsTracked g.K.MessageSink.keeps o (alive_after living (event_of l.event)) (with_event (event_of l.event) t) s) (IsTracked g.K.MessageSink.keeps o living) l.place ts l.slots.items
    × AreMore g.K.MessageSink.gives (flat_map (reported_to (event_of l.event)) (take l.place ts)) l.initial.given l.given)
