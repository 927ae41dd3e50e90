use Rattle.std.proofs.Common.{◌≡◌, List}
use Rattle.def_script.specs.Exports.{Exports}
use Rattle.tn_flags.specs.Views.{event_of}
use Rattle.tn_trace.specs.Tracks.{Track}
use Rattle.tn_trace.specs.Recorders.{AreTracked}
use Rattle.tn_trace.proofs.Places.{GoesOn}
use Rattle.tn_trace.proofs.recorder.Recorder.tell_all.Given as goal

abbrev pub invariant-loop-event : goal.invariant-loop-event
invariant-loop-event g l = (l.self ≡ record l.initial.self { living = l.self.living; slots = l.self.slots; room = l.self.room }) × ((o : Exports) (ts : List Track) → AreTracked g.K.MessageSink.keeps o ts l.initial.self → (us : List Track) × AreTracked g.K.MessageSink.keeps o us l.self
    × GoesOn g.K.MessageSink.gives event_of ts us l.event-items l.event-index l.initial.given l.given)
