use Rattle.std.proofs.Common.{map, ap}
use Rattle.def_script.specs.Exports.{exports_of}
use Rattle.tn_flags.specs.Views.{event_of}
use Rattle.tn_program.specs.Views.{program_of}
use Rattle.tn_trace.specs.Tracks.{tracks_of}
use Rattle.tn_trace.specs.declared.recorder.Recorder.{Recorder}
use Rattle.tn_trace.proofs.RecorderSteps.{events_recorded}
use Rattle.tn_trace.proofs.recorder.RecorderObserver.see.Goals as goal

pub returns-clause-ok : goal.returns-clause-ok
returns-clause-ok g c = λ picks seen looked next.
    let p = program_of c.args.program.now in
    events_recorded g.K.MessageSink.keeps g.K.MessageSink.gives p picks c.args.entry c.args.self.now seen (map event_of c.args.events.now.items) c.tell_all.new.self c.args.out.now c.tell_all.new.given next
    (c.in_ok-tell_all.ensures.sessions (exports_of p) (tracks_of p picks) seen.sessions) (c.in_ok-tell_all.ensures.given (exports_of p) (tracks_of p picks) seen.sessions)
    (ap (λ (q : Recorder _ _). q.replies) c.in_ok-tell_all.ensures.others)
