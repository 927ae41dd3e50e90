use Rattle.std.proofs.Common.{refl}
use Rattle.def_script.specs.Exports.{exports_of}
use Rattle.tn_flags.specs.Views.{command_of}
use Rattle.tn_program.specs.Views.{program_of}
use Rattle.tn_trace.specs.Tracks.{tracks_of}
use Rattle.tn_trace.proofs.RecorderSteps.{command_recorded}
use Rattle.tn_trace.proofs.recorder.RecorderObserver.obey.Goals as goal

pub returns-clause-ok : goal.returns-clause-ok
returns-clause-ok g c = λ picks seen next.
    let p = program_of c.args.program.now in
    command_recorded g.K.MessageSink.keeps g.K.MessageSink.gives p picks c.args.entry c.args.self.now seen (command_of c.args.command.now) c.take_command.new.self c.args.out.now next
    (c.in_ok-take_command.ensures (exports_of p) (tracks_of p picks) refl seen.sessions)
