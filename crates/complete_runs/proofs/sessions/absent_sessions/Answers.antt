use Rattle.tn_program.specs.Views.{program_of}
use Rattle.complete_runs.proofs.SameSlots.{both_started}
use Rattle.complete_runs.proofs.sessions.absent_sessions.Goals as goal

pub returns : goal.returns
returns g c =
    both_started g.K.MessageSink.keeps (program_of c.args.one.now) (program_of c.args.other.now) c.requires _ _ c.absent_sessions-first.ensures c.absent_sessions-second.ensures
