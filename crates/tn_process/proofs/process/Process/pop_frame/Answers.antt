use Rattle.tn_process.specs.Views.{frame_of, process_seen}
use Rattle.tn_process.proofs.Frames.{popped}
use Rattle.tn_process.proofs.process.Process.pop_frame.Goals as goal

pub returns : goal.returns
returns g c =
    popped frame_of (process_seen c.args.self.now) c.args.self.now.frames.items c.pop.new.self.items c.pop.result _ _ c.args.self.now.frames.ok.0 c.pop.ensures.items c.pop.ensures.cases
