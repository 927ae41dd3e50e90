use Rattle.std.proofs.Common.{refl}
use Rattle.tn_trace.proofs.Copies.{recorder_again}
use Rattle.tn_trace.proofs.recorder.Recorder.share.Goals as goal

pub returns : goal.returns
returns g c = recorder_again g.K.MessageSink.keeps c.args.self.now _ refl c.in_ok-share_slots.ensures c.in_ok-share.ensures
