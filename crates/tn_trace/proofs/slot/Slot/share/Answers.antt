use Rattle.std.proofs.Common.{refl}
use Rattle.tn_trace.proofs.Copies.{slot_again}
use Rattle.tn_trace.proofs.slot.Slot.share.Goals as goal

pub returns : goal.returns
returns g c = slot_again g.K.MessageSink.keeps c.args.self.now _ refl c.in_ok-copy_into.ensures c.in_ok-share_session.ensures c.in_ok-share.ensures
