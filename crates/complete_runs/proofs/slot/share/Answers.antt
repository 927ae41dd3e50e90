use Rattle.tn_trace.specs.Shares.{IsSlotCopy}
use Rattle.complete_runs.specs.Alike.{AreTrackedAlike}
use Rattle.complete_runs.proofs.Both.{both_if_ok}
use Rattle.complete_runs.proofs.slot.share.Goals as goal

pub returns : goal.returns
returns g c =
    both_if_ok (IsSlotCopy g.K.MessageSink.keeps c.args.one.now) (IsSlotCopy g.K.MessageSink.keeps c.args.other.now) (AreTrackedAlike g.K.MessageSink.keeps g.at.0)
    (λ r q i j. record { living = g.at.1; track = g.at.2; first = i g.at.0 g.at.1 g.at.2 c.requires.1.1.0; second = j g.at.0 g.at.1 g.at.2 c.requires.1.1.1 }) _ _ c.share-first.ensures c.share-second.ensures
