use Rattle.tn_trace.specs.Shares.{IsRecorderCopy}
use Rattle.complete_runs.specs.ObservedRuns.{AreRecorders}
use Rattle.complete_runs.proofs.Both.{both_if_ok}
use Rattle.complete_runs.proofs.recorder.share.Goals as goal

pub returns : goal.returns
returns g c =
    both_if_ok (IsRecorderCopy g.K.MessageSink.keeps c.args.one.now) (IsRecorderCopy g.K.MessageSink.keeps c.args.other.now) (AreRecorders g.K.MessageSink.keeps g.at.0 g.at.1)
    (λ r q i j. record { first = i g.at.0 g.at.1 c.requires.1.1.0; second = j g.at.0 g.at.1 c.requires.1.1.1 }) _ _ c.share-first.ensures c.share-second.ensures
