use Rattle.tn_trace.specs.Recorders.{HasRecorded}
use Rattle.tn_trace.specs.Shares.{IsRunCopy}
use Rattle.complete_runs.specs.ObservedRuns.{AreRuns}
use Rattle.complete_runs.proofs.Both.{both_if_ok}
use Rattle.complete_runs.proofs.run.share.Goals as goal

pub returns : goal.returns
returns g c =
    both_if_ok (IsRunCopy g.K.MessageSink.keeps c.args.one.now) (IsRunCopy g.K.MessageSink.keeps c.args.other.now) (AreRuns (HasRecorded g.K.MessageSink.keeps) g.at.0 g.at.1 g.at.2)
    (λ r q i j. record { first = i g.at.0 g.at.1 g.at.2 c.requires.1.1.0; second = j g.at.0 g.at.1 g.at.2 c.requires.1.1.1 }) _ _ c.share-first.ensures c.share-second.ensures
