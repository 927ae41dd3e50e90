use Rattle.tn_trace.specs.Items.{AreTexts}
use Rattle.tn_trace.specs.Recorders.{HasRecorded}
use Rattle.tn_trace.proofs.TranscriptLemmas.{moved_run, transcript_is}
use Rattle.tn_trace.proofs.transcript.Transcript.of_run.Goals as goal

pub returns : goal.returns
returns g c = λ p limit picks is.
    let moved = moved_run (HasRecorded AreTexts) p limit picks c.args.run is in
    transcript_is p picks c.args.run.observer c.args.run.journal.items moved.seen moved.journaled
