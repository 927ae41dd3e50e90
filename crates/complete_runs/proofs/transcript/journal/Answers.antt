use Rattle.std.proofs.Common.{◌∙◌, sym, ap}
use Rattle.tn_trace.specs.Transcripts.{TranscriptValue}
use Rattle.complete_runs.proofs.transcript.journal.Goals as goal

pub returns : goal.returns
returns g c = c.journal.ensures ∙ ap (λ (t : TranscriptValue). t.journal) c.requires ∙ sym c.journal-2.ensures
