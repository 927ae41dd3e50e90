use Rattle.std.proofs.Common.{◌∙◌, sym, ap}
use Rattle.tn_trace.specs.Transcripts.{TranscriptValue}
use Rattle.complete_runs.proofs.transcript.replies.Goals as goal

pub returns : goal.returns
returns g c = c.replies.ensures ∙ ap (λ (t : TranscriptValue). t.replied) c.requires ∙ sym c.replies-2.ensures
