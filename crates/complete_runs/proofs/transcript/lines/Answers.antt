use Rattle.std.proofs.Common.{◌∙◌, sym, ap}
use Rattle.std.specs.Prelude.{slice_get}
use Rattle.tn_trace.specs.Transcripts.{TranscriptValue}
use Rattle.complete_runs.proofs.transcript.lines.Goals as goal

pub returns : goal.returns
returns g c = c.lines.ensures ∙ ap (λ (t : TranscriptValue). slice_get t.listings c.args.place) c.requires ∙ sym c.lines-2.ensures
