use Rattle.std.proofs.Common.{◌∙◌, ap}
use Rattle.tn_trace.specs.Transcripts.{TranscriptValue, slot_lines}
use Rattle.tn_trace.proofs.TranscriptLemmas.{lines_read, lines_past}
use Rattle.tn_trace.proofs.transcript.Transcript.lines.Goals as goal

pub returns-in-Some : goal.returns-in-Some
returns-in-Some g c =
    let seen = ap slot_lines c.deref.ensures.value ∙ ap (λ (t : TranscriptValue). t.listings) c.self.view_is in
    lines_read c.deref.result.now c.args.place c.in-Some.slot.now c.deref-in-Some.result.now c.args.self.now seen c.in-Some.ensures.lookup.3.0 c.in-Some.ensures.lookup.1 c.deref-in-Some.ensures.value

pub returns-in-None : goal.returns-in-None
returns-in-None g c =
    let seen = ap slot_lines c.deref.ensures.value ∙ ap (λ (t : TranscriptValue). t.listings) c.self.view_is in
    lines_past c.deref.result.now c.args.place c.args.self.now seen c.in-None.ensures.lookup.3
