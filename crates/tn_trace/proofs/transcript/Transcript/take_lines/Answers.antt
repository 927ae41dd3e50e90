use Rattle.std.proofs.Common.{◌≡◌, ◌∙◌, [], ap, arith}
use Rattle.std.specs.Prelude.{slice_set}
use Rattle.std.proofs.lemmas.List.{map-set}
use Rattle.tn_trace.specs.Transcripts.{TranscriptValue, slot_lines, without_lines}
use Rattle.tn_trace.specs.declared.slot.Slot.{Slot}
use Rattle.tn_trace.specs.declared.sinks.Lines.{Lines}
use Rattle.tn_trace.proofs.TranscriptLemmas.{lines_past}
use Rattle.tn_trace.proofs.transcript.Transcript.take_lines.Goals as goal

pub returns-then-place-len-clause-others : goal.returns-then-place-len-clause-others
returns-then-place-len-clause-others g c =
    let t = c.self.inside in
    let slot = c.index_mut.result.now in
    let left : Slot g.row.A.Denot (Lines g.row.A.Denot) = record slot { kept = record { text = c.replace.new.dest } } in
    let none : c.replace.new.dest.items ≡ [] = ap (λ v. v.items) c.replace.ensures.after ∙ c.new-none.ensures.items in
    let lines : slot_lines (slice_set t.recorder.slots.items c.args.place left) ≡ slice_set (slot_lines t.recorder.slots.items) c.args.place [] =
    map-set (λ (s : Slot g.row.A.Denot (Lines g.row.A.Denot)). s.kept.text.items) t.recorder.slots.items c.args.place left
    ∙ ap (slice_set (slot_lines t.recorder.slots.items) c.args.place) none in
    (λ i. record { listings = lines i; replied = t.recorder.replies.text.items; journal = t.journal.items })
    ∙ ap (λ (v : TranscriptValue). without_lines v c.args.place) c.self.view_is

pub returns-else-place-len-clause-lines : goal.returns-else-place-len-clause-lines
returns-else-place-len-clause-lines g c =
    let slots = c.self.inside.recorder.slots in
    lines_past slots.items c.args.place c.args.self.now (ap (λ (v : TranscriptValue). v.listings) c.self.view_is) (omega (arith, c.len.ensures, c.if-place-len.false, slots.ok.0))
