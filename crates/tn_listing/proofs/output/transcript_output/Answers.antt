use Rattle.std.proofs.Common.{◌∙◌, ap}
use Rattle.tn_program.specs.Views.{program_of}
use Rattle.tn_trace.specs.Transcripts.{TranscriptValue}
use Rattle.tn_listing.proofs.OutputLemmas.{all_parts, whole_run}
use Rattle.tn_listing.proofs.output.transcript_output.Goals as goal

pub returns : goal.returns
returns g c = λ picks is.
    let p = program_of c.args.program.now in
    whole_run p picks c.replies.result.now c.journal.result.now c.push.new.self.items (c.replies.ensures ∙ c.append_listings.ensures.rest.0 ∙ ap (λ (t : TranscriptValue). t.replied) is) (c.journal.ensures ∙ c.append_listings.ensures.rest.1 ∙ ap (λ (t : TranscriptValue). t.journal) is)
    (all_parts c.new-text.result.items c.append_listings.new.text.items c.extend_from_slice.new.self.items c.extend_from_slice-2.new.self.items c.extend_from_slice-3.new.self.items c.write_picks.new.out.items c.push.new.self.items
    _ _ _ _ _ _
    c.new-text.ensures.items (c.in_ok-append_listings.ensures.listings picks is) c.in_ok-extend_from_slice.ensures.items
    c.in_ok-extend_from_slice-2.ensures.items
    c.in_ok-extend_from_slice-3.ensures.items
    c.in_ok-write_picks.ensures.ok
    c.in_ok-push.ensures.items)
