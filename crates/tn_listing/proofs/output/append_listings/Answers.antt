use Rattle.std.proofs.Common.{◌≡◌, ◌∙◌, List, ℕ, ap, refl, sym, append-nil, arith}
use Rattle.std.specs.Prelude.{slice_get}
use Rattle.tn_program.specs.Views.{program_of}
use Rattle.tn_trace.specs.Transcripts.{TranscriptValue}
use Rattle.tn_listing.proofs.OutputLemmas.{one_more_listing, all_are_listed, rest_after}
use Rattle.tn_listing.proofs.output.append_listings.Goals as goal

pub loop-number-init : goal.loop-number-init
loop-number-init g c = record {
  text = λ picks run. sym (append-nil c.args.text.now.items);
  rest = record { later = λ m past. refl; replied = refl; journal = refl };
}

pub loop-number-preserved : goal.loop-number-preserved
loop-number-preserved g c =
    let n = c.loop-number.number in
    let at = c.loop-number.invariant in record {
      text = λ picks run.
          let there = c.take_lines-lines.ensures.lines ∙ at.rest.later n (omega arith) ∙ ap (λ (t : TranscriptValue). slice_get t.listings n) run in
          one_more_listing (program_of c.args.program.now) picks n c.args.text.now.items c.loop-number.text.items c.make_room.new.text.items (at.text picks run)
          (c.make_room.ensures ∙ c.in_ok-append_listing.ensures picks there);
      rest = rest_after n c.loop-number.transcript c.take_lines-lines.new.self c.args.transcript.now c.take_lines-lines.ensures.others at.rest;
    }

pub returns-in_err-append_listing-clause-rest : goal.returns-in_err-append_listing-clause-rest
returns-in_err-append_listing-clause-rest g c =
    let rest = c.loop-number.invariant.rest in (
      ap (λ (t : TranscriptValue). t.replied) c.take_lines-lines.ensures.others ∙ rest.replied,
      ap (λ (t : TranscriptValue). t.journal) c.take_lines-lines.ensures.others ∙ rest.journal,
    )

pub returns-clause-listings : goal.returns-clause-listings
returns-clause-listings g c = λ picks run.
    all_are_listed (program_of c.args.program.now) picks c.loop-number.number c.session_count-number-end.result c.args.text.now.items c.loop-number.text.items c.session_count-number-end.ensures c.loop-number-test.false (c.loop-number.invariant.text picks run)

pub returns-clause-rest : goal.returns-clause-rest
returns-clause-rest g c = (c.loop-number.invariant.rest.replied, c.loop-number.invariant.rest.journal)
