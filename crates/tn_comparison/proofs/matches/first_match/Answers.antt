use Rattle.std.proofs.Common.{◌∙◌, ◌<◌, sym, length, arith}
use Rattle.std.proofs.lemmas.List.{length-map}
use Rattle.std.specs.Option.{option_map}
use Rattle.def_compare.specs.Traces.{shown_pairs}
use Rattle.tn_explore.specs.Searches.{answer_entry, answer_entries}
use Rattle.tn_messages.specs.MessageViews.{kept_seen}
use Rattle.tn_comparison.specs.Matches.{match_seen}
use Rattle.tn_comparison.proofs.Firsts.{is_mapped, found_here, found_later}
use Rattle.tn_comparison.proofs.matches.first_match.Goals as goal

pub returns-then-is_some : goal.returns-then-is_some
returns-then-is_some g c = λ a d.
    let es = answer_entries kept_seen c.args.answers.now.entries in
    let below : c.loop-place.place < length es = omega (arith, c.loop-place-test.true, c.len-place-end.ensures.len, length-map c.args.answers.now.entries (answer_entry kept_seen)) in
    found_here (shown_pairs a) es c.loop-place.place (option_map match_seen c.in_ok-found.found) below (is_mapped match_seen c.in_ok-found.found _ (sym c.is_some.ensures ∙ c.if-is_some.true)) (λ e at. c.in_ok-found.ensures a e d at)
    ∙ sym (c.loop-place.invariant a d)

pub loop-place-preserved : goal.loop-place-preserved
loop-place-preserved g c = λ a d.
    let es = answer_entries kept_seen c.args.answers.now.entries in
    let below : c.loop-place.place < length es = omega (arith, c.loop-place-test.true, c.len-place-end.ensures.len, length-map c.args.answers.now.entries (answer_entry kept_seen)) in
    c.loop-place.invariant a d
    ∙ found_later (shown_pairs a) es c.loop-place.place (option_map match_seen c.in_ok-found.found) below (is_mapped match_seen c.in_ok-found.found _ (sym c.is_some.ensures ∙ c.if-is_some.false)) (λ e at. c.in_ok-found.ensures a e d at)
