use Rattle.std.proofs.Common.{◌∙◌, ◌+◌, ap, map, sym}
use Rattle.std.proofs.lemmas.Result.{on_ok_weaker}
use Rattle.std.specs.Option.{option_map}
use Rattle.std.specs.Map.Iter.{deref_pair}
use Rattle.def_explore.specs.Output.{entry_line, kept_listings}
use Rattle.def_compare.specs.AnswerSummaries.{listings_in}
use Rattle.tn_messages.specs.MessageViews.{kept_seen}
use Rattle.tn_answers.specs.AnswerViews.{session_name_seen}
use Rattle.tn_answers.proofs.Parts.{before_rest, never_seen, entry_written}
use Rattle.tn_answers.proofs.entry.put_entry_at.Goals as goal

pub returns-in_default : goal.returns-in_default
returns-in_default g c = λ e at. never_seen c.args.answers.now.entries c.args.place.0 e (sym c.get_index.ensures.entry ∙ ap (option_map deref_pair) c.in_default.is) at

pub returns : goal.returns
returns g c =
    let b = c.args.is_summary in
    let n = c.args.place.0 + 1 in
    let count = c.args.place.1 in
    let ss = map session_name_seen c.args.sessions.now in
    let old = c.args.out.now.items in
    let line = entry_line n count c.deref.result.now in
    let rest = listings_in b ss (kept_listings (kept_seen c.in-Some.kept.now)) in
    on_ok_weaker c.put_listings.result (λ written e at.
    entry_written b ss count n c.args.answers.now.entries c.args.place.0 c.in-Some.kept.now c.in-Some.journal.now c.deref.result.now old c.put_listings.new.out.items e
    (sym (ap (option_map deref_pair) c.in-Some.is) ∙ c.get_index.ensures.entry) at c.deref.ensures.value
    (before_rest old line c.put_entry_line.new.out.items rest c.put_listings.new.out.items c.in_ok-put_entry_line.ensures written)) c.put_listings.ensures
