use Rattle.std.proofs.Common.{◌∙◌, ℕ, Some, ap, sym}
use Rattle.std.specs.Option.{option_map}
use Rattle.std.specs.Map.Iter.{deref_pair}
use Rattle.tn_explore.specs.Searches.{answer_entry, answer_entries}
use Rattle.tn_messages.specs.MessageViews.{kept_seen}
use Rattle.std.specs.declared.vec.Vec.{Vec}
use Rattle.tn_messages.specs.declared.kept_listings.KeptListings.{KeptListings}
use Rattle.tn_spec.specs.Views.{pattern_seen}
use Rattle.tn_comparison.proofs.Entries.{seen_at}
use Rattle.tn_answers.proofs.FirstJournals.{first_here, first_later}
use Rattle.tn_answers.proofs.words.first_journal.Goals as goal

pub returns-then-branch-shown : goal.returns-then-branch-shown
returns-then-branch-shown g c =
    let pairs = c.args.answers.now.entries in
    let pair : KeptListings g.row.A.Denot × Vec ℕ g.row.A.Denot = (c.in-Some.kept.now, c.in-Some.journal.now) in
    let at = seen_at pairs c.loop-place.place pair (sym (sym (ap (option_map deref_pair) c.in-Some.is) ∙ c.get_index.ensures.entry)) in
    ap Some c.deref.ensures.value
    ∙ sym (c.loop-place.invariant ∙ first_here c.args.shown (pattern_seen c.args.pattern.now.pattern) (answer_entries kept_seen pairs) c.loop-place.place (answer_entry kept_seen pair) c.in_ok-shows.field-0 at c.in_ok-shows.ensures c.if-branch-shown.true)

pub loop-place-preserved : goal.loop-place-preserved
loop-place-preserved g c =
    let pairs = c.args.answers.now.entries in
    let pair : KeptListings g.row.A.Denot × Vec ℕ g.row.A.Denot = (c.in-Some.kept.now, c.in-Some.journal.now) in
    let at = seen_at pairs c.loop-place.place pair (sym (sym (ap (option_map deref_pair) c.in-Some.is) ∙ c.get_index.ensures.entry)) in
    c.loop-place.invariant ∙ first_later c.args.shown (pattern_seen c.args.pattern.now.pattern) (answer_entries kept_seen pairs) c.loop-place.place (answer_entry kept_seen pair) c.in_ok-shows.field-0 at c.in_ok-shows.ensures c.if-branch-shown.false
