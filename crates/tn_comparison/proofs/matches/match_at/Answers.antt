use Rattle.std.proofs.Common.{◌∙◌, ℕ, ap, sym}
use Rattle.std.specs.Option.{option_map}
use Rattle.std.specs.Map.Iter.{deref_pair}
use Rattle.std.specs.declared.vec.Vec.{Vec}
use Rattle.tn_explore.specs.Searches.{answer_entry}
use Rattle.tn_messages.specs.MessageViews.{kept_seen}
use Rattle.tn_messages.specs.declared.kept_listings.KeptListings.{KeptListings}
use Rattle.tn_renaming.specs.Pairs.{pairs_seen}
use Rattle.tn_comparison.proofs.Entries.{entry_is}
use Rattle.tn_comparison.proofs.Firsts.{match_is, no_match_is}
use Rattle.tn_comparison.proofs.matches.match_at.Goals as goal

pub returns : goal.returns
returns g c = λ a e d at.
    let pair : KeptListings g.row.A.Denot × Vec ℕ g.row.A.Denot = (c.in-Some.kept.now, c.in-Some.journal.now) in
    let there = sym (sym (ap (option_map deref_pair) c.in-Some.is) ∙ c.get_index.ensures.entry) in
    let same = entry_is c.args.answers.now.entries c.args.place pair e there at in
    match_is a (answer_entry kept_seen pair) e c.deref.result.now (pairs_seen c.in-Some-2.pairs) same c.deref.ensures.value (sym (c.in_ok-pairs.ensures a d) ∙ ap (option_map pairs_seen) c.in-Some-2.is)

pub returns-in_default-2 : goal.returns-in_default-2
returns-in_default-2 g c = λ a e d at.
    let pair : KeptListings g.row.A.Denot × Vec ℕ g.row.A.Denot = (c.in-Some.kept.now, c.in-Some.journal.now) in
    let there = sym (sym (ap (option_map deref_pair) c.in-Some.is) ∙ c.get_index.ensures.entry) in
    let same = entry_is c.args.answers.now.entries c.args.place pair e there at in
    no_match_is a (answer_entry kept_seen pair) e same (sym (c.in_ok-pairs.ensures a d) ∙ ap (option_map pairs_seen) c.in_default-2.is)
