use Rattle.std.proofs.Common.{sym, ◌∙◌}
use Rattle.indexmap.proofs.CallerLemmas.{insert_entry-new}
use Rattle.tn_explore.proofs.Observations.{none_if}
use Rattle.tn_random_run.proofs.Entries.{entry_stays, entry_more}
use Rattle.tn_random_run.proofs.search.add_entry.Goals as goal

pub returns-then-contains_key : goal.returns-then-contains_key
returns-then-contains_key g c = λ x a is_of.
    entry_stays g.S.Observation.PartialEq.eq g.S.SearchState.kept_seen g.met.S.SearchState.equals c.in_ok-observation.observation a (g.S.SearchState.journal c.args.state.now) (c.in_ok-observation.ensures x a is_of)
    c.args.answers.now.entries (sym c.contains_key.ensures ∙ c.if-contains_key.true)

pub returns : goal.returns
returns g c = λ x a is_of.
    let eq = g.S.Observation.PartialEq.eq in
    let m = c.in_ok-observation.observation in
    let old = c.args.answers.now in
    let lacks = sym c.contains_key.ensures ∙ c.if-contains_key.false in
    entry_more eq g.S.SearchState.kept_seen g.met.S.SearchState.equals m a (g.S.SearchState.journal c.args.state.now) (c.in_ok-observation.ensures x a is_of)
    old.entries c.insert.new.self.entries c.in_ok-journal.journal lacks (c.in_ok-insert.ensures.entries ∙ insert_entry-new eq old m c.in_ok-journal.journal (none_if _ lacks)) c.in_ok-journal.ensures
