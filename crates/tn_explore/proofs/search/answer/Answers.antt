use Rattle.std.proofs.Common.{sym, ◌∙◌}
use Rattle.indexmap.proofs.CallerLemmas.{insert_entry-new}
use Rattle.tn_explore.proofs.Observations.{answered, answers_more, none_if}
use Rattle.tn_explore.proofs.search.answer.Goals as goal

pub returns-then-contains_key : goal.returns-then-contains_key
returns-then-contains_key g c = λ x.
    answered g.S.Observation.PartialEq.eq g.S.SearchState.kept_seen g.met.S.SearchState.equals c.in_ok-observation.observation g.S.SearchState.journal (g.S.SearchState.is_of x) c.args.state.now (c.in_ok-observation.ensures x)
    c.args.answers.now.entries (sym c.contains_key.ensures ∙ c.if-contains_key.true)

pub returns : goal.returns
returns g c = λ x.
    let eq = g.S.Observation.PartialEq.eq in
    let m = c.in_ok-observation.observation in
    let old = c.args.answers.now in
    let lacks = sym c.contains_key.ensures ∙ c.if-contains_key.false in
    answers_more eq g.S.SearchState.kept_seen g.met.S.SearchState.equals m g.S.SearchState.journal (g.S.SearchState.is_of x) c.args.state.now (c.in_ok-observation.ensures x)
    old.entries c.insert.new.self.entries c.in_ok-journal.journal lacks (c.in_ok-insert.ensures.entries ∙ insert_entry-new eq old m c.in_ok-journal.journal (none_if _ lacks)) c.in_ok-journal.ensures
