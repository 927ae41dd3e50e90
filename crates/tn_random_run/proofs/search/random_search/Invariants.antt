use Rattle.tn_explore.specs.Query.{Query}
use Rattle.tn_explore.specs.Searches.{answer_entries}
use Rattle.tn_random_run.proofs.Entries.{RunsOn}
use Rattle.tn_random_run.proofs.search.random_search.Given as goal

abbrev pub invariant-loop : goal.invariant-loop
invariant-loop g l = (a : Query) → g.S.SearchState.is_of l.context l.first a → RunsOn a (g.S.SearchState.journal l.first) l.picks l.plan l.counter l.seed l.states (answer_entries g.S.SearchState.kept_seen l.answers.entries)
