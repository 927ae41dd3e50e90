use Rattle.tn_explore.specs.Query.{Query}
use Rattle.tn_greedy_run.proofs.NextPicks.{GoesOn}
use Rattle.tn_greedy_run.proofs.greedy.greedy_run.Given as goal

abbrev pub invariant-loop : goal.invariant-loop
invariant-loop g l = (a : Query) → g.S.SearchState.filters l.filter a → g.S.SearchState.is_of l.context l.fn.first a → GoesOn g.S.SearchState.journal (g.S.SearchState.is_of l.context) a l.picks l.moves l.counter l.fn.first l.state
