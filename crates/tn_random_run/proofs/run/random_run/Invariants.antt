use Rattle.tn_explore.specs.Query.{Query}
use Rattle.tn_random_run.proofs.Runs.{GoesOn}
use Rattle.tn_random_run.proofs.run.random_run.Given as goal

abbrev pub invariant-loop : goal.invariant-loop
invariant-loop g l = (a : Query) → g.S.SearchState.is_of l.context l.fn.first a → GoesOn g.S.SearchState.journal (g.S.SearchState.is_of l.context) a l.picks l.moves l.seed l.counter l.last l.fn.first l.state
