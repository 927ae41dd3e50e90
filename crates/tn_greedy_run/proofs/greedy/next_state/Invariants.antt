use Rattle.tn_explore.specs.Query.{Query}
use Rattle.tn_greedy_run.proofs.NextPicks.{NoneBefore}
use Rattle.tn_greedy_run.proofs.greedy.next_state.Given as goal

abbrev pub invariant-loop-pick : goal.invariant-loop-pick
invariant-loop-pick g l = (a : Query) → g.S.SearchState.filters l.filter a → g.S.SearchState.is_of l.context l.state a → NoneBefore g.S.SearchState.journal a l.state l.picks l.pick-index
