use Rattle.std.proofs.Common.{◌≡◌}
use Rattle.def_run.specs.Run.{moves}
use Rattle.tn_explore.specs.Query.{Query}
use Rattle.tn_explore.specs.SearchStates.{FollowsAllBy}
use Rattle.tn_explore.specs.Searches.{answer_entries}
use Rattle.tn_explore.proofs.Searches.{Before}
use Rattle.tn_explore.proofs.search.explore.Given as goal

abbrev pub invariant-loop : goal.invariant-loop
invariant-loop g l =
    (a : Query) → g.S.SearchState.is_of l.context l.fn.first a → g.S.SearchState.filters l.choice.filter.now a → FollowsAllBy l.choice.leaves_out a → g.S.SearchState.journal l.fn.first ≡ moves a.program a.before →
    Before g.S.SearchState.journal (g.S.SearchState.is_of l.context) l.choice.leaves_out a l.counter l.layer.states.items (answer_entries g.S.SearchState.kept_seen l.answers.entries) l.states
