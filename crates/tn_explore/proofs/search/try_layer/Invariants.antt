use Rattle.std.proofs.Common.{◌≡◌, ◌++◌, ◌+◌, ℕ, List, [], map, take}
use Rattle.tn_explore.specs.Query.{Query}
use Rattle.tn_explore.specs.SearchStates.{FollowsAllBy}
use Rattle.tn_explore.specs.Searches.{AreAt, HaveTried, answer_entries}
use Rattle.tn_explore.proofs.Searches.{known}
use Rattle.tn_explore.proofs.search.try_layer.Given as goal

abbrev pub invariant-loop : goal.invariant-loop
invariant-loop g l = record {
  rest : take l.counter l.fn.states.items ++ l.rest.items ≡ l.fn.states.items;
  tried : (a : Query) (depth : ℕ) (tried : List (List ℕ)) →
      g.S.SearchState.filters l.choice.filter.now a → FollowsAllBy l.choice.leaves_out a → l.initial.next.states.items ≡ [] → AreAt g.S.SearchState.journal (g.S.SearchState.is_of l.context) a depth l.fn.states.items →
      HaveTried l.choice.leaves_out a depth (tried ++ map g.S.SearchState.journal l.fn.states.items) tried (answer_entries g.S.SearchState.kept_seen l.initial.answers.entries) →
      AreAt g.S.SearchState.journal (g.S.SearchState.is_of l.context) a (depth + 1) l.next.states.items
      × HaveTried l.choice.leaves_out a depth (known g.S.SearchState.journal (g.S.SearchState.is_of l.context) l.choice.leaves_out a depth tried l.fn.states.items l.next.states.items)
      (tried ++ map g.S.SearchState.journal (take l.counter l.fn.states.items)) (answer_entries g.S.SearchState.kept_seen l.answers.entries);
}
