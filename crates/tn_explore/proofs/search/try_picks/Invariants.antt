use Rattle.std.proofs.Common.{◌+◌, ℕ, take}
use Rattle.tn_explore.specs.Query.{Query, AdmitsFor}
use Rattle.tn_explore.specs.Searches.{IsAt, AreAt, Tries}
use Rattle.tn_explore.proofs.search.try_picks.Given as goal

abbrev pub invariant-loop-pick : goal.invariant-loop-pick
invariant-loop-pick g l =
    (a : Query) (depth : ℕ) → AdmitsFor a (g.S.SearchState.journal l.state) → AreAt g.S.SearchState.journal (g.S.SearchState.is_of l.context) a (depth + 1) l.initial.next.states.items → IsAt g.S.SearchState.journal (g.S.SearchState.is_of l.context) a depth l.state →
    Tries g.S.SearchState.journal (g.S.SearchState.is_of l.context) a (depth + 1) l.state (take l.pick-index l.picks) l.initial.next.states.items l.next.states.items l.moved
