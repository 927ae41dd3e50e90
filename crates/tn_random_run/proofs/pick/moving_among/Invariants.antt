use Rattle.std.proofs.Common.{take}
use Rattle.tn_explore.specs.Query.{Query}
use Rattle.tn_random_run.specs.RandomStates.{AreMovingFor}
use Rattle.tn_random_run.proofs.pick.moving_among.Given as goal

abbrev pub invariant-loop-pick : goal.invariant-loop-pick
invariant-loop-pick g l = (a : Query) → g.S.SearchState.is_of l.context l.state a → AreMovingFor a (take l.pick-index l.picks) (g.S.SearchState.journal l.state) l.moving.items
