use Rattle.std.proofs.Common.{◌≡◌, ◌-◌, ◌++◌, true, false, replicate}
use Rattle.tn_term.proofs.alive.Alive.first.Given as goal

abbrev pub invariant-loop-place : goal.invariant-loop-place
invariant-loop-place l = l.alive.slots ≡ replicate l.place true ++ replicate (64 - l.place) false
