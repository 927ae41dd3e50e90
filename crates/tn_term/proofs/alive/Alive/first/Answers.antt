use Rattle.std.proofs.Common.{◌∙◌, ap, arith, true, false, set}
use Rattle.tn_term.proofs.Places.{one_more_set}
use Rattle.tn_term.proofs.alive.Alive.first.Goals as goal

pub loop-place-preserved : goal.loop-place-preserved
loop-place-preserved c = ap (λ xs. set xs c.loop-place.place true) c.loop-place.invariant ∙ one_more_set true false 64 c.loop-place.place (omega arith)
