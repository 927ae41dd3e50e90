use Rattle.std.proofs.Common.{◌≡◌, ◌-◌, ◌++◌, ◌∷◌, []}
use Rattle.def_run.specs.Round.{pass_from}
use Rattle.tn_trace.proofs.pass.pass_picks.Given as goal

abbrev pub invariant-loop-pid : goal.invariant-loop-pid
invariant-loop-pid g l = l.picks.items ≡ (0 ∷ []) ++ pass_from (l.pid - 100) 100
