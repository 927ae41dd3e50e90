use Rattle.std.proofs.Common.{◌-◌, ◌∷◌}
use Rattle.def_run.specs.Round.{pass_from}
use Rattle.tn_run.specs.RestingSeats.{SeatIsStill}
use Rattle.tn_run.proofs.last_passes.processes_idle.Given as goal

abbrev pub invariant-loop-pid : goal.invariant-loop-pid
invariant-loop-pid g l = SeatIsStill g.J.JournalName.program l.front (0 ∷ pass_from (l.pid - 100) 100) l.seat
