use Rattle.def_run.proofs.Runs.{idle_place, idle_shown, idle_moved, idle_output}
use Rattle.def_run.proofs.idle_picks_leave_no_trace.Goals as goal

pub returns : goal.returns
returns c = record { place = idle_place; shown = idle_shown; moved = idle_moved; output = idle_output }
