use Rattle.def_run.proofs.Picks.{pick_is_its_step, pick_takes_a_command, full_journal_stays}
use Rattle.def_run.proofs.Nexts.{pick_is_next}
use Rattle.def_run.proofs.a_pick_is_a_step.Goals as goal

pub returns : goal.returns
returns c = record { step = pick_is_its_step; command = pick_takes_a_command; full = full_journal_stays; node = pick_is_next }
