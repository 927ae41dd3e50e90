use Rattle.def_trap.proofs.IdleHeads.{head_traps_do_nothing}
use Rattle.def_trap.proofs.laws.a_head_trap_does_nothing.Goals as goal

pub returns : goal.returns
returns c = head_traps_do_nothing
