use Rattle.def_trap.proofs.IdleBodies.{body_traps_do_nothing}
use Rattle.def_trap.proofs.laws.a_body_trap_does_nothing.Goals as goal

pub returns : goal.returns
returns c = body_traps_do_nothing
