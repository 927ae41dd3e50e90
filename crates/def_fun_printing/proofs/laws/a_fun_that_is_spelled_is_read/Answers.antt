use Rattle.def_fun_printing.proofs.FunReads.{derived_is_read, derived_is_one}
use Rattle.def_fun_printing.proofs.laws.a_fun_that_is_spelled_is_read.Goals as goal

pub returns : goal.returns
returns c = record { read = derived_is_read; one = derived_is_one }
