use Rattle.def_fun_printing.proofs.HeadReads.{fun_is_a_specification}
use Rattle.def_fun_printing.proofs.laws.the_term_of_a_fun_is_a_specification.Goals as goal

pub returns : goal.returns
returns c = fun_is_a_specification
