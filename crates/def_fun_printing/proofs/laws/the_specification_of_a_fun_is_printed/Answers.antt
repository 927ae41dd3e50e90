use Rattle.def_fun_printing.proofs.PrintedFuns.{fun_is_printed, text_is_printed}
use Rattle.def_fun_printing.proofs.laws.the_specification_of_a_fun_is_printed.Goals as goal

pub returns : goal.returns
returns c = record { funs = fun_is_printed; texts = text_is_printed }
