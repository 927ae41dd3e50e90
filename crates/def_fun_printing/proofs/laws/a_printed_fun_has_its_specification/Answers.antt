use Rattle.def_fun_printing.proofs.FunsBack.{printed_is_a_fun, texts_are_short}
use Rattle.def_fun_printing.proofs.laws.a_printed_fun_has_its_specification.Goals as goal

pub returns : goal.returns
returns c = record { printed = printed_is_a_fun; short = texts_are_short }
