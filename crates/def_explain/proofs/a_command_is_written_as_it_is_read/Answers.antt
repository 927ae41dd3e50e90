use Rattle.def_explain.proofs.CommandTerms.{command_term_is_read}
use Rattle.def_explain.proofs.a_command_is_written_as_it_is_read.Goals as goal

pub returns : goal.returns
returns c = command_term_is_read
