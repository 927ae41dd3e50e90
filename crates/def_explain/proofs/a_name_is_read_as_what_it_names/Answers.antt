use Rattle.def_explain.proofs.Names.{function_name_is_read, action_name_is_read}
use Rattle.def_explain.proofs.a_name_is_read_as_what_it_names.Goals as goal

pub returns : goal.returns
returns c = record { functions = function_name_is_read; actions = action_name_is_read }
