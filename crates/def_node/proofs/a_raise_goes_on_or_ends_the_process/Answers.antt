use Rattle.def_node.proofs.Raises.{raise_is_caught_or_not, caught_raise_goes_on, uncaught_error_ends, uncaught_exit_ends, uncaught_throw_is_an_error}
use Rattle.def_node.proofs.a_raise_goes_on_or_ends_the_process.Goals as goal

pub returns : goal.returns
returns c = record { either = raise_is_caught_or_not; caught = caught_raise_goes_on; error = uncaught_error_ends; exit = uncaught_exit_ends; throw = uncaught_throw_is_an_error }
