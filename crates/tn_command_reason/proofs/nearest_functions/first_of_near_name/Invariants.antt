use Rattle.std.proofs.Common.{◌≡◌, drop}
use Rattle.def_explain.specs.NearestFunctions.{has_near_name, first_function}
use Rattle.tn_command_reason.specs.NearestFunctions.{functions_seen}
use Rattle.tn_command_reason.proofs.nearest_functions.first_of_near_name.Given as goal

abbrev pub invariant-loop-i : goal.invariant-loop-i
invariant-loop-i g l = first_function (has_near_name l.module l.name) (functions_seen (drop l.i l.functions)) ≡ first_function (has_near_name l.module l.name) (functions_seen l.functions)
