use Rattle.std.proofs.Common.{◌≡◌, map, take}
use Rattle.tn_script.specs.Views.{functions_of}
use Rattle.tn_session.specs.Views.{function_seen}
use Rattle.def_script.specs.Exports.{visible}
use Rattle.tn_trace.proofs.functions.visible_functions.Given as goal

abbrev pub invariant-loop-function : goal.invariant-loop-function
invariant-loop-function g l = map function_seen l.seen.items ≡ visible (functions_of (take l.function-index l.functions))
