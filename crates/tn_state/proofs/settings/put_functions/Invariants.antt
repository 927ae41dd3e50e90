use Rattle.std.proofs.Common.{◌≡◌, ◌++◌, drop}
use Rattle.def_script.specs.Exports.{visible}
use Rattle.def_state.specs.SessionTexts.{function_texts}
use Rattle.tn_script.specs.Views.{functions_of}
use Rattle.tn_state.specs.Commands.{own_commands}
use Rattle.tn_state.proofs.settings.put_functions.Given as goal

abbrev pub invariant-loop-function : goal.invariant-loop-function
invariant-loop-function g l =
    l.out.items ++ function_texts (own_commands l.name l.commands) (visible (functions_of (drop l.function-index l.functions))) ≡ l.fn.out.items ++ function_texts (own_commands l.name l.commands) (visible (functions_of l.functions))
