use Rattle.tn_running_node.specs.Replies.{internal_from}
use Rattle.tn_running_node.proofs.FunctionDisables.{Reaches}
use Rattle.tn_running_node.proofs.function_settings.disable_internal.Given as goal

abbrev pub invariant-loop-function : goal.invariant-loop-function
invariant-loop-function g l = Reaches l.initial.session l.session (internal_from l.covered l.functions 0) (internal_from l.covered l.functions l.function-index)
