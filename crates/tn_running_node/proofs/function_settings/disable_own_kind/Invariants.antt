use Rattle.tn_running_node.specs.Replies.{own_kind_from}
use Rattle.tn_running_node.proofs.FunctionDisables.{Reaches}
use Rattle.tn_running_node.proofs.function_settings.disable_own_kind.Given as goal

abbrev pub invariant-loop-function : goal.invariant-loop-function
invariant-loop-function g l = Reaches l.initial.session l.session (own_kind_from l.covered l.local l.functions 0) (own_kind_from l.covered l.local l.functions l.function-index)
