use Rattle.std.proofs.Common.{◌≡◌, drop}
use Rattle.def_explain.specs.NodeCommands.{one_calls_logic}
use Rattle.tn_spec.specs.Views.{exprs_seen}
use Rattle.tn_running_node.proofs.logic_calls.+logic.Given as goal

abbrev pub invariant-one_calls_logic-loop-i : goal.invariant-one_calls_logic-loop-i
invariant-one_calls_logic-loop-i g l = one_calls_logic (exprs_seen (drop l.i l.exprs.items)) ≡ one_calls_logic (exprs_seen l.exprs.items)
