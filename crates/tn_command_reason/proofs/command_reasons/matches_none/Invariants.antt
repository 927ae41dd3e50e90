use Rattle.std.proofs.Common.{◌≡◌}
use Rattle.def_explain.specs.CommandReasons.{any_setting}
use Rattle.tn_index.specs.Views.{function_pattern_seen}
use Rattle.tn_running_node.specs.Replies.{matches_from}
use Rattle.tn_command_reason.proofs.command_reasons.matches_none.Given as goal

abbrev pub invariant-loop-function : goal.invariant-loop-function
invariant-loop-function g l =
    let k = any_setting (function_pattern_seen l.covered) l.local in
    matches_from k l.functions l.function-index ≡ matches_from k l.functions 0
