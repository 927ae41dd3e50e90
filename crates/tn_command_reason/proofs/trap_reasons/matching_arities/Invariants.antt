use Rattle.std.proofs.Common.{◌≡◌, ◌++◌}
use Rattle.def_explain.specs.CommandReasons.{any_setting}
use Rattle.tn_index.specs.Views.{function_pattern_seen}
use Rattle.tn_command_reason.specs.FunctionTraps.{arities_from}
use Rattle.tn_command_reason.proofs.trap_reasons.matching_arities.Given as goal

-- those so far, and those that are left
abbrev pub invariant-loop-function : goal.invariant-loop-function
invariant-loop-function g l =
    let k = any_setting (function_pattern_seen l.covered) l.local in
    l.arities.items ++ arities_from k l.functions l.function-index ≡ arities_from k l.functions 0
