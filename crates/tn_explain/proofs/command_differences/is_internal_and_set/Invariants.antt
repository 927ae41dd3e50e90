use Rattle.std.proofs.Common.{◌≡◌}
use Rattle.tn_explain.specs.CommandDifferences.{internal_and_set_from}
use Rattle.tn_explain.proofs.command_differences.is_internal_and_set.Given as goal

abbrev pub invariant-loop-function : goal.invariant-loop-function
invariant-loop-function g l = internal_and_set_from l.look l.covered l.functions l.function-index ≡ internal_and_set_from l.look l.covered l.functions 0
