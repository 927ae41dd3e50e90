use Rattle.std.proofs.Common.{◌≡◌}
use Rattle.tn_explain.specs.CommandDifferences.{set_otherwise_from}
use Rattle.tn_explain.proofs.command_differences.is_set_otherwise.Given as goal

abbrev pub invariant-loop-function : goal.invariant-loop-function
invariant-loop-function g l = set_otherwise_from l.look l.covered l.local l.functions l.function-index ≡ set_otherwise_from l.look l.covered l.local l.functions 0
