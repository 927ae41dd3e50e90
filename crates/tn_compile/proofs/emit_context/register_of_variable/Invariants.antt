use Rattle.std.proofs.Common.{◌≡◌, drop, nat_cmp}
use Rattle.std.specs.FinMap.{find}
use Rattle.tn_compile.specs.Views.{variables_seen}
use Rattle.tn_compile.proofs.emit_context.register_of_variable.Given as goal

abbrev pub invariant-loop-variable : goal.invariant-loop-variable
invariant-loop-variable l = find nat_cmp l.number (variables_seen (drop l.variable-index l.variables)) ≡ find nat_cmp l.number (variables_seen l.variables)
