use Rattle.std.proofs.Common.{◌≡◌, ◌++◌, drop}
use Rattle.def_machine.specs.Compilation.{all_registers}
use Rattle.tn_compile.specs.Views.{variables_seen}
use Rattle.tn_compile.proofs.emit_context.all_registers.Given as goal

abbrev pub invariant-loop-variable : goal.invariant-loop-variable
invariant-loop-variable g l = l.registers.items ++ all_registers (variables_seen (drop l.variable-index l.variables)) ≡ all_registers (variables_seen l.variables)
