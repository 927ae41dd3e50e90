use Rattle.std.proofs.Common.{◌≡◌, ◌+◌, ◌++◌, drop}
use Rattle.def_machine.specs.Compilation.{registers_of}
use Rattle.tn_spec.specs.Views.{exprs_seen}
use Rattle.tn_compile.specs.Views.{variables_seen}
use Rattle.tn_compile.proofs.exprs.registers_of.Given as goal

abbrev pub invariant-loop-i : goal.invariant-loop-i
invariant-loop-i g l =
    l.registers.items ++ registers_of (variables_seen l.variables) (exprs_seen (drop l.i l.exprs)) (l.free + l.i) ≡ registers_of (variables_seen l.variables) (exprs_seen l.exprs) l.free
