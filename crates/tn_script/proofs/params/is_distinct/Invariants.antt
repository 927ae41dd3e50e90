use Rattle.std.proofs.Common.{◌≡◌, drop}
use Rattle.def_script.specs.Shapes.{are_distinct}
use Rattle.tn_script.proofs.params.is_distinct.Given as goal

abbrev pub invariant-loop-i : goal.invariant-loop-i
invariant-loop-i g l = are_distinct l.fn.atoms ≡ are_distinct (drop l.i l.fn.atoms)
