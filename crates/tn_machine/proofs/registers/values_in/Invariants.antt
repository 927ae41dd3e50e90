use Rattle.std.proofs.Common.{◌≡◌, drop, map}
use Rattle.def_machine.specs.Machine.{terms_in}
use Rattle.tn_guard.specs.Views.{value_seen}
use Rattle.tn_machine.specs.Views.{registers_seen}
use Rattle.tn_machine.proofs.Moves.{ahead}
use Rattle.tn_machine.proofs.registers.values_in.Given as goal

abbrev pub invariant-loop-register : goal.invariant-loop-register
invariant-loop-register g l = ahead (map value_seen l.values.items) (terms_in (registers_seen l.registers) (drop l.register-index l.from)) ≡ terms_in (registers_seen l.registers) l.from
