use Rattle.std.proofs.Common.{◌≡◌, take}
use Rattle.tn_code.proofs.copies.copy_registers.Given as goal

abbrev pub invariant-loop-register : goal.invariant-loop-register
invariant-loop-register g l = l.copies.items ≡ take l.register-index l.registers
