use Rattle.tn_text.specs.Writes.{Grows}
use Rattle.tn_code.proofs.text.put_registers.Given as goal

abbrev pub invariant-loop-register : goal.invariant-loop-register
invariant-loop-register g l = Grows l.fn.out.items l.out.items
