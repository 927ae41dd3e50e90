use Rattle.tn_text.specs.Writes.{Grows}
use Rattle.tn_code.proofs.text.put_code.Given as goal

abbrev pub invariant-loop-place : goal.invariant-loop-place
invariant-loop-place g l = Grows l.fn.out.items l.out.items
