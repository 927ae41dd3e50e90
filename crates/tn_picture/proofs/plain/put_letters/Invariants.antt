use Rattle.std.proofs.Common.{◌≡◌, ◌++◌, replicate}
use Rattle.tn_picture.proofs.plain.put_letters.Given as goal

abbrev pub invariant-loop : goal.invariant-loop
invariant-loop g l = l.out.items ≡ l.fn.out.items ++ replicate l.counter l.letter
