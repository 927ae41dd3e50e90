use Rattle.std.proofs.Common.{rules}
use Rattle.tn_run.proofs.EndsLemmas.{taken_after}
use Rattle.tn_run.proofs.ends.read_text.Goals as goal

pub returns-then-is_err-clause-front : goal.returns-then-is_err-clause-front
returns-then-is_err-clause-front g c =
    taken_after _ _ _ c.loop-chunk.text.items c.read.new.buf c.in-Ok.n c.loop-chunk.invariant.consumed c.in-Ok.ensures.bytes.0 (search rules)
