use Rattle.std.proofs.Common.{arith}
use Rattle.tn_code.proofs.Tests.{sets-more}
use Rattle.tn_code.proofs.code.greatest_set.Goals as goal

pub loop-instr-preserved : goal.loop-instr-preserved
loop-instr-preserved g c =
    sets-more c.args.items.now c.loop-instr.instr-index c.instr-item.result c.loop-instr.greatest c.register_set.result c.larger-greatest.result
    (omega (arith, c.loop-instr-test.true)) c.instr-item.is c.larger-greatest.ensures.one c.larger-greatest.ensures.other c.loop-instr.invariant c.register_set.ensures
