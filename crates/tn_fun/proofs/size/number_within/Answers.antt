use Rattle.std.proofs.Common.{arith}
use Rattle.tn_fun.proofs.SizeSteps.{past_digit}
use Rattle.tn_fun.proofs.size.number_within.Goals as goal

pub returns-then-value-most : goal.returns-then-value-most
returns-then-value-most c =
    let more = c.if-value-most.true in
    let d = c.saturating_sub.ensures in
    let wide = c.from.ensures in
    let limit = c.from-most.ensures in
    past_digit c.args.greatest c.loop-d.value c.loop-d.d-index c.args.digits.now c.loop-d-test.true c.loop-d.invariant.same (omega (arith, more, d, wide, limit))
