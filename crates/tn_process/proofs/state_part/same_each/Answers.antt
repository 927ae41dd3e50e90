use Rattle.std.proofs.Common.{sym, arith, rules, subst, IsTrue}
use Rattle.tn_script.proofs.Equal.{equal_here, equal_next}
use Rattle.tn_process.proofs.state_part.same_each.Goals as goal

pub returns-then-not-same : goal.returns-then-not-same
returns-then-not-same g c = (
  λ no. absurd (search rules),
  λ all. subst IsTrue c.if-not-same.true (c.same.ensures.1 (equal_here g.P.StatePart.seen c.args.one.now c.args.other.now c.loop-i.i c.index-one-i.result c.index-other-i.result (omega (arith, c.loop-i-test.true, c.loop-i.invariant.lengths)) (omega (arith, c.loop-i-test.true, c.loop-i.invariant.lengths)) c.index-one-i.is c.index-other-i.is c.loop-i.invariant.rest all)),
)

pub loop-i-preserved : goal.loop-i-preserved
loop-i-preserved g c = record {
  lengths = c.loop-i.invariant.lengths;
  rest = equal_next g.P.StatePart.seen c.args.one.now c.args.other.now c.loop-i.i c.index-one-i.result c.index-other-i.result (omega (arith, c.loop-i-test.true, c.loop-i.invariant.lengths)) (omega (arith, c.loop-i-test.true, c.loop-i.invariant.lengths)) c.index-one-i.is c.index-other-i.is (c.same.ensures.0 (subst IsTrue (sym c.if-not-same.false) (search rules))) c.loop-i.invariant.rest;
}
