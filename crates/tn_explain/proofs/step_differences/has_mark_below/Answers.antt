use Rattle.std.proofs.Common.{◌≡◌, ◌∙◌, ◌+◌, ◌-◌, suc, sym, ap, arith}
use Rattle.def_explain.specs.Differences.{has_mark_below}
use Rattle.tn_session.specs.Looks.{look_seen}
use Rattle.tn_explain.proofs.DifferenceLines.{mark_here, mark_not_here, no_mark_below}
use Rattle.tn_explain.proofs.step_differences.has_mark_below.Goals as goal

pub returns-then-is_for_exceptions : goal.returns-then-is_for_exceptions
returns-then-is_for_exceptions g c =
    let s = look_seen c.args.look.now in
    let depths = c.args.depths in
    let above = c.loop-above.above in
    let is : depths - above ≡ suc (depths - 1 - above) = omega (arith, c.loop-above-test.true) in
    mark_here s c.args.pid (depths - above) (depths - 1 - above) is (sym c.is_for_exceptions.ensures ∙ c.if-is_for_exceptions.true) ∙ c.loop-above.invariant

pub loop-above-preserved : goal.loop-above-preserved
loop-above-preserved g c =
    let s = look_seen c.args.look.now in
    let depths = c.args.depths in
    let above = c.loop-above.above in
    let is : depths - above ≡ suc (depths - 1 - above) = omega (arith, c.loop-above-test.true) in
    let same : depths - (above + 1) ≡ depths - 1 - above = omega (arith, c.loop-above-test.true) in
    ap (has_mark_below s c.args.pid) same ∙ mark_not_here s c.args.pid (depths - above) (depths - 1 - above) is (sym c.is_for_exceptions.ensures ∙ c.if-is_for_exceptions.false) ∙ c.loop-above.invariant

pub returns : goal.returns
returns g c =
    let none : c.args.depths - c.loop-above.above ≡ 0 = omega (arith, c.loop-above-test.false) in
    no_mark_below (look_seen c.args.look.now) c.args.pid (c.args.depths - c.loop-above.above) none ∙ c.loop-above.invariant
