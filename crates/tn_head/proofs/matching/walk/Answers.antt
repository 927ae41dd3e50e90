use Rattle.tn_head.proofs.Walk.{walked}
use Rattle.tn_head.proofs.matching.walk.Goals as goal

pub returns-then-branch : goal.returns-then-branch
returns-then-branch g c =
    walked c.args.head.now c.in-List.patterns c.args.list c.new-bound.result.items c.bind_each.new.bound.items c.in_ok-bind_each-in-List.field-0 c.in-List.is c.new-bound.ensures.items c.if-branch.true c.in_ok-bind_each-in-List.ensures
