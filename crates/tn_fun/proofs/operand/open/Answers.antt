use Rattle.std.proofs.Common.{◌≡◌, arith, true}
use Rattle.tn_fun.proofs.PartViews.{part_opens, too_many_parts}
use Rattle.tn_fun.proofs.operand.open.Goals as goal

pub returns-then-len-ge-MAX_NESTING : goal.returns-then-len-ge-MAX_NESTING
returns-then-len-ge-MAX_NESTING g c = λ text.
    let size = c.args.parts.ok.0 in
    let placed : c.args.placed ≡ true = c.if-not-placed.false in
    too_many_parts text c.args.part c.args.parts.items c.args.placed placed (omega (arith, size))

pub returns : goal.returns
returns g c = λ text.
    let size = c.args.parts.ok.0 in
    let placed : c.args.placed ≡ true = c.if-not-placed.false in
    (part_opens text c.args.part c.args.parts.items c.push.new.self.items c.args.placed placed (omega (arith, size)) c.in_ok-push.ensures.items, tt)
