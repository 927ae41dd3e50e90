use Rattle.std.proofs.Common.{◌≡◌, true, ap, sym, ◌∙◌, arith}
use Rattle.def_fun.specs.Reading.{may_follow}
use Rattle.tn_fun.specs.Tokens.{operator_seen}
use Rattle.tn_fun.specs.States.{open_parts_seen}
use Rattle.tn_fun.proofs.Operands.{right_deep, right_opens}
use Rattle.tn_fun.proofs.follow.open_right.Goals as goal

pub returns-then-saturating_add : goal.returns-then-saturating_add
returns-then-saturating_add g c = λ text.
    let follows : true ≡ may_follow (operator_seen c.args.operator) (open_parts_seen text c.args.parts.items) = sym c.if-not-may_follow.false ∙ c.may_follow.ensures text ∙ ap (λ vs. may_follow (operator_seen c.args.operator) (open_parts_seen text vs)) c.deref.ensures.value in
    let size = c.args.parts.ok.0 in
    let depth = c.nesting_of.ensures text in
    right_deep text c.args.at c.args.operator c.args.operand c.args.parts.items follows (omega (arith, size, depth, c.len.ensures, c.saturating_add.ensures, c.if-saturating_add.true))

pub returns : goal.returns
returns g c = λ text.
    let follows : true ≡ may_follow (operator_seen c.args.operator) (open_parts_seen text c.args.parts.items) = sym c.if-not-may_follow.false ∙ c.may_follow.ensures text ∙ ap (λ vs. may_follow (operator_seen c.args.operator) (open_parts_seen text vs)) c.deref.ensures.value in
    let size = c.args.parts.ok.0 in
    let depth = c.nesting_of.ensures text in
    (right_opens text c.args.at c.args.operator c.args.operand c.args.parts.items c.push.new.self.items follows (omega (arith, size, depth, c.len.ensures, c.saturating_add.ensures, c.if-saturating_add.false)) c.in_ok-push.ensures.items, tt)
