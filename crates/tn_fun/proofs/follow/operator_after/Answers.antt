use Rattle.std.proofs.Common.{◌+◌, ◌∷◌, length, nat_lt, ap, sym, ◌∙◌, subst}
use Rattle.std.proofs.lemmas.Result.{err_from_is_err_and}
use Rattle.def_fun.specs.Limits.{FUN_DEPTH}
use Rattle.def_fun.specs.Operators.{operator_binding, left_level, is_infix}
use Rattle.def_fun.specs.Trees.{nesting_depth}
use Rattle.def_fun.specs.Reading.{gather, may_follow, wants, after_left}
use Rattle.tn_fun.specs.Tokens.{operator_seen}
use Rattle.tn_fun.specs.Trees.{fun_expr_seen}
use Rattle.tn_fun.specs.States.{open_parts_seen, opens_right, StepsExpr}
use Rattle.tn_fun.proofs.Operands.{not_between, between_goes}
use Rattle.tn_fun.proofs.follow.operator_after.Goals as goal

pub returns-then-not-may_be_between : goal.returns-then-not-may_be_between
returns-then-not-may_be_between g c = λ text.
    let o = operator_seen c.args.operator in
    let q = gather (left_level (operator_binding o)) (fun_expr_seen text c.args.operand) (open_parts_seen text c.args.parts.items) in
    not_between c.args.pattern (is_infix o) (may_follow o q.1) (nat_lt (length q.1 + nesting_depth q.0) FUN_DEPTH) (wants (after_left c.args.at o q.0 ∷ q.1)) (sym c.may_be_between.ensures ∙ c.if-not-may_be_between.true)

pub returns-in_err-operand : goal.returns-in_err-operand
returns-in_err-operand g c = λ text.
    let p = err_from_is_err_and c.from_residual.result c.from_residual.ensures.1 in
    rw (p.1, p.2) tt

pub returns : goal.returns
returns g c = λ text.
    let o = operator_seen c.args.operator in
    let e = fun_expr_seen text c.args.operand in
    let fs = open_parts_seen text c.args.parts.items in
    let gathered = ap (λ n. gather n e fs) (sym c.left_level.ensures) ∙ c.in_ok-operand.ensures text in
    let there = between_goes _ _ _ _ _ (sym c.may_be_between.ensures ∙ c.if-not-may_be_between.false) in
    subst (StepsExpr text c.open_right.result) (sym (there ∙ ap (λ q. opens_right c.args.at o q.0 q.1) gathered)) (c.open_right.ensures text)
