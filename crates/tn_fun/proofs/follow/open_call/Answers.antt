use Rattle.std.proofs.Common.{◌∷◌, not, length, nat_lt, true, ap, sym, ◌∙◌, subst}
use Rattle.def_fun.specs.Limits.{FUN_DEPTH}
use Rattle.def_fun.specs.Reading.{wants, in_open_call, if_placed}
use Rattle.tn_fun.specs.Trees.{fun_expr_seen, fun_row_seen, token_name}
use Rattle.tn_fun.specs.States.{open_parts_seen, StepsExpr}
use Rattle.tn_fun.proofs.Operands.{call_there, no_call_there}
use Rattle.tn_fun.proofs.follow.open_call.Goals as goal

pub returns-in-Some : goal.returns-in-Some
returns-in-Some g c = λ text at.
    let fs = open_parts_seen text c.args.parts.items in
    let v = c.in-Some.name in
    let there = call_there c.args.pattern fs (fun_expr_seen text c.args.operand) v.from (token_name text v) (c.in-Some.ensures text) in
    let none = ap (λ xs. if_placed (not c.args.pattern) (nat_lt (length fs) FUN_DEPTH) true (wants (in_open_call v.from (token_name text v) (fun_row_seen text xs) ∷ fs))) c.new.ensures.items in
    subst (StepsExpr text c.open.result) (none ∙ sym there) (c.open.ensures text)

pub returns : goal.returns
returns g c = λ text at. no_call_there c.args.pattern (open_parts_seen text c.args.parts.items) (fun_expr_seen text c.args.operand) (c.in-None.ensures text)
