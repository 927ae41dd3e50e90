use Rattle.std.proofs.Common.{◌-◌, true, take, drop, sym, subst}
use Rattle.def_fun.specs.Limits.{FUN_DEPTH}
use Rattle.def_fun.specs.Reading.{after_operand}
use Rattle.tn_fun.specs.Tokens.{fun_token_seen}
use Rattle.tn_fun.specs.Trees.{fun_expr_seen}
use Rattle.tn_fun.specs.States.{open_parts_seen, StepsExpr}
use Rattle.tn_fun.proofs.TokenKinds.{nothing_follows}
use Rattle.tn_fun.proofs.follow.follow.Goals as goal

pub returns-in-OpenParen : goal.returns-in-OpenParen
returns-in-OpenParen g c = λ text none.
    let v = c.args.token in
    subst (λ k. StepsExpr text c.open_call.result (after_operand c.args.pattern FUN_DEPTH true (fun_expr_seen text c.args.operand) (open_parts_seen text c.args.parts.items) v.from (fun_token_seen k (take (v.to - v.from) (drop v.from text)) (drop v.from text)))) (sym c.in-OpenParen.is) (c.open_call.ensures text c.args.token.from)

pub returns-in-CloseParen : goal.returns-in-CloseParen
returns-in-CloseParen g c = λ text none.
    let v = c.args.token in
    subst (λ k. StepsExpr text c.close_paren.result (after_operand c.args.pattern FUN_DEPTH true (fun_expr_seen text c.args.operand) (open_parts_seen text c.args.parts.items) v.from (fun_token_seen k (take (v.to - v.from) (drop v.from text)) (drop v.from text)))) (sym c.in-CloseParen.is) (c.close_paren.ensures text c.args.pattern c.args.token.from)

pub returns-in-CloseBracket : goal.returns-in-CloseBracket
returns-in-CloseBracket g c = λ text none.
    let v = c.args.token in
    subst (λ k. StepsExpr text c.close_bracket.result (after_operand c.args.pattern FUN_DEPTH true (fun_expr_seen text c.args.operand) (open_parts_seen text c.args.parts.items) v.from (fun_token_seen k (take (v.to - v.from) (drop v.from text)) (drop v.from text)))) (sym c.in-CloseBracket.is) (c.close_bracket.ensures text c.args.pattern c.args.token.from)

pub returns-in-CloseBrace : goal.returns-in-CloseBrace
returns-in-CloseBrace g c = λ text none.
    let v = c.args.token in
    subst (λ k. StepsExpr text c.close_brace.result (after_operand c.args.pattern FUN_DEPTH true (fun_expr_seen text c.args.operand) (open_parts_seen text c.args.parts.items) v.from (fun_token_seen k (take (v.to - v.from) (drop v.from text)) (drop v.from text)))) (sym c.in-CloseBrace.is) (c.close_brace.ensures text c.args.pattern c.args.token.from)

pub returns-in-Comma : goal.returns-in-Comma
returns-in-Comma g c = λ text none.
    let v = c.args.token in
    subst (λ k. StepsExpr text c.comma.result (after_operand c.args.pattern FUN_DEPTH true (fun_expr_seen text c.args.operand) (open_parts_seen text c.args.parts.items) v.from (fun_token_seen k (take (v.to - v.from) (drop v.from text)) (drop v.from text)))) (sym c.in-Comma.is) (c.comma.ensures text c.args.pattern c.args.token.from)

pub returns-in-Bar : goal.returns-in-Bar
returns-in-Bar g c = λ text none.
    let v = c.args.token in
    subst (λ k. StepsExpr text c.bar.result (after_operand c.args.pattern FUN_DEPTH true (fun_expr_seen text c.args.operand) (open_parts_seen text c.args.parts.items) v.from (fun_token_seen k (take (v.to - v.from) (drop v.from text)) (drop v.from text)))) (sym c.in-Bar.is) (c.bar.ensures text c.args.pattern c.args.token.from)

pub returns-in_default : goal.returns-in_default
returns-in_default g c = λ text none.
    let v = c.args.token in
    let d = c.in_default in
    nothing_follows c.args.pattern (fun_expr_seen text c.args.operand) (open_parts_seen text c.args.parts.items) v.from (take (v.to - v.from) (drop v.from text)) (drop v.from text) v.kind
    (λ o e. d.not-Operator o e) (λ e. d.not-OpenParen e) (λ e. d.not-CloseParen e) (λ e. d.not-CloseBracket e) (λ e. d.not-CloseBrace e) (λ e. d.not-Comma e) (λ e. d.not-Bar e) none
