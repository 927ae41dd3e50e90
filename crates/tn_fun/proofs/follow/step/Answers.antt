use Rattle.std.proofs.Common.{◌-◌, true, take, drop, map, sym, subst}
use Rattle.def_fun.specs.Limits.{FUN_DEPTH}
use Rattle.def_fun.specs.Trees.{strings}
use Rattle.def_fun.specs.Reading.{fun_expr_step, after_operand}
use Rattle.tn_fun.specs.Tokens.{span_seen, fun_token_seen}
use Rattle.tn_fun.specs.Trees.{fun_expr_seen, string_codes}
use Rattle.tn_fun.specs.States.{open_parts_seen, expr_state_seen, token_there, StepsExpr}
use Rattle.tn_fun.proofs.TokenKinds.{none_again, no_string_comes}
use Rattle.tn_fun.proofs.TreeViews.{seen_strings}
use Rattle.tn_fun.proofs.follow.step.Goals as goal

pub returns-in-Has : goal.returns-in-Has
returns-in-Has g c =
    let bytes = c.args.bytes.now in
    let counted = rw c.in-Has.is at c.requires.counted in
    subst (λ s. StepsExpr bytes c.follow.result (fun_expr_step c.args.pattern FUN_DEPTH true (expr_state_seen bytes s) (span_seen bytes c.args.token))) (sym c.in-Has.is)
    (c.follow.ensures bytes (none_again c.args.token.kind (fun_expr_seen bytes c.in-Has.operand) counted))

pub returns-in-Characters : goal.returns-in-Characters
returns-in-Characters g c =
    let bytes = c.args.bytes.now in
    let v = c.args.token in
    let h = c.in-HasStrings in
    let before = strings h.first.from (string_codes bytes h.first) (map (string_codes bytes) h.others.items) in
    subst (λ s. StepsExpr bytes c.string_after.result (fun_expr_step c.args.pattern FUN_DEPTH true (expr_state_seen bytes s) (span_seen bytes v))) (sym h.is)
    (subst (λ k. StepsExpr bytes c.string_after.result (after_operand c.args.pattern FUN_DEPTH true before (open_parts_seen bytes h.parts.items) v.from (fun_token_seen k (take (v.to - v.from) (drop v.from bytes)) (drop v.from bytes)))) (sym c.in-Characters.is)
    (c.string_after.ensures c.args.pattern v.from))

pub returns-in_default : goal.returns-in_default
returns-in_default g c =
    let bytes = c.args.bytes.now in
    let v = c.args.token in
    let h = c.in-HasStrings in
    let none = no_string_comes v.kind _ (λ e. c.in_default.not-Characters e) in
    subst (λ s. StepsExpr bytes c.follow-in_default.result (fun_expr_step c.args.pattern FUN_DEPTH true (expr_state_seen bytes s) (span_seen bytes v))) (sym h.is)
    (subst (λ x. StepsExpr bytes c.follow-in_default.result (after_operand c.args.pattern FUN_DEPTH true x (open_parts_seen bytes h.parts.items) v.from (token_there bytes v))) (seen_strings bytes h.first h.others)
    (c.follow-in_default.ensures bytes none))
