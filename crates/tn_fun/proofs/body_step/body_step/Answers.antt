use Rattle.std.proofs.Common.{◌≡◌, ◌-◌, ◌&&◌, take, drop, true, false, is_some, ap, sym, ◌∙◌, subst}
use Rattle.std.proofs.lemmas.Result.{err_from_is_err_and}
use Rattle.def_fun.specs.Reading.{ended_expr, in_fun_body, body_after, on_step, fun_expr_step}
use Rattle.tn_fun.specs.Tokens.{span_seen}
use Rattle.tn_fun.specs.Trees.{fun_expr_seen, fun_row_seen}
use Rattle.tn_fun.specs.States.{expr_state_seen, token_there, IsStepErrorOf}
use Rattle.tn_fun.specs.FunStates.{clause_so_far_seen, ends_body_expr, StepsFun}
use Rattle.tn_fun.proofs.Follows.{row_push}
use Rattle.tn_fun.proofs.FunSteps.{error_within, within_body, body_goes_on, body_ends, must_end, ends_by_token}
use Rattle.tn_fun.proofs.body_step.body_step.Goals as goal

pub returns-in_err-state : goal.returns-in_err-state
returns-in_err-state g c =
    let bytes = c.args.bytes.now in
    let v = c.args.token in
    let k = clause_so_far_seen bytes c.args.clause in
    let es = fun_row_seen bytes c.args.body.items in
    let s = expr_state_seen bytes c.args.state in
    let x = span_seen bytes v in
    let goes : (ends_body_expr x.token && is_some (ended_expr s)) ≡ false = sym (c.is_body_expr_end.ensures bytes (take (v.to - v.from) (drop v.from bytes)) (drop v.from bytes)) ∙ c.if-not-is_body_expr_end.true in
    let p = err_from_is_err_and c.from_residual.result c.from_residual.ensures.1 in
    let e = c.in_err-state.field-0.0 in
    rw (p.1, p.2) (subst (IsStepErrorOf e) (sym (body_goes_on k es s x goes)) (error_within e (in_fun_body k es) (fun_expr_step false 64 true s x) c.in_err-state.ensures))

pub returns-then-not-is_body_expr_end : goal.returns-then-not-is_body_expr_end
returns-then-not-is_body_expr_end g c =
    let bytes = c.args.bytes.now in
    let v = c.args.token in
    let k = clause_so_far_seen bytes c.args.clause in
    let es = fun_row_seen bytes c.args.body.items in
    let s = expr_state_seen bytes c.args.state in
    let x = span_seen bytes v in
    let goes : (ends_body_expr x.token && is_some (ended_expr s)) ≡ false = sym (c.is_body_expr_end.ensures bytes (take (v.to - v.from) (drop v.from bytes)) (drop v.from bytes)) ∙ c.if-not-is_body_expr_end.true in
    let further = c.in_ok-state.ensures in
    (body_goes_on k es s x goes ∙ ap (on_step (in_fun_body k es)) further.0, (c.requires.clauses, further.1))

pub returns-in_ok-push-in-Some : goal.returns-in_ok-push-in-Some
returns-in_ok-push-in-Some g c =
    let bytes = c.args.bytes.now in
    let v = c.args.token in
    let u = take (v.to - v.from) (drop v.from bytes) in
    let more = drop v.from bytes in
    let k = clause_so_far_seen bytes c.args.clause in
    let es = fun_row_seen bytes c.args.body.items in
    let s = expr_state_seen bytes c.args.state in
    let x = span_seen bytes v in
    let there : (ends_body_expr x.token && is_some (ended_expr s)) ≡ true = sym (c.is_body_expr_end.ensures bytes u more) ∙ c.if-not-is_body_expr_end.false in
    let expr = c.in-Some.expr in
    let ends = body_ends k es s x (fun_expr_seen bytes expr) (rw c.in-Some.is at (c.in_ok-last.ensures bytes)) in
    let grown = row_push bytes c.push.new.self.items c.args.body.items expr c.in_ok-push-in-Some.ensures.items in
    subst (StepsFun bytes c.after_body_expr.result) (sym (ends ∙ ap (λ rs. body_after 64 true k rs x.token (within_body k es s x)) (sym grown)))
    (c.after_body_expr.ensures bytes u more (within_body k es s x) (ends_by_token (ends_body_expr x.token) (is_some (ended_expr s)) there) c.requires.clauses)

pub returns-in-None : goal.returns-in-None
returns-in-None g c =
    let bytes = c.args.bytes.now in
    let v = c.args.token in
    let s = expr_state_seen bytes c.args.state in
    let there : (ends_body_expr (token_there bytes v) && is_some (ended_expr s)) ≡ true = sym (c.is_body_expr_end.ensures bytes (take (v.to - v.from) (drop v.from bytes)) (drop v.from bytes)) ∙ c.if-not-is_body_expr_end.false in
    absurd (must_end (ends_body_expr (token_there bytes v)) (ended_expr s) there (rw c.in-None.is at (c.in_ok-last.ensures bytes)))
