use Rattle.std.proofs.Common.{◌≡◌, ◌-◌, ◌&&◌, not, take, drop, true, false, is_some, ap, sym, ◌∙◌, subst}
use Rattle.std.proofs.lemmas.Result.{err_from_is_err_and}
use Rattle.def_fun.specs.Reading.{begins_head, ended_expr, in_head, on_step, fun_expr_step}
use Rattle.tn_fun.specs.Tokens.{span_seen}
use Rattle.tn_fun.specs.Trees.{fun_expr_seen}
use Rattle.tn_fun.specs.States.{expr_state_seen, token_there, IsStepErrorOf}
use Rattle.tn_fun.specs.Clauses.{fun_clauses_seen, first_seen}
use Rattle.tn_fun.specs.FunStates.{is_expr_start, ends_head, StepsFun}
use Rattle.tn_fun.proofs.FunSteps.{error_within, within_head, starts_wrong, head_goes_on, head_ends_with, must_end, ends_by_token}
use Rattle.tn_fun.proofs.head_step.head_step.Goals as goal

pub returns-then-is_wrong_start : goal.returns-then-is_wrong_start
returns-then-is_wrong_start g c =
    let bytes = c.args.bytes.now in
    let v = c.args.token in
    let h = c.args.head in
    let x = span_seen bytes v in
    starts_wrong (fun_clauses_seen bytes h.earlier.clauses.items) h.at (first_seen bytes h.first) x (expr_state_seen bytes c.args.state)
    (sym (c.is_wrong_start.ensures bytes (take (v.to - v.from) (drop v.from bytes)) (drop v.from bytes)) ∙ c.if-is_wrong_start.true)

pub returns-in_err-state : goal.returns-in_err-state
returns-in_err-state g c =
    let bytes = c.args.bytes.now in
    let v = c.args.token in
    let u = take (v.to - v.from) (drop v.from bytes) in
    let more = drop v.from bytes in
    let h = c.args.head in
    let ks = fun_clauses_seen bytes h.earlier.clauses.items in
    let a = first_seen bytes h.first in
    let s = expr_state_seen bytes c.args.state in
    let x = span_seen bytes v in
    let starts : (is_expr_start s && not (begins_head a x.token)) ≡ false = sym (c.is_wrong_start.ensures bytes u more) ∙ c.if-is_wrong_start.false in
    let goes : (ends_head a x.token && is_some (ended_expr s)) ≡ false = sym (c.is_part_end.ensures bytes u more) ∙ c.if-not-is_part_end.true in
    let p = err_from_is_err_and c.from_residual.result c.from_residual.ensures.1 in
    let e = c.in_err-state.field-0.0 in
    rw (p.1, p.2) (subst (IsStepErrorOf e) (sym (head_goes_on ks h.at a x s starts goes)) (error_within e (in_head ks h.at a) (fun_expr_step true 64 true s x) c.in_err-state.ensures))

pub returns-then-not-is_part_end : goal.returns-then-not-is_part_end
returns-then-not-is_part_end g c =
    let bytes = c.args.bytes.now in
    let v = c.args.token in
    let u = take (v.to - v.from) (drop v.from bytes) in
    let more = drop v.from bytes in
    let h = c.args.head in
    let ks = fun_clauses_seen bytes h.earlier.clauses.items in
    let a = first_seen bytes h.first in
    let s = expr_state_seen bytes c.args.state in
    let x = span_seen bytes v in
    let starts : (is_expr_start s && not (begins_head a x.token)) ≡ false = sym (c.is_wrong_start.ensures bytes u more) ∙ c.if-is_wrong_start.false in
    let goes : (ends_head a x.token && is_some (ended_expr s)) ≡ false = sym (c.is_part_end.ensures bytes u more) ∙ c.if-not-is_part_end.true in
    let further = c.in_ok-state.ensures in
    (head_goes_on ks h.at a x s starts goes ∙ ap (on_step (in_head ks h.at a)) further.0, (c.requires.clauses, further.1))

pub returns-in-Some : goal.returns-in-Some
returns-in-Some g c =
    let bytes = c.args.bytes.now in
    let v = c.args.token in
    let u = take (v.to - v.from) (drop v.from bytes) in
    let more = drop v.from bytes in
    let h = c.args.head in
    let ks = fun_clauses_seen bytes h.earlier.clauses.items in
    let a = first_seen bytes h.first in
    let s = expr_state_seen bytes c.args.state in
    let x = span_seen bytes v in
    let starts : (is_expr_start s && not (begins_head a x.token)) ≡ false = sym (c.is_wrong_start.ensures bytes u more) ∙ c.if-is_wrong_start.false in
    let there : (ends_head a x.token && is_some (ended_expr s)) ≡ true = sym (c.is_part_end.ensures bytes u more) ∙ c.if-not-is_part_end.false in
    let ends = head_ends_with ks h.at a x s (fun_expr_seen bytes c.in-Some.part) starts (rw c.in-Some.is at (c.in_ok-last.ensures bytes)) in
    subst (StepsFun bytes c.after_part.result) (sym ends)
    (c.after_part.ensures bytes u more (within_head ks h.at a x s) (ends_by_token (ends_head a x.token) (is_some (ended_expr s)) there) c.requires.clauses)

pub returns-in-None : goal.returns-in-None
returns-in-None g c =
    let bytes = c.args.bytes.now in
    let v = c.args.token in
    let s = expr_state_seen bytes c.args.state in
    let a = first_seen bytes c.args.head.first in
    let there : (ends_head a (token_there bytes v) && is_some (ended_expr s)) ≡ true = sym (c.is_part_end.ensures bytes (take (v.to - v.from) (drop v.from bytes)) (drop v.from bytes)) ∙ c.if-not-is_part_end.false in
    absurd (must_end (ends_head a (token_there bytes v)) (ended_expr s) there (rw c.in-None.is at (c.in_ok-last.ensures bytes)))
