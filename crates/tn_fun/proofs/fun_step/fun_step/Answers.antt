use Rattle.std.proofs.Common.{◌-◌, take, drop, true, sym, subst}
use Rattle.def_fun.specs.Limits.{FUN_DEPTH}
use Rattle.def_fun.specs.Reading.{fun_step}
use Rattle.tn_fun.specs.Tokens.{span_seen}
use Rattle.tn_fun.specs.FunStates.{fun_state_seen, StepsFun}
use Rattle.tn_fun.proofs.fun_step.fun_step.Goals as goal

pub returns-in-BeforeClause : goal.returns-in-BeforeClause
returns-in-BeforeClause g c =
    let bytes = c.args.bytes.now in
    let v = c.args.token in
    subst (λ s. StepsFun bytes c.begin_clause.result (fun_step FUN_DEPTH true (fun_state_seen bytes s) (span_seen bytes v))) (sym c.in-BeforeClause.is)
    (c.begin_clause.ensures bytes (take (v.to - v.from) (drop v.from bytes)) (drop v.from bytes) (rw c.in-BeforeClause.is at c.requires.counted))

pub returns-in-AfterHead : goal.returns-in-AfterHead
returns-in-AfterHead g c =
    let bytes = c.args.bytes.now in
    let v = c.args.token in
    subst (λ s. StepsFun bytes c.begin_guard.result (fun_step FUN_DEPTH true (fun_state_seen bytes s) (span_seen bytes v))) (sym c.in-AfterHead.is)
    (c.begin_guard.ensures bytes (take (v.to - v.from) (drop v.from bytes)) (drop v.from bytes) (rw c.in-AfterHead.is at c.requires.counted))

pub returns-in-AfterEnd : goal.returns-in-AfterEnd
returns-in-AfterEnd g c =
    let bytes = c.args.bytes.now in
    let v = c.args.token in
    subst (λ s. StepsFun bytes c.stop_fun.result (fun_step FUN_DEPTH true (fun_state_seen bytes s) (span_seen bytes v))) (sym c.in-AfterEnd.is)
    (c.stop_fun.ensures bytes (take (v.to - v.from) (drop v.from bytes)) (drop v.from bytes))
