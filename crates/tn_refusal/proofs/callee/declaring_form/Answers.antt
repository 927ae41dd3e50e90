use Rattle.std.proofs.Common.{◌∙◌, ◌+◌, [], length, map, take, Some, None, if◌then◌else◌, sym, ap, arith}
use Rattle.def_wording.specs.RuleTexts.{again_at}
use Rattle.tn_script.specs.Views.{form_of}
use Rattle.tn_refusal.specs.RuleViews.{callee_seen}
use Rattle.tn_refusal.proofs.Firsts.{found_here, found_later, found_nowhere, passed_count}
use Rattle.tn_refusal.proofs.callee.declaring_form.Goals as goal

pub returns-then-form_declares : goal.returns-then-form_declares
returns-then-form_declares g c =
    let xs = c.args.earlier.now in
    let i = c.loop-i.i in
    found_here (again_at (callee_seen c.args.callee.now)) form_of [] xs i c.index-earlier-i.result _ (omega arith) c.index-earlier-i.is
    (ap (λ b. if b then Some (length (map form_of (take i xs)) + 1) else None) (sym c.form_declares.ensures ∙ c.if-form_declares.true) ∙ ap (λ n. Some (n + 1)) (passed_count form_of xs i (omega arith))) c.loop-i.invariant

pub loop-i-preserved : goal.loop-i-preserved
loop-i-preserved g c =
    let xs = c.args.earlier.now in
    let i = c.loop-i.i in
    found_later (again_at (callee_seen c.args.callee.now)) form_of [] xs i c.index-earlier-i.result (omega arith) c.index-earlier-i.is
    (ap (λ b. if b then Some (length (map form_of (take i xs)) + 1) else None) (sym c.form_declares.ensures ∙ c.if-form_declares.false)) c.loop-i.invariant

pub returns : goal.returns
returns g c = found_nowhere (again_at (callee_seen c.args.callee.now)) form_of [] c.args.earlier.now c.loop-i.i (omega arith) c.loop-i.invariant
