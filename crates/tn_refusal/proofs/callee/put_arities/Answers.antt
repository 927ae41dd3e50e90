use Rattle.std.proofs.Common.{◌∙◌, ◌+◌, ◌++◌, codes, map, drop, append-nil, ap, sym}
use Rattle.std.proofs.lemmas.List.{drop_all}
use Rattle.def_wording.specs.RuleTexts.{declared_arities, numbers_after}
use Rattle.tn_script.specs.Views.{form_of}
use Rattle.tn_refusal.specs.RuleViews.{callee_seen}
use Rattle.tn_refusal.proofs.RuleReasons.{arities_from, more_numbers, no_more_numbers}
use Rattle.tn_refusal.proofs.Writes.{after_ok, put_ok}
use Rattle.tn_refusal.proofs.callee.put_arities.Goals as goal
use Rattle.tn_refusal.proofs.callee.put_arities.Goals.{in-Some+in_ok-put_number-in-Some, in-None}

pub loop-form-preserved : goal.loop-form-preserved
loop-form-preserved g c =
    let f = callee_seen c.args.callee.now in
    let from = arities_from f (form_of {A = g.row.A.Denot}) c.args.forms.now c.loop-form.form-index c.form-item.result c.loop-form-test.true c.form-item.is in
    elim c.match-arity_in.branch [
      | in-Some+in_ok-put_number-in-Some w ↦ more_numbers _ _ _ _ w.in-Some.arity _ _ _ (from ∙ ap (λ ns. ns ++ declared_arities (map (form_of {A = g.row.A.Denot}) (drop (c.loop-form.form-index + 1) c.args.forms.now)) f) (sym w.in-Some.ensures))
          (ap (λ v. v.items) w.out-is ∙ w.in_ok-put_number-in-Some.ensures) (ap (λ b. b.now) w.between-is) c.loop-form.invariant
      | in-None w ↦ no_more_numbers _ _ _ _ _ _ _ (from ∙ ap (λ ns. ns ++ declared_arities (map (form_of {A = g.row.A.Denot}) (drop (c.loop-form.form-index + 1) c.args.forms.now)) f) (sym w.in-None.ensures))
          (ap (λ v. v.items) w.out-is) (ap (λ b. b.now) w.between-is) c.loop-form.invariant
    ]

pub returns : goal.returns
returns g c =
    let f = callee_seen c.args.callee.now in
    let first = c.loop-form.out.items in
    let d = c.extend_from_slice.new.self.items in
    let done = c.extend_from_slice.result in
    let all = numbers_after (codes " is declared with the arity ") (declared_arities (map (form_of {A = g.row.A.Denot}) c.args.forms.now) f) in
    after_ok done c.args.out.now.items all (codes " alone") first d
    (sym (append-nil first) ∙ ap (λ ys. first ++ numbers_after c.loop-form.between.now (declared_arities (map (form_of {A = g.row.A.Denot}) ys) f)) (sym (drop_all c.loop-form.form-index c.args.forms.now c.loop-form-test.false)) ∙ c.loop-form.invariant)
    (put_ok done first (codes " alone") d c.extend_from_slice.ensures.items)
