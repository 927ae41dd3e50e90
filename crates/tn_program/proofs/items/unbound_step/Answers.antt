use Rattle.std.proofs.Common.{[], ◌∷◌, ◌++◌, ◌+◌, map, take, ap, sym, refl, Some, ◌∙◌, arith}
use Rattle.std.proofs.lemmas.List.{append-nil}
use Rattle.def_script.specs.Shapes.{self_name}
use Rattle.def_script.specs.Rules.{any_has_other, bound_before, terms_of}
use Rattle.def_refusal.specs.Items.{position_with_earlier}
use Rattle.tn_script.specs.Views.{step_of, function_of}
use Rattle.tn_program.specs.Variables.{names_in, target_names}
use Rattle.tn_program.proofs.Positions.{position_begins, position_found, position_next, position_none}
use Rattle.tn_program.proofs.BoundVariables.{bound_more, any_same, same_as}
use Rattle.tn_program.proofs.items.unbound_step.Goals as goal

pub loop-step-init : goal.loop-step-init
loop-step-init g c =
    let params = (function_of {A = g.row.A.Denot} c.args.function.now).params in
    record {
      counted = refl;
      so_far = position_begins (λ before s. any_has_other (bound_before params before) (terms_of s)) (step_of {A = g.row.A.Denot}) [] c.deref-step-items.result.now;
      known = same_as (names_in c.in_ok-bound.bound) (self_name ∷ params) (self_name ∷ params ++ []) (ap (λ zs. self_name ∷ zs) (sym (append-nil params))) c.in_ok-bound.ensures;
    }

pub returns-then-step_unbound : goal.returns-then-step_unbound
returns-then-step_unbound g c =
    ap (λ n. Some (n + 1)) c.loop-step.invariant.counted
    ∙ position_found (λ before s. any_has_other (bound_before (function_of {A = g.row.A.Denot} c.args.function.now).params before) (terms_of s)) (step_of {A = g.row.A.Denot}) [] c.deref-step-items.result.now c.loop-step.step-index c.step-item.result c.loop-step-test.true c.step-item.is (sym (any_same (names_in c.loop-step.bound) (bound_before (function_of {A = g.row.A.Denot} c.args.function.now).params (map (step_of {A = g.row.A.Denot}) (take c.loop-step.step-index c.deref-step-items.result.now))) c.loop-step.invariant.known (terms_of (step_of {A = g.row.A.Denot} c.step-item.result))) ∙ sym c.step_unbound.ensures ∙ c.if-step_unbound.true) c.loop-step.invariant.so_far
    ∙ ap (λ xs. position_with_earlier (λ before s. any_has_other (bound_before (function_of {A = g.row.A.Denot} c.args.function.now).params before) (terms_of s)) [] 1 (map (step_of {A = g.row.A.Denot}) xs)) c.deref-step-items.ensures.value

pub loop-step-preserved : goal.loop-step-preserved
loop-step-preserved g c = record {
  counted = ap (λ n. n + 1) c.loop-step.invariant.counted;
  so_far = position_next (λ before s. any_has_other (bound_before (function_of {A = g.row.A.Denot} c.args.function.now).params before) (terms_of s)) (step_of {A = g.row.A.Denot}) [] c.deref-step-items.result.now c.loop-step.step-index c.step-item.result c.loop-step-test.true c.step-item.is (sym (any_same (names_in c.loop-step.bound) (bound_before (function_of {A = g.row.A.Denot} c.args.function.now).params (map (step_of {A = g.row.A.Denot}) (take c.loop-step.step-index c.deref-step-items.result.now))) c.loop-step.invariant.known (terms_of (step_of {A = g.row.A.Denot} c.step-item.result))) ∙ sym c.step_unbound.ensures ∙ c.if-step_unbound.false) c.loop-step.invariant.so_far;
  known =
      let params = (function_of {A = g.row.A.Denot} c.args.function.now).params in
      let items = c.deref-step-items.result.now in
      let i = c.loop-step.step-index in
      let step = step_of {A = g.row.A.Denot} c.step-item.result in
      let before = bound_before params (map (step_of {A = g.row.A.Denot}) (take i items)) in
      same_as (names_in c.bind.new.bound) (before ++ target_names step) (bound_before params (map (step_of {A = g.row.A.Denot}) (take (i + 1) items)))
      (bound_more (step_of {A = g.row.A.Denot}) params items i c.step-item.result before (before ++ target_names step) c.loop-step-test.true c.step-item.is refl refl)
      (c.in_ok-bind.ensures before c.loop-step.invariant.known);
}

pub returns : goal.returns
returns g c =
    position_none (λ before s. any_has_other (bound_before (function_of {A = g.row.A.Denot} c.args.function.now).params before) (terms_of s)) (step_of {A = g.row.A.Denot}) [] c.deref-step-items.result.now c.loop-step.step-index c.loop-step-test.false c.loop-step.invariant.so_far
    ∙ ap (λ xs. position_with_earlier (λ before s. any_has_other (bound_before (function_of {A = g.row.A.Denot} c.args.function.now).params before) (terms_of s)) [] 1 (map (step_of {A = g.row.A.Denot}) xs)) c.deref-step-items.ensures.value
