use Rattle.std.proofs.Common.{rules, ◌≡◌, ◌∙◌, ◌+◌, None, sym, ap, arith, drop}
use Rattle.std.specs.Option.{option_map}
use Rattle.def_spec.specs.Expressions as ex
use Rattle.def_explain.specs.Values as faults
use Rattle.tn_guard.specs.Views.{value_seen}
use Rattle.tn_head.specs.Views.{bindings_seen}
use Rattle.tn_spec.specs.Views.{dialect_of, action_of, func_of, expr_seen, exprs_seen}
use Rattle.tn_spec.proofs.Views.{expr_seen_variable, expr_seen_call, expr_seen_perform}
use Rattle.tn_action.specs.Views.{context_seen}
use Rattle.tn_action.proofs.Steps.{exprs_here}
use Rattle.tn_verdict.specs.Views.{part_at}
use Rattle.tn_verdict.proofs.Steps.{same-first, variable-fault, call-fault, action-fault, no-fault, own-fault, turn-no-value, turn-stops, turn-goes-on, in-turn, in-conditions}
use Rattle.tn_verdict.proofs.faults.+fault.Goals as goal
use Rattle.tn_verdict.proofs.faults.+fault.Goals.{fault_in-in-Variable, fault_in-in-Call+in_ok-inner-in-Call, fault_in-in-Perform+in_ok-inner-in-Perform}

pub fault_in-returns-in-Some : goal.fault_in-returns-in-Some
fault_in-returns-in-Some g t c =
    let s = c.args.scene.now in
    let d = dialect_of s.dialect in
    let b = bindings_seen s.bindings.now in
    let x = context_seen s.context.now in
    let e = expr_seen c.args.expr.now in
    let i = part_at c.match-expr.inner in
    let inner : i ≡ None = search rules in
    let is = in-conditions s e _ _ _ c.requires c.in_ok-value.ensures ∙ ap (option_map value_seen) c.in-Some.is in
    let own : faults.fault_in d b x e ≡ faults.or_itself i e (ex.value d ex.in_condition b x e) = elim c.match-expr.branch [
      | fault_in-in-Variable w ↦ variable-fault d b x e w.in-Variable.field-0 (ap expr_seen w.in-Variable.is ∙ expr_seen_variable _ w.in-Variable.field-0) ∙ ap (λ j. faults.or_itself (part_at j) e (ex.value d ex.in_condition b x e)) (sym w.inner-is)
      | fault_in-in-Call+in_ok-inner-in-Call w ↦ call-fault d b x e (func_of w.in-Call.field-0) (exprs_seen w.in-Call.exprs.items) i (ap expr_seen w.in-Call.is ∙ expr_seen_call w.in-Call.field-0 w.in-Call.exprs) (ap part_at w.inner-is ∙ w.in_ok-inner-in-Call.ensures)
      | fault_in-in-Perform+in_ok-inner-in-Perform w ↦ action-fault d b x e (action_of w.in-Perform.field-0) (exprs_seen w.in-Perform.exprs.items) i (ap expr_seen w.in-Perform.is ∙ expr_seen_perform w.in-Perform.field-0 w.in-Perform.exprs) (ap part_at w.inner-is ∙ w.in_ok-inner-in-Perform.ensures)
    ] in
    no-fault d b x e (value_seen c.in-Some.field-0) i own inner is

pub fault_in-returns-in-None : goal.fault_in-returns-in-None
fault_in-returns-in-None g t c =
    let s = c.args.scene.now in
    let d = dialect_of s.dialect in
    let b = bindings_seen s.bindings.now in
    let x = context_seen s.context.now in
    let e = expr_seen c.args.expr.now in
    let i = part_at c.match-expr.inner in
    let inner : i ≡ None = search rules in
    let is = in-conditions s e _ _ _ c.requires c.in_ok-value.ensures ∙ ap (option_map value_seen) c.in-None.is in
    let own : faults.fault_in d b x e ≡ faults.or_itself i e (ex.value d ex.in_condition b x e) = elim c.match-expr.branch [
      | fault_in-in-Variable w ↦ variable-fault d b x e w.in-Variable.field-0 (ap expr_seen w.in-Variable.is ∙ expr_seen_variable _ w.in-Variable.field-0) ∙ ap (λ j. faults.or_itself (part_at j) e (ex.value d ex.in_condition b x e)) (sym w.inner-is)
      | fault_in-in-Call+in_ok-inner-in-Call w ↦ call-fault d b x e (func_of w.in-Call.field-0) (exprs_seen w.in-Call.exprs.items) i (ap expr_seen w.in-Call.is ∙ expr_seen_call w.in-Call.field-0 w.in-Call.exprs) (ap part_at w.inner-is ∙ w.in_ok-inner-in-Call.ensures)
      | fault_in-in-Perform+in_ok-inner-in-Perform w ↦ action-fault d b x e (action_of w.in-Perform.field-0) (exprs_seen w.in-Perform.exprs.items) i (ap expr_seen w.in-Perform.is ∙ expr_seen_perform w.in-Perform.field-0 w.in-Perform.exprs) (ap part_at w.inner-is ∙ w.in_ok-inner-in-Perform.ensures)
    ] in
    own-fault d b x e i own inner is

pub fault_in_turn-returns-then-is_true-stop : goal.fault_in_turn-returns-then-is_true-stop
fault_in_turn-returns-then-is_true-stop g t c =
    let s = c.args.scene.now in
    let d = dialect_of s.dialect in
    let b = bindings_seen s.bindings.now in
    let x = context_seen s.context.now in
    let es = c.args.exprs.now.items in
    let size = c.len-i-end.ensures ∙ c.args.exprs.now.ok.0 in
    let e = c.index-in-loop-i.result.now in
    let rest = exprs_seen (drop (c.loop-i.i + 1) es) in
    let here = exprs_here es c.loop-i.i e (omega (arith, size)) c.index-in-loop-i.ensures in
    let first = exprs_here es c.loop-i.i c.index.result.now (omega (arith, size)) c.index.ensures in
    let fault : faults.fault_in d b x (expr_seen e) ≡ None = ap (faults.fault_in d b x) (same-first d b x _ rest _ _ here first) ∙ sym c.in_ok-part.ensures ∙ ap part_at c.in_default.is in
    let so_far = sym (in-turn s c.args.stop _) ∙ c.loop-i.invariant in
    let is = in-conditions s (expr_seen e) _ _ _ c.requires c.in_ok-part-2.ensures ∙ ap (option_map value_seen) c.in-Some-2.is in
    turn-stops d b x c.args.stop _ _ rest (expr_seen e) (value_seen c.in-Some-2.part) _ here fault is (sym c.is_true.ensures) c.if-is_true-stop.true so_far

pub fault_in_turn-returns-in-None : goal.fault_in_turn-returns-in-None
fault_in_turn-returns-in-None g t c =
    let s = c.args.scene.now in
    let d = dialect_of s.dialect in
    let b = bindings_seen s.bindings.now in
    let x = context_seen s.context.now in
    let es = c.args.exprs.now.items in
    let size = c.len-i-end.ensures ∙ c.args.exprs.now.ok.0 in
    let e = c.index-in-loop-i.result.now in
    let rest = exprs_seen (drop (c.loop-i.i + 1) es) in
    let here = exprs_here es c.loop-i.i e (omega (arith, size)) c.index-in-loop-i.ensures in
    let first = exprs_here es c.loop-i.i c.index.result.now (omega (arith, size)) c.index.ensures in
    let fault : faults.fault_in d b x (expr_seen e) ≡ None = ap (faults.fault_in d b x) (same-first d b x _ rest _ _ here first) ∙ sym c.in_ok-part.ensures ∙ ap part_at c.in_default.is in
    let so_far = sym (in-turn s c.args.stop _) ∙ c.loop-i.invariant in
    let is = in-conditions s (expr_seen e) _ _ _ c.requires c.in_ok-part-2.ensures ∙ ap (option_map value_seen) c.in-None.is in
    turn-no-value d b x c.args.stop _ rest (expr_seen e) _ here fault is so_far

pub fault_in_turn-loop-i-preserved : goal.fault_in_turn-loop-i-preserved
fault_in_turn-loop-i-preserved g t c =
    let s = c.args.scene.now in
    let d = dialect_of s.dialect in
    let b = bindings_seen s.bindings.now in
    let x = context_seen s.context.now in
    let es = c.args.exprs.now.items in
    let size = c.len-i-end.ensures ∙ c.args.exprs.now.ok.0 in
    let e = c.index-in-loop-i.result.now in
    let rest = exprs_seen (drop (c.loop-i.i + 1) es) in
    let here = exprs_here es c.loop-i.i e (omega (arith, size)) c.index-in-loop-i.ensures in
    let first = exprs_here es c.loop-i.i c.index.result.now (omega (arith, size)) c.index.ensures in
    let fault : faults.fault_in d b x (expr_seen e) ≡ None = ap (faults.fault_in d b x) (same-first d b x _ rest _ _ here first) ∙ sym c.in_ok-part.ensures ∙ ap part_at c.in_default.is in
    let so_far = sym (in-turn s c.args.stop _) ∙ c.loop-i.invariant in
    let is = in-conditions s (expr_seen e) _ _ _ c.requires c.in_ok-part-2.ensures ∙ ap (option_map value_seen) c.in-Some-2.is in
    in-turn s c.args.stop rest
    ∙ turn-goes-on d b x c.args.stop _ _ rest (expr_seen e) (value_seen c.in-Some-2.part) _ here fault is (sym c.is_true.ensures) c.if-is_true-stop.false so_far
