use Rattle.std.proofs.Common.{rules, ◌≡◌, ◌+◌, ◌-◌, ◌<◌, ◌≤◌, ◌^◌, ◌∙◌, sym, ap, arith, length, drop}
use Rattle.def_spec.specs.Expressions.{and_expr}
use Rattle.def_machine.specs.Compilation.{is_on_self}
use Rattle.tn_spec.specs.Sizes.{expr_size}
use Rattle.std.proofs.lemmas.Result.{on_ok_weaker}
use Rattle.tn_spec.specs.Views.{func_of, action_of, expr_seen, exprs_seen}
use Rattle.tn_spec.proofs.Views.{expr_seen_tuple, expr_seen_list, expr_seen_call, expr_seen_and_also, expr_seen_or_else, expr_seen_perform}
use Rattle.tn_spec.specs.declared.expr.Expr as expr
use Rattle.tn_compile.specs.Views.{code_left}
use Rattle.tn_compile.proofs.Steps.{exprs_here, exprs-length, expr-within, left-length, seen-emitted, tuple-emitted, list-emitted, call-emitted, perform-emitted, self-emitted, short-circuit-emitted, tests-more}
use Rattle.tn_compile.proofs.exprs.+emit.Goals as goal

pub emit_expr-returns-in_ok-emit_build-in-Tuple-clause-emitted : goal.emit_expr-returns-in_ok-emit_build-in-Tuple-clause-emitted
emit_expr-returns-in_ok-emit_build-in-Tuple-clause-emitted g t c =
    let s = c.args.scene.now in
    let es = exprs_seen c.in-Tuple.exprs.items in
    let k = code_left c.args.code.now in
    on_ok_weaker c.emit_exprs.result (λ after. seen-emitted s _ _ c.args.free k _ (ap expr_seen c.in-Tuple.is ∙ expr_seen_tuple c.in-Tuple.exprs) (tuple-emitted s es c.args.free k _ _ c.in_ok-emit_build-in-Tuple.ensures.emitted after)) c.emit_exprs.ensures.emitted

pub emit_expr-returns-in_ok-emit_build-in-List-clause-emitted : goal.emit_expr-returns-in_ok-emit_build-in-List-clause-emitted
emit_expr-returns-in_ok-emit_build-in-List-clause-emitted g t c =
    let s = c.args.scene.now in
    let es = exprs_seen c.in-List.exprs.items in
    let k = code_left c.args.code.now in
    on_ok_weaker c.emit_exprs-in-List.result (λ after. seen-emitted s _ _ c.args.free k _ (ap expr_seen c.in-List.is ∙ expr_seen_list c.in-List.exprs) (list-emitted s es c.args.free k _ _ c.in_ok-emit_build-in-List.ensures.emitted after)) c.emit_exprs-in-List.ensures.emitted

pub emit_expr-returns-in_ok-emit_apply-in-Call-clause-emitted : goal.emit_expr-returns-in_ok-emit_apply-in-Call-clause-emitted
emit_expr-returns-in_ok-emit_apply-in-Call-clause-emitted g t c =
    let s = c.args.scene.now in
    let es = exprs_seen c.in-Call.exprs.items in
    let k = code_left c.args.code.now in
    on_ok_weaker c.emit_exprs-in-Call.result (λ after. seen-emitted s _ _ c.args.free k _ (ap expr_seen c.in-Call.is ∙ expr_seen_call c.in-Call.func c.in-Call.exprs) (call-emitted s (func_of c.in-Call.func) es c.args.free (length c.args.code.now.items) k _ _ (sym (left-length c.args.code.now)) c.in_ok-emit_apply-in-Call.ensures.emitted after)) c.emit_exprs-in-Call.ensures.emitted

pub emit_expr-returns-in-Perform-clause-emitted : goal.emit_expr-returns-in-Perform-clause-emitted
emit_expr-returns-in-Perform-clause-emitted g t c =
    on_ok_weaker c.emit_action.result (seen-emitted c.args.scene.now _ _ c.args.free (code_left c.args.code.now) _ (ap expr_seen c.in-Perform.is ∙ expr_seen_perform c.in-Perform.action c.in-Perform.exprs)) c.emit_action.ensures.emitted

pub emit_action-returns-in_ok-emit_exprs-clause-emitted : goal.emit_action-returns-in_ok-emit_exprs-clause-emitted
emit_action-returns-in_ok-emit_exprs-clause-emitted g t c =
    let s = c.args.scene.now in
    let es = exprs_seen c.args.exprs.now.items in
    let k = code_left c.args.code.now in
    on_ok_weaker c.emit.result (self-emitted s (action_of c.args.action) es c.args.free k _ _ _ (ap (λ xs. is_on_self (action_of c.args.action) (exprs_seen xs)) (sym c.as_slice.ensures.value) ∙ sym c.is_on_self.ensures ∙ c.if-is_on_self.true) c.in_ok-emit_on_self.ensures.emitted c.in_ok-emit_exprs.ensures.emitted) c.emit.ensures.emitted

pub emit_action-returns-in_ok-emit_perform-clause-emitted : goal.emit_action-returns-in_ok-emit_perform-clause-emitted
emit_action-returns-in_ok-emit_perform-clause-emitted g t c =
    let s = c.args.scene.now in
    let es = exprs_seen c.args.exprs.now.items in
    let k = code_left c.args.code.now in
    on_ok_weaker c.emit_exprs-else-is_on_self.result (perform-emitted s (action_of c.args.action) es c.args.free k _ _ (ap (λ xs. is_on_self (action_of c.args.action) (exprs_seen xs)) (sym c.as_slice.ensures.value) ∙ sym c.is_on_self.ensures ∙ c.if-is_on_self.false) c.in_ok-emit_perform.ensures.emitted) c.emit_exprs-else-is_on_self.ensures.emitted

pub emit_expr-returns-in-AndAlso-clause-emitted : goal.emit_expr-returns-in-AndAlso-clause-emitted
emit_expr-returns-in-AndAlso-clause-emitted g t c =
    on_ok_weaker c.emit_short_circuit.result (seen-emitted c.args.scene.now _ _ c.args.free (code_left c.args.code.now) _ (ap expr_seen c.in-AndAlso.is ∙ expr_seen_and_also c.in-AndAlso.exprs)) c.emit_short_circuit.ensures.emitted

pub emit_expr-returns-in-OrElse-clause-emitted : goal.emit_expr-returns-in-OrElse-clause-emitted
emit_expr-returns-in-OrElse-clause-emitted g t c =
    on_ok_weaker c.emit_short_circuit-in-OrElse.result (seen-emitted c.args.scene.now _ _ c.args.free (code_left c.args.code.now) _ (ap expr_seen c.in-OrElse.is ∙ expr_seen_or_else c.in-OrElse.exprs)) c.emit_short_circuit-in-OrElse.ensures.emitted

pub emit_short_circuit-returns-clause-emitted : goal.emit_short_circuit-returns-clause-emitted
emit_short_circuit-returns-clause-emitted g t c =
    on_ok_weaker c.emit_truth-2.result (short-circuit-emitted c.args.scene.now c.args.on_true (exprs_seen c.args.exprs.now.items) c.args.free c.len-left.result (code_left c.args.code.now) (code_left c.emit_truth.new.code) (code_left c.emit_tests.new.code) _
    (c.len-left.ensures ∙ c.args.code.now.ok.0 ∙ sym (left-length c.args.code.now))
    c.in_ok-emit_truth.ensures.emitted c.in_ok-emit_tests.ensures.emitted) c.emit_truth-2.ensures.emitted

pub emit_exprs-overflow_add-free : goal.emit_exprs-overflow_add-free
emit_exprs-overflow_add-free g t c = omega (arith, c.requires.room, c.loop-i.invariant.within, exprs-length c.args.exprs.now.items)

pub emit_exprs-emit_expr-requires : goal.emit_exprs-emit_expr-requires
emit_exprs-emit_expr-requires g t c κs within =
    let below : c.loop-i.i - 1 < length c.args.exprs.now.items = omega (arith, c.loop-i.invariant.within, c.loop-i-test.true) in
    let room : c.args.free + (c.loop-i.i - 1) + 1 + expr_size (expr_seen c.index-expr.result.now) < 2 ^ 64 = omega (arith, c.requires.room, expr-within c.args.exprs.now.items (c.loop-i.i - 1) c.index-expr.result.now below c.index-expr.ensures) in
    let behind : c.args.scene.now.left ≤ length c.loop-i.code.items = omega (arith, c.requires.behind, c.loop-i.invariant.longer) in
    search (rules, expr.the_lemmas)

pub emit_tests-emit_expr-requires : goal.emit_tests-emit_expr-requires
emit_tests-emit_expr-requires g t c κs within =
    let below : c.loop-i.i - 1 < length c.args.exprs.now.items = omega (arith, c.loop-i.invariant.within, c.loop-i-test.true) in
    let room : c.args.free + 1 + expr_size (expr_seen c.index-expr.result.now) < 2 ^ 64 = omega (arith, c.requires.room, expr-within c.args.exprs.now.items (c.loop-i.i - 1) c.index-expr.result.now below c.index-expr.ensures) in
    let behind : c.args.scene.now.left ≤ length c.emit_truth.new.code.items = omega (arith, c.requires.behind, c.loop-i.invariant.longer, c.in_ok-emit_test.ensures.longer, c.in_ok-emit_truth.ensures.longer) in
    search (rules, expr.the_lemmas)

pub emit_tests-loop-i-preserved : goal.emit_tests-loop-i-preserved
emit_tests-loop-i-preserved g t c =
    let s = c.args.scene.now in
    let es = c.args.exprs.now.items in
    let e = expr_seen c.index-expr.result.now in
    let below : c.loop-i.i - 1 < length c.args.exprs.now.items = omega (arith, c.loop-i.invariant.within, c.loop-i-test.true) in
    let again : c.loop-i.i - 1 + 1 ≡ c.loop-i.i = omega (arith, c.loop-i-test.true) in
    record {
      within = omega (arith, c.loop-i.invariant.within);
      longer = omega (arith, c.loop-i.invariant.longer, c.in_ok-emit_test.ensures.longer, c.in_ok-emit_truth.ensures.longer, c.in_ok-emit_expr.ensures.longer);
      emitted = tests-more s c.args.stop.on_true (exprs_seen (drop (c.loop-i.i - 1) es)) (exprs_seen (drop c.loop-i.i es)) e c.args.free c.args.stop.left c.register_of-left.result (length c.loop-i.code.items) (code_left c.args.code.now) (code_left c.loop-i.code) (code_left c.emit_test.new.code) (code_left c.emit_truth.new.code) (code_left c.emit_expr.new.code)
          (exprs_here es (c.loop-i.i - 1) c.index-expr.result.now below c.index-expr.ensures ∙ ap (λ n. and_expr e (exprs_seen (drop n es))) again)
          c.loop-i.invariant.emitted c.register_of-left.ensures (sym (left-length c.loop-i.code))
          c.in_ok-emit_test.ensures.emitted c.in_ok-emit_truth.ensures.emitted c.in_ok-emit_expr.ensures.emitted;
    }
