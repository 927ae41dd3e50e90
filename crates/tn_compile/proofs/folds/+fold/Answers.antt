use Rattle.std.proofs.Common.{◌≡◌, ◌≤◌, ◌∷◌, [], ◌∙◌, ap, sym, arith, length, map}
use Rattle.std.proofs.lemmas.List.{map-append}
use Rattle.def_machine.specs.ExprFolds.{fold_expr}
use Rattle.def_spec.specs.Expressions as ex
use Rattle.tn_code.specs.declared.instr.Kind.TheVariants as kinds
use Rattle.tn_spec.specs.Views.{func_of, action_of, expr_seen}
use Rattle.tn_spec.proofs.Views.{expr_seen_tuple, expr_seen_list, expr_seen_call, expr_seen_and_also, expr_seen_or_else, expr_seen_perform}
use Rattle.tn_compile.specs.Folds.{shape_folded}
use Rattle.tn_compile.proofs.FoldedParts.{folds-more, folds-done}
use Rattle.tn_compile.proofs.folds.+fold.Goals as goal

pub folded_exprs-loop-index-preserved : goal.folded_exprs-loop-index-preserved
folded_exprs-loop-index-preserved g t c =
    let size = c.len-index-end.ensures ∙ c.args.exprs.now.ok.0 in
    folds-more c.args.exprs.now.items c.loop-index.index c.index-expr.result.now (map expr_seen c.loop-index.folded.items) (map expr_seen c.push.new.self.items) _ (expr_seen c.in_ok-fold_expr.field-0) (omega (arith, size)) c.index-expr.ensures
    c.in_ok-fold_expr.ensures
    (ap (map expr_seen) c.in_ok-push.ensures.items ∙ map-append expr_seen c.loop-index.folded.items (_ ∷ []))
    c.loop-index.invariant

pub folded_exprs-returns : goal.folded_exprs-returns
folded_exprs-returns g t c =
    let size : c.len-index-end.result ≡ length c.args.exprs.now.items = c.len-index-end.ensures ∙ c.args.exprs.now.ok.0 in
    let past : length c.args.exprs.now.items ≤ c.loop-index.index = omega (arith, size, c.loop-index-test.false) in
    folds-done c.args.exprs.now.items c.loop-index.index (map expr_seen c.loop-index.folded.items) past c.loop-index.invariant

pub fold_expr-returns-in_ok-fold_shape-in-Tuple : goal.fold_expr-returns-in_ok-fold_shape-in-Tuple
fold_expr-returns-in_ok-fold_shape-in-Tuple g t c =
    c.in_ok-fold_shape-in-Tuple.ensures ∙ ap (shape_folded kinds.Tuple) c.in_ok-folded_exprs-in-Tuple.ensures ∙ sym (ap fold_expr (ap expr_seen c.in-Tuple.is ∙ expr_seen_tuple c.in-Tuple.exprs))

pub fold_expr-returns-in_ok-fold_shape-in-List : goal.fold_expr-returns-in_ok-fold_shape-in-List
fold_expr-returns-in_ok-fold_shape-in-List g t c =
    c.in_ok-fold_shape-in-List.ensures ∙ ap (shape_folded kinds.List) c.in_ok-folded_exprs-in-List.ensures ∙ sym (ap fold_expr (ap expr_seen c.in-List.is ∙ expr_seen_list c.in-List.exprs))

pub fold_expr-returns-in_ok-folded_exprs-in-AndAlso : goal.fold_expr-returns-in_ok-folded_exprs-in-AndAlso
fold_expr-returns-in_ok-folded_exprs-in-AndAlso g t c =
    expr_seen_and_also _ ∙ ap ex.and_also c.in_ok-folded_exprs-in-AndAlso.ensures ∙ sym (ap fold_expr (ap expr_seen c.in-AndAlso.is ∙ expr_seen_and_also c.in-AndAlso.exprs))

pub fold_expr-returns-in_ok-folded_exprs-in-OrElse : goal.fold_expr-returns-in_ok-folded_exprs-in-OrElse
fold_expr-returns-in_ok-folded_exprs-in-OrElse g t c =
    expr_seen_or_else _ ∙ ap ex.or_else c.in_ok-folded_exprs-in-OrElse.ensures ∙ sym (ap fold_expr (ap expr_seen c.in-OrElse.is ∙ expr_seen_or_else c.in-OrElse.exprs))

pub fold_expr-returns-in_ok-folded_exprs-in-Call : goal.fold_expr-returns-in_ok-folded_exprs-in-Call
fold_expr-returns-in_ok-folded_exprs-in-Call g t c =
    expr_seen_call c.in-Call.func _ ∙ ap (ex.call (func_of c.in-Call.func)) c.in_ok-folded_exprs-in-Call.ensures ∙ sym (ap fold_expr (ap expr_seen c.in-Call.is ∙ expr_seen_call c.in-Call.func c.in-Call.exprs))

pub fold_expr-returns-in_ok-folded_exprs-in-Perform : goal.fold_expr-returns-in_ok-folded_exprs-in-Perform
fold_expr-returns-in_ok-folded_exprs-in-Perform g t c =
    expr_seen_perform c.in-Perform.action _ ∙ ap (ex.perform (action_of c.in-Perform.action)) c.in_ok-folded_exprs-in-Perform.ensures ∙ sym (ap fold_expr (ap expr_seen c.in-Perform.is ∙ expr_seen_perform c.in-Perform.action c.in-Perform.exprs))
