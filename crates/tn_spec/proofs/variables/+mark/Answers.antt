use Rattle.std.proofs.Common.{◌≡◌, ◌∙◌, ap, sym, arith, inl, inr}
use Rattle.tn_spec.specs.Variables.{mark_variables, marked_all}
use Rattle.tn_spec.specs.Views.{pattern_seen, pattern_list}
use Rattle.tn_spec.proofs.VariableTable.{marked_more, marked_past}
use Rattle.tn_spec.proofs.Views.{pattern_seen_variable, pattern_seen_tuple, pattern_seen_list}
use Rattle.tn_spec.proofs.variables.+mark.Goals as goal

pub mark-returns-in-Variable : goal.mark-returns-in-Variable
mark-returns-in-Variable g t c =
    c.mark_one.ensures ∙ sym (ap (λ p. mark_variables p c.args.table.now) (ap pattern_seen c.in-Variable.is ∙ pattern_seen_variable _ c.in-Variable.n))

pub mark-returns-in-Tuple : goal.mark-returns-in-Tuple
mark-returns-in-Tuple g t c =
    let seen : mark_variables (pattern_seen c.args.pattern.now) c.args.table.now ≡ marked_all (pattern_list c.in-Tuple.patterns) c.args.table.now =
    elim c.in-Tuple.is [
      | inl e ↦ ap (λ p. mark_variables p c.args.table.now) (ap pattern_seen e ∙ pattern_seen_tuple c.in-Tuple.patterns)
      | inr e ↦ ap (λ p. mark_variables p c.args.table.now) (ap pattern_seen e ∙ pattern_seen_list c.in-Tuple.patterns)
    ] in
    c.mark_all.ensures ∙ sym seen

pub mark_all-loop-pattern-preserved : goal.mark_all-loop-pattern-preserved
mark_all-loop-pattern-preserved g t c =
    marked_more pattern_seen c.deref-pattern-items.result.now c.loop-pattern.pattern-index c.loop-pattern.table _ c.pattern-item.result c.mark.new.table (omega arith) c.pattern-item.is c.mark.ensures c.loop-pattern.invariant

pub mark_all-returns : goal.mark_all-returns
mark_all-returns g t c = marked_past pattern_seen c.deref-pattern-items.result.now c.loop-pattern.pattern-index c.loop-pattern.table _ (omega arith) c.loop-pattern.invariant
