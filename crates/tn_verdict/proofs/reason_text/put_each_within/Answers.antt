use Rattle.std.proofs.Common.{◌∙◌, ◌+◌, ◌++◌, codes, drop, map, sym, ap, subst, arith}
use Rattle.def_explain.specs.Reasons.{bound_within}
use Rattle.def_explain.specs.Texts.{bound_texts}
use Rattle.tn_head.specs.Views.{binding_seen}
use Rattle.tn_spec.specs.Views.{expr_seen}
use Rattle.tn_text.specs.Writes.{Grows}
use Rattle.tn_text.proofs.Growth.{grows_on}
use Rattle.tn_verdict.proofs.BoundTexts.{bound_next, bound_passed}
use Rattle.tn_verdict.proofs.reason_text.put_each_within.Goals as goal
use Rattle.tn_verdict.proofs.reason_text.put_each_within.Goals.{then-stands_in+in_ok-put_bound, else-stands_in}

pub loop-binding-preserved : goal.loop-binding-preserved
loop-binding-preserved g c =
    let e = expr_seen c.args.condition.now in
    let xs = c.args.bindings.now in
    let i = c.loop-binding.binding-index in
    let x = c.binding-item.result in
    let out = c.loop-binding.out.items in
    let between = c.loop-binding.between.now in
    let rest = bound_within e (map binding_seen (drop (i + 1) xs)) in
    elim c.if-stands_in.branch [
      | then-stands_in+in_ok-put_bound w ↦ record {
        written =
            ap (λ o. o.items ++ bound_texts c.if-stands_in.between.now rest) w.out-is
            ∙ ap (λ b. w.put_bound.new.out.items ++ bound_texts b.now rest) w.between-is
            ∙ ap (λ s. w.put_bound.new.out.items ++ bound_texts s rest) w.as_slice-between-then-stands_in.ensures
            ∙ ap (λ s. s ++ bound_texts (codes ", ") rest) w.in_ok-put_bound.ensures.ok
            ∙ bound_next e xs i x (omega arith) c.binding-item.is out between (sym c.stands_in.ensures ∙ w.if-stands_in.true)
            ∙ c.loop-binding.invariant.written;
        grows = subst (λ o. Grows c.args.out.now.items o.items) (sym w.out-is) (grows_on c.loop-binding.invariant.grows w.put_bound.ensures.grows);
      }
      | else-stands_in w ↦ record {
        written =
            ap (λ o. o.items ++ bound_texts c.if-stands_in.between.now rest) w.out-is
            ∙ ap (λ b. out ++ bound_texts b.now rest) w.between-is
            ∙ bound_passed e xs i x (omega arith) c.binding-item.is out between (sym c.stands_in.ensures ∙ w.if-stands_in.false)
            ∙ c.loop-binding.invariant.written;
        grows = subst (λ o. Grows c.args.out.now.items o.items) (sym w.out-is) c.loop-binding.invariant.grows;
      }
    ]
