use Rattle.std.proofs.Common.{◌∙◌, ◌+◌, ◌++◌, codes, drop, map, sym, ap, arith}
use Rattle.def_explain.specs.Reasons.{bound_within}
use Rattle.tn_head.specs.Views.{binding_seen}
use Rattle.tn_spec.specs.Views.{expr_seen}
use Rattle.tn_fun_words.specs.Views.{name_list_seen}
use Rattle.tn_fun_words.specs.FrontLines.{named_bound}
use Rattle.tn_fun_words.proofs.BoundNames.{name_next, name_passed}
use Rattle.tn_fun_words.proofs.reason.put_each_within.Goals as goal
use Rattle.tn_fun_words.proofs.reason.put_each_within.Goals.{then-stands_in+in_ok-put_bound, else-stands_in}

pub loop-binding-preserved : goal.loop-binding-preserved
loop-binding-preserved g c =
    let ns = name_list_seen c.args.names.now.items in
    let e = expr_seen c.args.condition.now in
    let xs = c.args.bindings.now in
    let i = c.loop-binding.binding-index in
    let x = c.binding-item.result in
    let out = c.loop-binding.out.items in
    let between = c.loop-binding.between.now in
    let rest = bound_within e (map binding_seen (drop (i + 1) xs)) in
    elim c.if-stands_in.branch [
      | then-stands_in+in_ok-put_bound w ↦
          ap (λ o. o.items ++ named_bound ns c.if-stands_in.between.now rest) w.out-is
          ∙ ap (λ b. w.put_bound.new.out.items ++ named_bound ns b.now rest) w.between-is
          ∙ ap (λ s. w.put_bound.new.out.items ++ named_bound ns s rest) w.as_slice-between-then-stands_in.ensures
          ∙ ap (λ s. s ++ named_bound ns (codes ", ") rest) w.in_ok-put_bound.ensures
          ∙ name_next ns e xs i x (omega arith) c.binding-item.is out between (sym c.stands_in.ensures ∙ w.if-stands_in.true)
          ∙ c.loop-binding.invariant
      | else-stands_in w ↦
          ap (λ o. o.items ++ named_bound ns c.if-stands_in.between.now rest) w.out-is
          ∙ ap (λ b. out ++ named_bound ns b.now rest) w.between-is
          ∙ name_passed ns e xs i x (omega arith) c.binding-item.is out between (sym c.stands_in.ensures ∙ w.if-stands_in.false)
          ∙ c.loop-binding.invariant
    ]
