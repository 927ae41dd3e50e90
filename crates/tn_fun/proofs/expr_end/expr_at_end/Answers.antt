use Rattle.std.proofs.Common.{ap, sym, ◌∙◌}
use Rattle.std.proofs.lemmas.Result.{IfOk-weaker}
use Rattle.def_fun.specs.Reading.{ended_expr, if_none_open, whole_operand}
use Rattle.tn_fun.specs.States.{open_parts_seen, expr_state_seen}
use Rattle.tn_fun.proofs.TreeViews.{seen_strings}
use Rattle.tn_fun.proofs.expr_end.expr_at_end.Goals as goal

pub returns : goal.returns
returns g c =
    let h = c.in-HasStrings in
    IfOk-weaker c.without_parts-in-HasStrings.result _ _ (λ o is text. is text ∙ ap (λ e. if_none_open (whole_operand e (open_parts_seen text h.parts.items))) (seen_strings text h.first h.others)
    ∙ ap (λ s. ended_expr (expr_state_seen text s)) (sym h.is)) c.without_parts-in-HasStrings.ensures
