use Rattle.std.proofs.Common.{is_some, ap, sym, ◌∙◌}
use Rattle.def_fun.specs.Reading.{ended_expr}
use Rattle.tn_fun.specs.States.{open_parts_seen, expr_state_seen}
use Rattle.tn_fun.specs.FunStates.{wait_for_operands}
use Rattle.tn_fun.proofs.Endings.{ends_alone}
use Rattle.tn_fun.proofs.expr_end.may_end.Goals as goal

pub returns-in-Has : goal.returns-in-Has
returns-in-Has g c = λ text.
    let h = c.in-Has in
    c.none_open.ensures text ∙ ap (λ vs. wait_for_operands (open_parts_seen text vs)) c.deref.ensures.value
    ∙ sym (ap (λ s. is_some (ended_expr (expr_state_seen text s))) h.is ∙ ends_alone _ (open_parts_seen text h.parts.items))

pub returns-in-HasStrings : goal.returns-in-HasStrings
returns-in-HasStrings g c = λ text.
    let h = c.in-HasStrings in
    c.none_open-in-HasStrings.ensures text ∙ ap (λ vs. wait_for_operands (open_parts_seen text vs)) c.deref-in-HasStrings.ensures.value
    ∙ sym (ap (λ s. is_some (ended_expr (expr_state_seen text s))) h.is ∙ ends_alone _ (open_parts_seen text h.parts.items))
