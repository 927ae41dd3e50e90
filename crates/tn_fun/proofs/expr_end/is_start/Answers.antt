use Rattle.std.proofs.Common.{◌≡◌, length, nat_eq, ap, sym, ◌∙◌, arith, vec_len}
use Rattle.tn_fun.specs.States.{open_parts_seen, expr_state_seen}
use Rattle.tn_fun.specs.FunStates.{is_expr_start}
use Rattle.tn_fun.proofs.PartViews.{parts_length}
use Rattle.tn_fun.proofs.Endings.{starts_empty}
use Rattle.tn_fun.proofs.expr_end.is_start.Goals as goal

pub returns-in-Wants : goal.returns-in-Wants
returns-in-Wants g c = λ text.
    let parts = c.in-Wants.parts in
    let size = parts.ok.0 in
    let same : vec_len parts ≡ length (open_parts_seen text parts.items) = omega (arith, size, parts_length text parts.items) in
    c.is_empty.ensures ∙ ap (λ n. nat_eq n 0) same ∙ starts_empty (open_parts_seen text parts.items) ∙ ap (λ s. is_expr_start (expr_state_seen text s)) (sym c.in-Wants.is)
