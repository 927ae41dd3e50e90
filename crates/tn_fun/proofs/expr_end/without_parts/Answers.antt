use Rattle.std.proofs.Common.{ap, sym, ◌∙◌, arith, vec_len}
use Rattle.std.proofs.lemmas.Bool.{eqb-true, eqb-false}
use Rattle.def_fun.specs.Reading.{if_none_open}
use Rattle.tn_fun.proofs.PartViews.{parts_length}
use Rattle.tn_fun.proofs.Endings.{ends_empty, ends_open}
use Rattle.tn_fun.proofs.expr_end.without_parts.Goals as goal

pub returns-then-is_empty : goal.returns-then-is_empty
returns-then-is_empty g c = λ text.
    let parts = c.in_ok-operand.parts in
    let size = parts.ok.0 in
    let none = eqb-true (vec_len parts) 0 (sym c.if-is_empty.ensures) in
    sym (ap if_none_open (c.in_ok-operand.ensures text) ∙ ends_empty _ _ (omega (arith, size, none, parts_length text parts.items)))

pub returns-else-is_empty : goal.returns-else-is_empty
returns-else-is_empty g c = λ text.
    let parts = c.in_ok-operand.parts in
    let size = parts.ok.0 in
    let some = eqb-false (vec_len parts) 0 (sym c.if-is_empty.ensures) in
    sym (ap if_none_open (c.in_ok-operand.ensures text) ∙ ends_open _ _ (omega (arith, size, some, parts_length text parts.items)))
