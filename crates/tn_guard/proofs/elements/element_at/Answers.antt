use Rattle.std.proofs.Common.{◌∙◌, sym, ap, arith}
use Rattle.def_term.specs.Tree.{int, tuple}
use Rattle.def_spec.specs.Functions.{element_of}
use Rattle.tn_guard.specs.Views.{list_view_seen}
use Rattle.tn_guard.proofs.Places.{nth_past, number_of_place}
use Rattle.tn_guard.proofs.elements.element_at.Goals as goal

pub returns-else-place-len : goal.returns-else-place-len
returns-else-place-len g c =
    let ts = list_view_seen c.args.parts in
    nth_past ts _ (omega (arith, c.len.ensures.counted, c.if-place-len.false))
    ∙ sym (ap (λ z. element_of (int z) (tuple ts)) (number_of_place c.args.number c.ranges.number c.if-number-lt1.false))
