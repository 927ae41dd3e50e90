use Rattle.std.proofs.Common.{◌∙◌, sym, ap, ap₂}
use Rattle.def_term.specs.Order.{same}
use Rattle.tn_guard.specs.Views.{shape_seen, list_view_seen}
use Rattle.tn_guard.proofs.Same.{same-tuples}
use Rattle.tn_guard.proofs.shape.Shape.same.Goals as goal

pub returns-in-Tuple-Tuple : goal.returns-in-Tuple-Tuple
returns-in-Tuple-Tuple g c =
    let p = c.in-Tuple-Tuple in
    c.same_parts.ensures
    ∙ same-tuples (list_view_seen p.parts) (list_view_seen p.others)
    ∙ sym (ap₂ same (ap shape_seen p.is-0) (ap shape_seen p.is-1))
