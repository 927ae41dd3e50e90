use Rattle.std.proofs.Common.{◌∙◌, sym, ap}
use Rattle.def_spec.specs.Outcome.{Clause}
use Rattle.def_explain.specs.Differences.{one_shows_order}
use Rattle.complete_code.proofs.differences.order_differs.Goals as goal

pub returns : goal.returns
returns g c = c.order_differs-first.ensures ∙ ap (λ (k : Clause). one_shows_order k.body) c.requires ∙ sym c.order_differs-second.ensures
