use Rattle.std.proofs.Common.{◌≡◌, drop}
use Rattle.def_explain.specs.Differences.{one_shows_order}
use Rattle.tn_spec.specs.Views.{exprs_seen}
use Rattle.tn_difference.proofs.order.+order.Given as goal

abbrev pub invariant-one_shows_order-loop-i : goal.invariant-one_shows_order-loop-i
invariant-one_shows_order-loop-i g l = one_shows_order (exprs_seen (drop l.i l.exprs.items)) ≡ one_shows_order (exprs_seen l.exprs.items)
