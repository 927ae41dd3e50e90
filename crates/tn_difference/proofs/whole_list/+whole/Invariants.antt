use Rattle.std.proofs.Common.{◌≡◌, drop}
use Rattle.def_explain.specs.Differences.{one_has_whole_list}
use Rattle.tn_spec.specs.Views.{exprs_seen}
use Rattle.tn_difference.proofs.whole_list.+whole.Given as goal

abbrev pub invariant-one_has_whole_list-loop-i : goal.invariant-one_has_whole_list-loop-i
invariant-one_has_whole_list-loop-i g l = one_has_whole_list (exprs_seen (drop l.i l.exprs.items)) ≡ one_has_whole_list (exprs_seen l.exprs.items)
