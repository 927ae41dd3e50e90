use Rattle.std.proofs.Common.{◌≡◌, drop}
use Rattle.def_explain.specs.Reasons.{stands_in_one}
use Rattle.tn_spec.specs.Views.{exprs_seen}
use Rattle.tn_verdict.proofs.variables.+variables.Given as goal

abbrev pub invariant-stands_in_one-loop-i : goal.invariant-stands_in_one-loop-i
invariant-stands_in_one-loop-i g l = stands_in_one l.number (exprs_seen (drop l.i l.exprs.items)) ≡ stands_in_one l.number (exprs_seen l.exprs.items)
