use Rattle.std.proofs.Common.{◌≡◌, drop}
use Rattle.def_trap.specs.Traps.{first_no_flag}
use Rattle.tn_spec.specs.Views.{exprs_seen}
use Rattle.tn_trap.proofs.arguments.first_no_flag.Given as goal

-- none of the expressions so far is one
abbrev pub invariant-loop-i : goal.invariant-loop-i
invariant-loop-i g l = first_no_flag (exprs_seen (drop l.i l.exprs.items)) ≡ first_no_flag (exprs_seen l.exprs.items)
