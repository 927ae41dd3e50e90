use Rattle.std.proofs.Common.{◌≡◌, drop}
use Rattle.def_independence.specs.OwnEffects.{act_on_self}
use Rattle.tn_spec.specs.Views.{exprs_seen}
use Rattle.tn_independence.proofs.own_effects.+effects.Given as goal

abbrev pub invariant-act_on_self-loop-i : goal.invariant-act_on_self-loop-i
invariant-act_on_self-loop-i g l = act_on_self (exprs_seen (drop l.i l.exprs.items)) ≡ act_on_self (exprs_seen l.exprs.items)
