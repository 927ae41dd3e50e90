use Rattle.std.proofs.Common.{◌≡◌, true, take, reverse}
use Rattle.def_independence.specs.OwnEffects.{functions_act_on_self}
use Rattle.tn_session.specs.Looks.{look_seen}
use Rattle.tn_independence.proofs.own_effects.functions_act_on_self.Given as goal

abbrev pub invariant-loop-place : goal.invariant-loop-place
invariant-loop-place g l = functions_act_on_self (take l.place (reverse (look_seen l.look).functions)) ≡ true
