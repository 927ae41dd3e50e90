use Rattle.std.proofs.Common.{◌≡◌, drop, map}
use Rattle.def_independence.specs.OwnEffects.{clauses_act_on_self}
use Rattle.tn_spec.specs.Views.{clause_seen}
use Rattle.tn_independence.proofs.own_effects.clauses_act_on_self.Given as goal

abbrev pub invariant-loop-i : goal.invariant-loop-i
invariant-loop-i g l = clauses_act_on_self (map (clause_seen {A = g.row.A.Denot}) (drop l.i l.clauses.items)) ≡ clauses_act_on_self (map (clause_seen {A = g.row.A.Denot}) l.clauses.items)
