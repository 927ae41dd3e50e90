use Rattle.std.proofs.Common.{◌≡◌, drop}
use Rattle.tn_spec.specs.Views.{exprs_seen}
use Rattle.tn_action.specs.Steps.{effect_list_seen}
use Rattle.tn_difference.specs.Logic.{HasMoreEffects, logic_in_one, logic_in_turn, logic_of_one, logic_of_turn}
use Rattle.tn_difference.proofs.logic.+logic.Given as goal

abbrev pub invariant-logic_of_one-loop-i : goal.invariant-logic_of_one-loop-i
invariant-logic_of_one-loop-i g l = record {
  answer : logic_in_one l.scene (exprs_seen (drop l.i l.exprs.items)) (effect_list_seen l.effects) ≡ logic_of_one l.scene l.exprs l.initial.effects;
  effects : HasMoreEffects l.initial.effects l.effects;
}

abbrev pub invariant-logic_of_turn-loop-i : goal.invariant-logic_of_turn-loop-i
invariant-logic_of_turn-loop-i g l = record {
  answer : logic_in_turn l.scene l.goes_on (exprs_seen (drop l.i l.exprs.items)) (effect_list_seen l.effects) ≡ logic_of_turn l.scene l.goes_on l.exprs l.initial.effects;
  effects : HasMoreEffects l.initial.effects l.effects;
}
