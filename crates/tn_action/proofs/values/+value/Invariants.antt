use Rattle.std.proofs.Common.{◌≡◌, map, drop}
use Rattle.tn_guard.specs.Views.{value_seen}
use Rattle.tn_spec.specs.Views.{exprs_seen}
use Rattle.tn_action.specs.EvalContexts.{all_in, while_true_in, until_true_in}
use Rattle.tn_action.specs.Steps.{effect_list_seen, list_values, evaluation_while_true, evaluation_until_true}
use Rattle.tn_action.proofs.Steps.{behind}
use Rattle.tn_action.proofs.values.+value.Given as goal

abbrev pub invariant-all_in_turn-loop-i : goal.invariant-all_in_turn-loop-i
invariant-all_in_turn-loop-i g l = while_true_in l.scene (exprs_seen (drop l.i l.exprs.items)) (effect_list_seen l.effects) ≡ evaluation_while_true l.scene l.exprs l.initial.effects

abbrev pub invariant-one_in_turn-loop-i : goal.invariant-one_in_turn-loop-i
invariant-one_in_turn-loop-i g l = until_true_in l.scene (exprs_seen (drop l.i l.exprs.items)) (effect_list_seen l.effects) ≡ evaluation_until_true l.scene l.exprs l.initial.effects

abbrev pub invariant-values-loop-i : goal.invariant-values-loop-i
invariant-values-loop-i g l = behind (map value_seen l.parts.items) (all_in l.scene (exprs_seen (drop l.i l.exprs.items)) (effect_list_seen l.effects)) ≡ list_values l.scene l.exprs l.initial.effects
