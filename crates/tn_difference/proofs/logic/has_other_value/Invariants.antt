use Rattle.std.proofs.Common.{◌≡◌, ◌||◌, drop}
use Rattle.def_explain.specs.Logic.{on_value, one_is_no_boolean}
use Rattle.tn_spec.specs.Views.{exprs_seen}
use Rattle.tn_action.specs.EvalContexts.{all_in}
use Rattle.tn_action.specs.Steps.{effect_list_seen}
use Rattle.tn_difference.specs.Logic.{HasMoreEffects, has_other_value}
use Rattle.tn_difference.proofs.logic.has_other_value.Given as goal

abbrev pub invariant-loop-i : goal.invariant-loop-i
invariant-loop-i g l = record {
  answer : on_value (all_in l.scene (exprs_seen (drop l.i l.exprs.items)) (effect_list_seen l.effects)) (λ ts y. l.found || one_is_no_boolean ts) ≡ has_other_value l.scene l.exprs l.initial.effects;
  effects : HasMoreEffects l.initial.effects l.effects;
}
