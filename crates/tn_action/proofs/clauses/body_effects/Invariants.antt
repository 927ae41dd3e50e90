use Rattle.std.proofs.Common.{◌≡◌, drop}
use Rattle.def_spec.specs.Expressions.{its_effects}
use Rattle.tn_spec.specs.Views.{exprs_seen}
use Rattle.tn_action.specs.EvalContexts.{all_in, body_effects_in}
use Rattle.tn_action.specs.Steps.{effect_list_seen}
use Rattle.tn_action.proofs.clauses.body_effects.Given as goal

abbrev pub invariant-loop-i : goal.invariant-loop-i
invariant-loop-i g l = its_effects (all_in l.in_body (exprs_seen (drop l.i l.body.items)) (effect_list_seen l.effects)) ≡ body_effects_in l.in_body (exprs_seen l.body.items)
