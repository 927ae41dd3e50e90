use Rattle.std.proofs.Common.{◌∙◌, sym, ap, map}
use Rattle.std.specs.Option.{option_map}
use Rattle.def_spec.specs.Expressions.{is_true_value}
use Rattle.tn_guard.specs.Views.{value_seen}
use Rattle.tn_head.specs.Views.{bindings_seen}
use Rattle.tn_spec.specs.Views.{dialect_of, expr_seen}
use Rattle.tn_action.specs.Steps.{effect_list_seen}
use Rattle.tn_action.specs.Views.{context_seen, effect_seen}
use Rattle.tn_running_node.proofs.FiringClauses.{value_of_condition}
use Rattle.tn_running_node.proofs.firing_bindings.holds.Goals as goal

pub returns-in-Some : goal.returns-in-Some
returns-in-Some g c =
    let s = c.args.scene.now in
    let o = option_map value_seen c.in_ok-value.field-0 in
    c.is_true.ensures ∙ sym (ap (λ v. is_true_value (option_map value_seen v)) c.in-Some.is)
    ∙ ap is_true_value (value_of_condition (dialect_of s.dialect) (context_seen s.context.now) (bindings_seen s.bindings.now) (expr_seen c.args.condition.now) o (effect_list_seen c.value.new.effects) (effect_list_seen c.new-effects.result) c.in_ok-value.ensures (ap (map effect_seen) c.new-effects.ensures.items))

pub returns : goal.returns
returns g c =
    let s = c.args.scene.now in
    let o = option_map value_seen c.in_ok-value.field-0 in
    sym (ap (λ v. is_true_value (option_map value_seen v)) c.in-None.is)
    ∙ ap is_true_value (value_of_condition (dialect_of s.dialect) (context_seen s.context.now) (bindings_seen s.bindings.now) (expr_seen c.args.condition.now) o (effect_list_seen c.value.new.effects) (effect_list_seen c.new-effects.result) c.in_ok-value.ensures (ap (map effect_seen) c.new-effects.ensures.items))
