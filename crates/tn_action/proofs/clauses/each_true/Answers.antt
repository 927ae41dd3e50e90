use Rattle.std.proofs.Common.{◌∙◌, sym, ap}
use Rattle.std.specs.Option.{option_map}
use Rattle.def_spec.specs.Expressions.{is_true_value}
use Rattle.tn_guard.specs.Views.{value_seen}
use Rattle.tn_head.specs.Views.{bindings_seen}
use Rattle.tn_spec.specs.Views.{dialect_of, exprs_seen}
use Rattle.tn_action.specs.Steps.{effect_list_seen}
use Rattle.tn_action.specs.Views.{context_seen}
use Rattle.tn_action.proofs.Steps.{each_true_from}
use Rattle.tn_action.proofs.clauses.each_true.Goals as goal

pub returns-in-Some : goal.returns-in-Some
returns-in-Some g c =
    let s = c.args.scene.now in
    c.is_true.ensures ∙ sym (ap (λ v. is_true_value (option_map value_seen v)) c.in-Some.is)
    ∙ each_true_from (dialect_of s.dialect) (bindings_seen s.bindings.now) (context_seen s.context.now) (exprs_seen c.args.conditions.now.items) (option_map value_seen c.in_ok-last.field-0) (effect_list_seen c.new-effects.result) (effect_list_seen c.all_in_turn.new.effects) c.in_ok-last.ensures

pub returns : goal.returns
returns g c =
    let s = c.args.scene.now in
    sym (ap (λ v. is_true_value (option_map value_seen v)) c.in-None.is)
    ∙ each_true_from (dialect_of s.dialect) (bindings_seen s.bindings.now) (context_seen s.context.now) (exprs_seen c.args.conditions.now.items) (option_map value_seen c.in_ok-last.field-0) (effect_list_seen c.new-effects.result) (effect_list_seen c.all_in_turn.new.effects) c.in_ok-last.ensures
