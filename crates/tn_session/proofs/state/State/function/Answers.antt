use Rattle.std.proofs.Common.{◌∙◌, sym, ap}
use Rattle.std.specs.Option.{option_map}
use Rattle.def_session.specs.Settings.{trace_pattern_of}
use Rattle.def_session.specs.Commands.{function_set_if}
use Rattle.tn_term.specs.Views.{tree_of}
use Rattle.tn_index.specs.Views.{function_pattern_seen}
use Rattle.tn_session.specs.Views.{state_seen, setting_seen}
use Rattle.tn_session.specs.Replies.{opening_in}
use Rattle.tn_session.proofs.Commands.{options_refused, accepted}
use Rattle.tn_session.proofs.state.State.function.Goals as goal

pub returns-in_default-clause-done : goal.returns-in_default-clause-done
returns-in_default-clause-done g c = λ n.
    let s = c.args.self.now in
    let x = trace_pattern_of (tree_of c.args.functions.now) in
    ap (λ y. function_set_if (opening_in s n) (state_seen s) x y (tree_of c.args.specification.now)) (sym c.options_of.ensures ∙ c.in_default.is) ∙ options_refused (opening_in s n) (state_seen s) x (tree_of c.args.specification.now)

pub returns-in_ok-cover-in-Ok-clause-done : goal.returns-in_ok-cover-in-Ok-clause-done
returns-in_ok-cover-in-Ok-clause-done g c = λ n.
    let s = c.args.self.now in
    accepted (opening_in s n) (state_seen s) _ _ (tree_of c.args.specification.now) (function_pattern_seen c.in-Some-2.covered) c.in-Some.local (setting_seen c.in-Ok.setting)
    (sym (ap (option_map function_pattern_seen) c.in-Some-2.is) ∙ c.in_ok-covered.ensures) (sym c.in-Some.is ∙ c.options_of.ensures) c.in-Ok.ensures ∙ c.in_ok-cover-in-Ok.ensures.done n
