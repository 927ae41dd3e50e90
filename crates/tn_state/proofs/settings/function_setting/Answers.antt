use Rattle.std.proofs.Common.{◌≡◌, ◌∙◌, ◌&&◌, ◌||◌, Some, true, false, sym, ap}
use Rattle.std.specs.Option.{option_map}
use Rattle.std.proofs.lemmas.Result.{IfOk-weaker}
use Rattle.def_session.specs.Settings.{options_of, trace_pattern_of}
use Rattle.tn_index.specs.Views.{function_pattern_seen}
use Rattle.tn_term.specs.Views.{mfa_seen, tree_of}
use Rattle.tn_state.proofs.NewSettingLemmas.{no_options, no_pattern, set_where}
use Rattle.tn_state.proofs.settings.function_setting.Goals as goal

pub returns-in_default : goal.returns-in_default
returns-in_default g c =
    no_pattern (mfa_seen c.args.mfa.now) c.args.exported (tree_of c.args.specification.now) (trace_pattern_of (tree_of c.args.pattern.now)) (options_of (tree_of c.args.options.now))
    (sym (ap (option_map function_pattern_seen) c.in_default.is) ∙ c.in_ok-covered.ensures)

pub returns-in_default-options_of : goal.returns-in_default-options_of
returns-in_default-options_of g c =
    no_options (mfa_seen c.args.mfa.now) c.args.exported (tree_of c.args.specification.now) (trace_pattern_of (tree_of c.args.pattern.now)) (options_of (tree_of c.args.options.now))
    (sym c.in_default-options_of.is ∙ c.options_of.ensures)

pub returns-then-not-has_function : goal.returns-then-not-has_function
returns-then-not-has_function g c =
    let covered = function_pattern_seen c.in-Some.covered in
    let local = c.in-Some-options_of.local in
    let pattern : Some covered ≡ trace_pattern_of (tree_of c.args.pattern.now) = sym (ap (option_map function_pattern_seen) c.in-Some.is) ∙ c.in_ok-covered.ensures in
    let options : Some local ≡ options_of (tree_of c.args.options.now) = sym c.in-Some-options_of.is ∙ c.options_of.ensures in
    set_where (mfa_seen c.args.mfa.now) c.args.exported (tree_of c.args.specification.now) (trace_pattern_of (tree_of c.args.pattern.now)) (options_of (tree_of c.args.options.now)) covered local false pattern options
    (sym c.if-not-has_function.true ∙ c.has_function.ensures ∙ ap (λ b. b && (local || c.args.exported)) c.has.ensures)

pub returns : goal.returns
returns g c =
    let covered = function_pattern_seen c.in-Some.covered in
    let local = c.in-Some-options_of.local in
    let pattern : Some covered ≡ trace_pattern_of (tree_of c.args.pattern.now) = sym (ap (option_map function_pattern_seen) c.in-Some.is) ∙ c.in_ok-covered.ensures in
    let options : Some local ≡ options_of (tree_of c.args.options.now) = sym c.in-Some-options_of.is ∙ c.options_of.ensures in
    IfOk-weaker c.new_setting.result _ _
    (λ r is. is ∙ set_where (mfa_seen c.args.mfa.now) c.args.exported (tree_of c.args.specification.now) (trace_pattern_of (tree_of c.args.pattern.now)) (options_of (tree_of c.args.options.now)) covered local true pattern options
    (sym c.if-not-has_function.false ∙ c.has_function.ensures ∙ ap (λ b. b && (local || c.args.exported)) c.has.ensures))
    c.new_setting.ensures
