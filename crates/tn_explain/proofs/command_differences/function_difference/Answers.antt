use Rattle.std.proofs.Common.{◌≡◌, ◌∙◌, Some, sym, ap}
use Rattle.std.specs.Option.{option_map}
use Rattle.def_spec.specs.Expressions.{for_calls}
use Rattle.def_session.specs.Settings.{setting_of, trace_pattern_of, options_of}
use Rattle.def_explain.specs.CommandDifferences.{read_difference}
use Rattle.tn_term.specs.Views.{tree_of}
use Rattle.tn_index.specs.Views.{function_pattern_seen}
use Rattle.tn_session.specs.Looks.{look_seen}
use Rattle.tn_running_node.specs.Replies.{on_where_read}
use Rattle.tn_explain.proofs.CommandDifferences.{by_reading}
use Rattle.tn_explain.proofs.command_differences.function_difference.Goals as goal

pub returns : goal.returns
returns g c = λ o fs.
    let s = look_seen c.args.look.now in
    let r = setting_of for_calls (tree_of c.args.specification.now) in
    let covered = function_pattern_seen c.in-Some.covered in
    let local = c.in-Some-options_of.local in
    let pattern : Some covered ≡ trace_pattern_of (tree_of c.args.mfa.now) = sym (ap (option_map function_pattern_seen) c.in-Some.is) ∙ c.in_ok-covered.ensures in
    let options : Some local ≡ options_of (tree_of c.args.options.now) = sym c.in-Some-options_of.is ∙ c.options_of.ensures in
    let read : on_where_read r ≡ Some c.in-Some-2.on = sym c.in_ok-on.ensures ∙ c.in-Some-2.is in
    c.in_ok-pattern_difference.ensures o fs ∙ by_reading o s covered local r c.in-Some-2.on read
    ∙ ap (λ p. read_difference o s p (Some local) r) pattern ∙ ap (λ q. read_difference o s (trace_pattern_of (tree_of c.args.mfa.now)) q r) options
