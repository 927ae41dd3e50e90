use Rattle.std.proofs.Common.{◌∙◌, sym, ap}
use Rattle.std.specs.Option.{option_map}
use Rattle.def_term.specs.Tree.{tuple}
use Rattle.def_spec.specs.Expressions.{caller_term}
use Rattle.tn_term.specs.Views.{mfa_seen}
use Rattle.tn_guard.specs.Views.{values_seen}
use Rattle.tn_guard.proofs.Views.{value_seen_tuple}
use Rattle.tn_action.proofs.Steps.{mfa_values}
use Rattle.tn_action.proofs.eval_context.EvalContext.caller.Goals as goal

pub returns : goal.returns
returns g c =
    value_seen_tuple _ ∙ ap (λ vs. tuple (values_seen vs)) c.in_ok-try_alloc_slice_copy.ensures
    ∙ mfa_values _ _ _ (mfa_seen c.in-Some.mfa.now) c.name_value.ensures c.name_value-2.ensures c.arity_value.ensures
    ∙ sym (ap (λ m. caller_term (option_map (λ f. mfa_seen f.now) m)) c.in-Some.is)
