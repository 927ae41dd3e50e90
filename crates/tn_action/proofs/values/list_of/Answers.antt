use Rattle.std.proofs.Common.{◌∙◌, sym, ap, Some}
use Rattle.def_term.specs.Tree.{list}
use Rattle.tn_guard.specs.Views.{values_seen}
use Rattle.tn_guard.proofs.Views.{value_seen_list}
use Rattle.tn_action.specs.Steps.{value_list_seen}
use Rattle.tn_action.proofs.values.list_of.Goals as goal

pub returns-in_ok-try_alloc_slice_copy-in-Some : goal.returns-in_ok-try_alloc_slice_copy-in-Some
returns-in_ok-try_alloc_slice_copy-in-Some g c =
    ap Some (value_seen_list _ ∙ ap (λ vs. list (values_seen vs)) (c.in_ok-try_alloc_slice_copy-in-Some.ensures ∙ c.as_slice.ensures))
    ∙ sym (ap value_list_seen c.in-Some.is)
