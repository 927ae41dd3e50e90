use Rattle.std.proofs.Common.{◌∙◌, ap}
use Rattle.def_term.specs.Tree.{list}
use Rattle.tn_guard.specs.Views.{values_seen}
use Rattle.tn_guard.proofs.Views.{value_seen_list}
use Rattle.tn_action.proofs.eval_context.list_of_one.Goals as goal

pub returns : goal.returns
returns g c = value_seen_list _ ∙ ap (λ vs. list (values_seen vs)) c.in_ok-try_alloc_slice_copy.ensures
