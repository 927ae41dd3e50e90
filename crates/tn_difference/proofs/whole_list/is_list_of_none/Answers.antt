use Rattle.std.proofs.Common.{◌∙◌, ◌==◌, sym, ap}
use Rattle.def_explain.specs.Differences.{is_list_of_none}
use Rattle.tn_spec.specs.Views.{head_seen}
use Rattle.tn_difference.proofs.EmptyLists.{without_patterns}
use Rattle.tn_difference.proofs.whole_list.is_list_of_none.Goals as goal

pub returns-in-List : goal.returns-in-List
returns-in-List g c =
    c.is_empty.ensures ∙ ap (λ n. n == 0) c.in-List.patterns.ok.0 ∙ without_patterns c.in-List.patterns.items ∙ sym (ap (λ h. is_list_of_none (head_seen h)) c.in-List.is)
