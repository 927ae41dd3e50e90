use Rattle.std.proofs.Common.{ap, ◌∙◌}
use Rattle.def_term.specs.Tree.{list, of_elements}
use Rattle.tn_term.proofs.Views.{tree_of_list}
use Rattle.tn_translation.proofs.tails.joined_list.Goals as goal

pub returns : goal.returns
returns g c = tree_of_list c.in_ok-with_tail.field-0 ∙ ap (λ l. list (of_elements l)) c.in_ok-with_tail.ensures
