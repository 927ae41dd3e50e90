use Rattle.std.proofs.Common.{◌≡◌}
use Rattle.complete_running_node.proofs.Both.{if_both}
use Rattle.complete_running_node.proofs.SameMoves.{step_kinds, step_text, step_after}
use Rattle.complete_running_node.proofs.comparison.see_move.Goals as goal

pub returns-clause-kinds : goal.returns-clause-kinds
returns-clause-kinds g c =
    if_both c.see_move.result c.see_move-2.result _ _ (λ k m. k ≡ m) (λ k m h i. step_kinds _ _ _ _ _ _ _ _ _ _ _ c.requires.comparisons k m h i) c.see_move.ensures.ok c.see_move-2.ensures.ok

pub returns-clause-lines : goal.returns-clause-lines
returns-clause-lines g c =
    if_both c.see_move.result c.see_move-2.result _ _ _ (λ k m h i. step_text _ _ _ _ _ _ _ _ _ _ _ c.requires.comparisons c.requires.texts k m h i) c.see_move.ensures.ok c.see_move-2.ensures.ok

pub returns-clause-after : goal.returns-clause-after
returns-clause-after g c =
    if_both c.see_move.result c.see_move-2.result _ _ _ (λ k m h i. step_after _ _ _ _ _ _ _ _ _ _ _ c.requires.comparisons k m h i) c.see_move.ensures.ok c.see_move-2.ensures.ok
