use Rattle.std.proofs.Common.{◌≡◌}
use Rattle.complete_running_node.proofs.Both.{if_both}
use Rattle.complete_running_node.proofs.SameMoves.{command_kinds, command_text, command_after}
use Rattle.complete_running_node.proofs.comparison.obey.Goals as goal

pub returns-clause-kinds : goal.returns-clause-kinds
returns-clause-kinds g c =
    if_both c.obey.result c.obey-2.result _ _ (λ k m. k ≡ m) (λ k m h i. command_kinds _ _ c.args.command_move.command.now _ _ _ _ _ _ _ _ c.requires.comparisons k m h i) c.obey.ensures.ok c.obey-2.ensures.ok

pub returns-clause-lines : goal.returns-clause-lines
returns-clause-lines g c =
    if_both c.obey.result c.obey-2.result _ _ _ (λ k m h i. command_text _ _ c.args.command_move.command.now _ _ _ _ _ _ _ _ c.requires.comparisons c.requires.texts k m h i) c.obey.ensures.ok c.obey-2.ensures.ok

pub returns-clause-after : goal.returns-clause-after
returns-clause-after g c =
    if_both c.obey.result c.obey-2.result _ _ _ (λ k m h i. command_after _ _ c.args.command_move.command.now _ _ _ _ _ _ _ _ c.requires.comparisons k m h i) c.obey.ensures.ok c.obey-2.ensures.ok
