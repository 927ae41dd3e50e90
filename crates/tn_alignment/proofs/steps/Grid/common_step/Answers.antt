use Rattle.std.proofs.Common.{arith}
use Rattle.tn_alignment.specs.Tables.{line_texts}
use Rattle.tn_alignment.proofs.Walks.{leads_both, no_common_step}
use Rattle.tn_alignment.proofs.steps.Grid.common_step.Goals as goal

pub returns-then-not-is_same-clause-none : goal.returns-then-not-is_same-clause-none
returns-then-not-is_same-clause-none g c =
    no_common_step (line_texts c.args.self.now.first.now) (line_texts c.args.self.now.second.now) c.args.left.first c.args.left.second
    c.requires.left.of_first c.requires.left.of_second (λ p q same r. cc)

pub returns-then-cell-clause-some : goal.returns-then-cell-clause-some
returns-then-cell-clause-some g c =
    leads_both (line_texts c.args.self.now.first.now) (line_texts c.args.self.now.second.now) c.args.left.first c.args.left.second
    (omega arith) c.requires.left.of_first (omega arith) c.requires.left.of_second (cc) (omega (arith, c.cell.ensures.cell, c.cell-2.ensures.cell))
