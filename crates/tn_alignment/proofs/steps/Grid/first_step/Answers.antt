use Rattle.std.proofs.Common.{arith}
use Rattle.tn_alignment.specs.Tables.{line_texts}
use Rattle.tn_alignment.proofs.Walks.{leads_first, no_first_step}
use Rattle.tn_alignment.proofs.steps.Grid.first_step.Goals as goal
use Rattle.tn_alignment.proofs.steps.Grid.first_step.Goals.{else-first-gt0-via-then-first-gt0+else-cell, else-first-gt0-via-else-first-gt0}

pub returns-then-cell-clause-some : goal.returns-then-cell-clause-some
returns-then-cell-clause-some g c =
    leads_first (line_texts c.args.self.now.first.now) (line_texts c.args.self.now.second.now) c.args.left.first c.args.left.second
    (omega arith) c.requires.left.of_first c.requires.left.of_second (omega (arith, c.cell.ensures.cell, c.cell-then-first-gt0.ensures.cell))

pub returns-else-first-gt0-clause-none : goal.returns-else-first-gt0-clause-none
returns-else-first-gt0-clause-none g c =
    no_first_step (line_texts c.args.self.now.first.now) (line_texts c.args.self.now.second.now) c.args.left.first c.args.left.second c.requires.left.of_first
    (λ pos q. elim c.else-first-gt0.branch [
      | else-first-gt0-via-then-first-gt0+else-cell w ↦ omega (arith, w.cell.ensures.cell, w.cell-then-first-gt0.ensures.cell, q)
      | else-first-gt0-via-else-first-gt0 w ↦ omega arith
    ])
