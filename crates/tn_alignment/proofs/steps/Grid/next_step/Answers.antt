use Rattle.std.proofs.Common.{arith}
use Rattle.tn_alignment.specs.Tables.{line_texts}
use Rattle.tn_alignment.proofs.Walks.{leads_rest, some_left}
use Rattle.tn_alignment.proofs.steps.Grid.next_step.Goals as goal

pub overflow_sub-rest : goal.overflow_sub-rest
overflow_sub-rest g c =
    omega (
      arith,
      some_left (line_texts c.args.self.now.first.now) (line_texts c.args.self.now.second.now) c.args.left.first c.args.left.second
          c.requires.left.of_first c.requires.some c.in_default-first_step.ensures.none,
    )

pub returns : goal.returns
returns g c =
    leads_rest (line_texts c.args.self.now.first.now) (line_texts c.args.self.now.second.now) c.args.left.first c.args.left.second
    c.requires.left.of_first c.requires.left.of_second c.requires.some c.in_default.ensures.none c.in_default-first_step.ensures.none
