use Rattle.std.proofs.Common.{[]}
use Rattle.tn_program.specs.Views.{program_of}
use Rattle.tn_trace.proofs.Passes.{first_followed}
use Rattle.tn_running_node.specs.NodeMoves.{HasComparedMoves}
use Rattle.tn_running_node.proofs.MovesThatDiffer.{run_compared}
use Rattle.tn_running_node.proofs.node_moves.moves_that_differ.Goals as goal

pub returns : goal.returns
returns g c =
    let p = program_of c.args.program.now in
    let r = c.in_ok-run.run' in
    run_compared p c.args.picks.now r.observer c.take_all.new.self.observer c.new-differs.result c.take_all.new.out
    (c.in_ok-take_all.ensures.adds 65536 [] (first_followed HasComparedMoves p 65536 r (c.in_ok-run.ensures.start c.in_ok-comparison.ensures))) c.new-differs.ensures.items
