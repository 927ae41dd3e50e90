use Rattle.std.proofs.Common.{None, map}
use Rattle.def_script.specs.Exports.{exports_of}
use Rattle.def_run.specs.Run.{event_item}
use Rattle.def_running_node.specs.NodeComparisons.{comparison_after}
use Rattle.tn_flags.specs.Views.{event_of}
use Rattle.tn_node.specs.Outlooks.{outlook_seen}
use Rattle.tn_program.specs.Views.{program_of}
use Rattle.tn_running_node.proofs.MovesThatDiffer.{move_compared}
use Rattle.tn_running_node.proofs.node_moves.NodeMovesObserver.see.Goals as goal

pub returns-clause-ok : goal.returns-clause-ok
returns-clause-ok g c = λ picks seen ahead next.
    let p = program_of c.args._program.now in
    let made = c.in_ok-kinds.ensures.ok (exports_of p) (comparison_after None p picks) seen in
    move_compared p picks c.args.entry (map event_item (map event_of c.args.events.now.items)) (outlook_seen c.args.sight) c.in_ok-kinds.kinds c.args.self.now (record c.args.self.now { comparison = c.see_move.new.self }) c.new-text.result c.see_move.new.out c.args.out.now c.push.new.self next ahead made c.in_ok-push.ensures.items
