use Rattle.std.proofs.Common.{[], ◌∷◌, None, refl, sym, ap}
use Rattle.def_script.specs.Exports.{exports_of, visible}
use Rattle.def_run.specs.Run.{command_item}
use Rattle.def_running_node.specs.NodeComparisons.{comparison_after}
use Rattle.tn_flags.specs.Views.{command_of}
use Rattle.tn_program.specs.Views.{program_of}
use Rattle.tn_running_node.specs.NodeMoves.{outlook_after}
use Rattle.tn_running_node.proofs.MovesThatDiffer.{move_compared}
use Rattle.tn_running_node.proofs.node_moves.NodeMovesObserver.obey.Goals as goal

pub returns-clause-ok : goal.returns-clause-ok
returns-clause-ok g c = λ picks seen next.
    let p = program_of c.args.program.now in
    let l = outlook_after p picks c.args.entry.pick in
    let made = c.in_ok-kinds.ensures.ok (exports_of p) l (comparison_after None p picks) (sym (ap visible c.functions.ensures)) seen in
    move_compared p picks c.args.entry (command_item (command_of c.args.command.now) ∷ []) l c.in_ok-kinds.kinds c.args.self.now (record c.args.self.now { comparison = c.obey.new.self }) c.new-text.result c.obey.new.out c.args.out.now c.push.new.self next.move refl made c.in_ok-push.ensures.items
