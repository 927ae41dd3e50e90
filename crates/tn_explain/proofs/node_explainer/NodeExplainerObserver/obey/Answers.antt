use Rattle.std.proofs.Common.{◌∙◌, ◌&&◌, ◌||◌, [], ◌∷◌, refl, sym, ap}
use Rattle.def_script.specs.Exports.{exports_of, visible}
use Rattle.def_run.specs.Run.{command_item}
use Rattle.def_explain.specs.RunTexts.{is_move}
use Rattle.def_running_node.specs.NodeComparisons.{comparison_after}
use Rattle.tn_flags.specs.Views.{command_of}
use Rattle.tn_program.specs.Views.{program_of}
use Rattle.tn_text.proofs.Growth.{grows_on}
use Rattle.tn_running_node.specs.NodeMoves.{outlook_after}
use Rattle.tn_explain.specs.Filters.{selection_seen}
use Rattle.tn_explain.proofs.NodeMoveTexts.{grown_or_left, node_move_explained}
use Rattle.tn_explain.proofs.node_explainer.NodeExplainerObserver.obey.Goals as goal

pub returns-clause-ok : goal.returns-clause-ok
returns-clause-ok g c = λ picks seen next.
    let p = program_of c.args.program.now in
    let l = outlook_after p picks c.args.entry.pick in
    let a = selection_seen c.args.self.now.explainer.selection in
    let made = c.in_ok-kinds.ensures.ok (exports_of p) l (comparison_after a.session p picks) (sym (ap visible c.functions-functions.ensures)) seen.compared in
    node_move_explained p picks c.args.entry (command_item (command_of c.args.command.now) ∷ []) l c.in_ok-kinds.kinds c.len-length.result c.args.self.now (record c.args.self.now { explainer = c.obey.new.self; comparison = c.obey-2.new.self }) c.args.out.now c.obey.new.out c.obey-2.new.out c.leave_out.new.out
    next.move (c.len-length.ensures ∙ c.args.out.now.ok.0) refl (c.in_ok-obey.ensures.ok picks seen.explained next) made c.leave_out.ensures

pub returns-clause-reaches : goal.returns-clause-reaches
returns-clause-reaches g c =
    let kinds = c.in_ok-kinds.kinds in
    grown_or_left ((kinds.differs || kinds.is_open) && is_move (selection_seen c.obey.new.self.selection).move c.args.entry.number) c.len-length.result c.args.out.now.items c.obey-2.new.out.items c.leave_out.new.out.items (c.len-length.ensures ∙ c.args.out.now.ok.0)
    (grows_on c.obey.ensures.reaches c.obey-2.ensures.grows) c.leave_out.ensures
