use Rattle.std.proofs.Common.{◌∙◌, ◌&&◌, ◌||◌, map}
use Rattle.def_script.specs.Exports.{exports_of}
use Rattle.def_run.specs.Run.{event_item}
use Rattle.def_explain.specs.RunTexts.{is_move}
use Rattle.def_running_node.specs.NodeComparisons.{comparison_after}
use Rattle.tn_flags.specs.Views.{event_of}
use Rattle.tn_node.specs.Outlooks.{outlook_seen}
use Rattle.tn_program.specs.Views.{program_of}
use Rattle.tn_text.proofs.Growth.{grows_on}
use Rattle.tn_explain.specs.Filters.{selection_seen}
use Rattle.tn_explain.proofs.NodeMoveTexts.{grown_or_left, node_move_explained}
use Rattle.tn_explain.proofs.node_explainer.NodeExplainerObserver.see.Goals as goal

pub returns-clause-ok : goal.returns-clause-ok
returns-clause-ok g c = λ picks seen ahead next.
    let p = program_of c.args.program.now in
    let a = selection_seen c.args.self.now.explainer.selection in
    let made = c.in_ok-kinds.ensures.ok (exports_of p) (comparison_after a.session p picks) seen.compared in
    node_move_explained p picks c.args.entry (map event_item (map event_of c.args.events.now.items)) (outlook_seen c.args.sight) c.in_ok-kinds.kinds c.len-length.result c.args.self.now (record c.args.self.now { explainer = c.see.new.self; comparison = c.see_move.new.self }) c.args.out.now c.see.new.out c.see_move.new.out c.leave_out.new.out
    next (c.len-length.ensures ∙ c.args.out.now.ok.0) ahead (c.in_ok-see.ensures.ok picks seen.explained ahead next) made c.leave_out.ensures

pub returns-clause-reaches : goal.returns-clause-reaches
returns-clause-reaches g c =
    let kinds = c.in_ok-kinds.kinds in
    grown_or_left ((kinds.differs || kinds.is_open) && is_move (selection_seen c.see.new.self.selection).move c.args.entry.number) c.len-length.result c.args.out.now.items c.see_move.new.out.items c.leave_out.new.out.items (c.len-length.ensures ∙ c.args.out.now.ok.0)
    (grows_on c.see.ensures.reaches c.see_move.ensures.grows) c.leave_out.ensures
