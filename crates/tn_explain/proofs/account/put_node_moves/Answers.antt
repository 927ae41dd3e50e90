use Rattle.std.proofs.Common.{◌∙◌, ◌++◌, sym, ap, subst}
use Rattle.def_script.specs.Exports.{exports_of}
use Rattle.def_running_node.specs.NodeComparisons.{comparison_at_start}
use Rattle.def_running_node.specs.NodeNotes.{node_account_text}
use Rattle.tn_program.specs.Views.{program_of}
use Rattle.tn_moves.specs.Plans.{plan_picks}
use Rattle.tn_moves.proofs.Drives.{all_added}
use Rattle.tn_running_node.specs.Comparisons.{IsComparison}
use Rattle.tn_explain.specs.Filters.{selection_seen}
use Rattle.tn_explain.specs.Explainers.{AddsNodeExplanation}
use Rattle.tn_explain.specs.declared.node_explainer.NodeExplainer.{NodeExplainer}
use Rattle.tn_explain.proofs.NodeMoveTexts.{run_node_explained}
use Rattle.tn_explain.proofs.account.put_node_moves.Goals as goal

pub drive-requires : goal.drive-requires
drive-requires g c =
    let p = program_of c.args.program.now in
    let same = c.in_ok-explainer.ensures.selection in
    let compared = subst (λ f. IsComparison (exports_of p) (comparison_at_start (selection_seen f).session p) c.in_ok-comparison.comparison) (sym same) c.in_ok-comparison.ensures in
    record { start = record { explained = c.in_ok-explainer.ensures.explained; compared = compared } }

pub returns-clause-ok : goal.returns-clause-ok
returns-clause-ok g c =
    let p = program_of c.args.program.now in
    let picks = plan_picks p c.args.plan.now in
    let observer : NodeExplainer _ = record { explainer = c.in_ok-explainer.explainer; comparison = c.in_ok-comparison.comparison } in
    let r = c.in_ok-drive.field-0 in
    let before = c.args.out.now in
    run_node_explained p picks observer r.observer before c.drive.new.out (all_added AddsNodeExplanation p picks observer r.observer before c.drive.new.out c.in_ok-drive.ensures.driven.added)
    ∙ ap (λ f. before.items ++ node_account_text (selection_seen f) p picks) c.in_ok-explainer.ensures.selection
