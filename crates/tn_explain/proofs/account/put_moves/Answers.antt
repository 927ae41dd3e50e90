use Rattle.std.proofs.Common.{◌∙◌, ◌++◌, ap}
use Rattle.def_explain.specs.RunTexts.{account_text}
use Rattle.tn_program.specs.Views.{program_of}
use Rattle.tn_moves.specs.Plans.{plan_picks}
use Rattle.tn_moves.proofs.Drives.{all_added}
use Rattle.tn_explain.specs.Filters.{selection_seen}
use Rattle.tn_explain.specs.Explainers.{AddsExplanation}
use Rattle.tn_explain.proofs.Picks.{run_explained}
use Rattle.tn_explain.proofs.account.put_moves.Goals as goal

pub returns-clause-ok : goal.returns-clause-ok
returns-clause-ok g c =
    let p = program_of c.args.program.now in
    let picks = plan_picks p c.args.plan.now in
    let explainer = c.in_ok-explainer.explainer in
    let r = c.in_ok-drive.field-0 in
    let before = c.args.out.now in
    run_explained p picks explainer r.observer before c.drive.new.out (all_added AddsExplanation p picks explainer r.observer before c.drive.new.out c.in_ok-drive.ensures.driven.added)
    ∙ ap (λ f. before.items ++ account_text (selection_seen f) p picks) c.in_ok-explainer.ensures.selection
