use Rattle.std.proofs.Common.{◌∙◌, ◌++◌, ap}
use Rattle.def_message_choice.specs.ChosenAccounts.{chosen_account_text}
use Rattle.tn_program.specs.Views.{program_of}
use Rattle.tn_moves.specs.Plans.{plan_picks}
use Rattle.tn_moves.proofs.Drives.{all_added}
use Rattle.tn_message_choice.specs.Choices.{choice_seen}
use Rattle.tn_explain.specs.Filters.{selection_seen}
use Rattle.tn_explain.specs.Explainers.{AddsChosenExplanation}
use Rattle.tn_explain.specs.declared.message_explainer.MessageExplainer.{MessageExplainer}
use Rattle.tn_explain.proofs.ChosenMoveTexts.{run_chosen_explained}
use Rattle.tn_explain.proofs.account.put_chosen_moves.Goals as goal

pub drive-requires : goal.drive-requires
drive-requires g c = record { start = record { explained = c.in_ok-explainer.ensures.explained; choosers = c.in_ok-choosers.ensures } }

pub returns : goal.returns
returns g c =
    let p = program_of c.args.program.now in
    let picks = plan_picks p c.args.plan.now in
    let observer : MessageExplainer _ = record { explainer = c.in_ok-explainer.explainer; choice = c.args.choice; choosers = c.in_ok-choosers.choosers } in
    let r = c.in_ok-drive.field-0 in
    let before = c.args.out.now in
    run_chosen_explained p picks observer r.observer before c.drive.new.out (all_added AddsChosenExplanation p picks observer r.observer before c.drive.new.out c.in_ok-drive.ensures.driven.added)
    ∙ ap (λ f. before.items ++ chosen_account_text (choice_seen c.args.choice) (selection_seen f) p picks) c.in_ok-explainer.ensures.selection
