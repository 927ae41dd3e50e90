use Rattle.std.proofs.Common.{◌≡◌}
use Rattle.tn_program.specs.Views.{program_of}
use Rattle.tn_moves.specs.Plans.{plan_picks}
use Rattle.tn_explain.specs.Filters.{account_question_seen}
use Rattle.tn_explain.specs.Accounts.{IsAnswer}
use Rattle.complete_explain.proofs.OneExplanation.{one_answer}
use Rattle.complete_explain.proofs.OneNote.{if_both}
use Rattle.complete_explain.proofs.account.outcome.Goals as goal

pub returns : goal.returns
returns g c =
    let p = program_of c.args.of.program.now in
    let picks = plan_picks p c.args.of.plan.now in
    let a = account_question_seen c.args.of.filter c.args.of.message in
    if_both c.account_of.result c.account_of-2.result (λ r. IsAnswer p picks a r.0 r.1.items) (λ r. IsAnswer p picks a r.0 r.1.items) (λ x y. (x.0 ≡ y.0) × (x.1.items ≡ y.1.items))
    (λ x y h i. one_answer p picks a x.0 y.0 x.1.items y.1.items h i) c.account_of.ensures c.account_of-2.ensures
