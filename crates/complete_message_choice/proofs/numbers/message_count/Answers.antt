use Rattle.std.proofs.Common.{◌≡◌}
use Rattle.tn_program.specs.Views.{program_of}
use Rattle.tn_moves.specs.Plans.{plan_picks}
use Rattle.complete_message_choice.proofs.Both.{if_both}
use Rattle.complete_message_choice.proofs.Counts.{one_count}
use Rattle.complete_message_choice.proofs.numbers.message_count.Goals as goal

pub returns : goal.returns
returns g c =
    let p = program_of c.args.program.now in
    if_both c.message_count.result c.message_count-2.result _ _ (λ m n. m ≡ n) (one_count c.args.session.now p (plan_picks p c.args.plan.now)) c.message_count.ensures c.message_count-2.ensures
