use Rattle.std.proofs.Common.{ap}
use Rattle.tn_program.specs.Views.{program_of}
use Rattle.tn_trace.specs.Transcripts.{transcript_of, listing_bytes}
use Rattle.tn_moves.specs.Plans.{plan_picks}
use Rattle.complete_runs.proofs.Within.{agree_within}
use Rattle.complete_command.proofs.moves.transcript_of_plan.Goals as goal

pub returns : goal.returns
returns g c =
    let p = program_of c.args.first.now in
    let q = program_of c.args.second.now in
    let plan = c.args.plan.now in
    let one = c.transcript_of_plan.ensures in
    let other = c.transcript_of_plan-2.ensures in
    agree_within (λ t. t) (transcript_of p (plan_picks p plan)) (transcript_of q (plan_picks q plan)) (listing_bytes p (plan_picks p plan)) (listing_bytes q (plan_picks q plan)) c.args.most c.transcript_of_plan.result c.transcript_of_plan-2.result
    (ap (λ r. transcript_of r (plan_picks r plan)) c.requires) (ap (λ r. listing_bytes r (plan_picks r plan)) c.requires)
    (record { run = one.run; within = one.within; long = one.long }) (record { run = other.run; within = other.within; long = other.long })
