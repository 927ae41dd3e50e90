use Rattle.tn_program.specs.Views.{program_of}
use Rattle.tn_moves.specs.Plans.{plan_picks}
use Rattle.tn_replay.proofs.LongRuns.{longer_replay, listed_replay}
use Rattle.tn_replay.proofs.replay.outcome_of.Goals as goal

pub returns-in-Ok-clause-listed : goal.returns-in-Ok-clause-listed
returns-in-Ok-clause-listed g c =
    let p = program_of c.args.program.now in
    listed_replay c.args.job.now p (plan_picks p c.in-Ok.plan) c.listing.result c.in-Ok.ensures c.listing.ensures.listed

pub returns-in-Ok-clause-long : goal.returns-in-Ok-clause-long
returns-in-Ok-clause-long g c = λ is.
    let p = program_of c.args.program.now in
    longer_replay c.args.most c.args.job.now p (plan_picks p c.in-Ok.plan) c.in-Ok.ensures (c.listing.ensures.long is)
