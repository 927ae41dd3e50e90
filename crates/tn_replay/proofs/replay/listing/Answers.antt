use Rattle.tn_program.specs.Views.{program_of}
use Rattle.tn_moves.specs.Plans.{plan_picks}
use Rattle.tn_run.proofs.LongRuns.{long_before}
use Rattle.tn_replay.proofs.replay.listing.Goals as goal

pub returns-clause-listed : goal.returns-clause-listed
returns-clause-listed g c =
    let picks = plan_picks (program_of c.args.program.now) c.args.plan.now in
    let is = c.in_ok-transcript.ensures.run in
    (c.in-Ok-transcript_output.ensures picks is, c.in-Ok.ensures picks is)

pub returns-in_err-transcript-clause-long : goal.returns-in_err-transcript-clause-long
returns-in_err-transcript-clause-long g c = λ is. c.in_err-transcript.ensures.long (long_before c.in_err-transcript.field-0.0 c.from_residual.result c.from_residual.ensures.1 is)
