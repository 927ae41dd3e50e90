use Rattle.tn_program.specs.Views.{program_of}
use Rattle.tn_moves.specs.Plans.{plan_picks}
use Rattle.tn_run.proofs.LongRuns.{long_before}
use Rattle.tn_run.proofs.runs.plan_output.Goals as goal

pub returns-in-Ok-clause-output : goal.returns-in-Ok-clause-output
returns-in-Ok-clause-output g c =
    let p = program_of c.args.program.now in
    c.in-Ok.ensures (plan_picks p c.args.plan.now) c.in_ok-transcript.ensures.run

pub returns-in_err-transcript-clause-long : goal.returns-in_err-transcript-clause-long
returns-in_err-transcript-clause-long g c = λ is. c.in_err-transcript.ensures.long (long_before c.in_err-transcript.field-0.0 c.from_residual.result c.from_residual.ensures.1 is)
