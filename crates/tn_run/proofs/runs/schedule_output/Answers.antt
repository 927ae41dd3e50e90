use Rattle.tn_program.specs.Views.{program_of}
use Rattle.tn_moves.specs.Plans.{plan_picks}
use Rattle.tn_run.proofs.LongRuns.{long_before, longer_run}
use Rattle.tn_run.proofs.runs.schedule_output.Goals as goal

pub returns-in_ok-plan_output-in-Ok-clause-listed : goal.returns-in_ok-plan_output-in-Ok-clause-listed
returns-in_ok-plan_output-in-Ok-clause-listed g c = record {
  picks = plan_picks (program_of c.args.program.now) c.in-Ok.plan;
  given = c.in-Ok.ensures;
  listing = c.in_ok-plan_output-in-Ok.ensures.output;
}

pub returns-in_err-plan_output-in-Ok-clause-long : goal.returns-in_err-plan_output-in-Ok-clause-long
returns-in_err-plan_output-in-Ok-clause-long g c = λ is.
    let p = program_of c.args.program.now in
    longer_run c.args.most c.args.schedule.now p (plan_picks p c.in-Ok.plan) c.in-Ok.ensures
    (c.in_err-plan_output-in-Ok.ensures.long (long_before c.in_err-plan_output-in-Ok.field-0.0 c.from_residual.result c.from_residual.ensures.1 is))
