use Rattle.complete_command.proofs.SameJobs.{within_has_one}
use Rattle.complete_command.proofs.jobs.within.Goals as goal

pub perform_over-requires-clause-answer : goal.perform_over-requires-clause-answer
perform_over-requires-clause-answer g c = within_has_one c.args.job.now.most (g.J.Job.view c.args.job.now.job.now) c.requires.answer
