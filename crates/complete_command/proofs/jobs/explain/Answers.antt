use Rattle.complete_command.proofs.SameJobs.{explanation_has_one}
use Rattle.complete_command.proofs.jobs.explain.Goals as goal

pub perform_over-requires-clause-answer : goal.perform_over-requires-clause-answer
perform_over-requires-clause-answer g c = explanation_has_one c.args.request.now
