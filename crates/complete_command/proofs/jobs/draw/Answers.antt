use Rattle.complete_command.proofs.SameJobs.{drawing_has_one}
use Rattle.complete_command.proofs.jobs.draw.Goals as goal

pub perform_over-requires-clause-answer : goal.perform_over-requires-clause-answer
perform_over-requires-clause-answer g c = drawing_has_one c.args.request.now
