use Rattle.complete_command.proofs.SameJobs.{state_has_one}
use Rattle.complete_command.proofs.jobs.state.Goals as goal

pub perform_over-requires-clause-answer : goal.perform_over-requires-clause-answer
perform_over-requires-clause-answer g c = state_has_one c.args.request.now
