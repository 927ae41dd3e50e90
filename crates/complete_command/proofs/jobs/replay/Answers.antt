use Rattle.complete_command.proofs.SameJobs.{replay_has_one}
use Rattle.complete_command.proofs.jobs.replay.Goals as goal

pub perform_over-requires-clause-answer : goal.perform_over-requires-clause-answer
perform_over-requires-clause-answer g c = replay_has_one c.args.job.now
