use Rattle.std.proofs.Common.{subst}
use Rattle.tn_program.specs.Views.{program_of}
use Rattle.tn_replay.specs.Notes.{replay_by}
use Rattle.tn_run.specs.Jobs.{IsAnswerWithin}
use Rattle.tn_request.proofs.TaskLemmas.{lists_more}
use Rattle.tn_request.proofs.job.replay_within.Goals as goal

pub returns-in-Ok-None-clause-given : goal.returns-in-Ok-None-clause-given
returns-in-Ok-None-clause-given g c =
    let p = program_of c.args.program.now in
    lists_more c.args.most c.args.job.now p
    (subst (IsAnswerWithin c.args.most (replay_by c.args.job.now) p) c.in-Ok-None.field-0-is c.in-Ok-None.ensures.given)
