use Rattle.std.proofs.Common.{refl, sym, subst}
use Rattle.tn_program.specs.Views.{program_of}
use Rattle.tn_run.specs.Jobs.{IsAnswerWithin}
use Rattle.tn_command.specs.JobForms.{IsFaultWithin}
use Rattle.tn_command.proofs.within_bytes.WithinBytesDirectJob.answer.Goals as goal

pub returns-in-Err-hold-clause-reason : goal.returns-in-Err-hold-clause-reason
returns-in-Err-hold-clause-reason g c =
    let view = g.J.Job.view c.args.self.now.job.now in
    let p = program_of c.args.program.now in
    let long = c.in-Err-hold.ensures.fault in
    let answer = subst (IsAnswerWithin c.args.self.now.most view p) c.in-Ok-Some.field-0-is c.in-Ok-Some.ensures.given in
    subst (IsFaultWithin c.args.self.now.most view p) (sym long.says)
    (c.in-Ok-Some.answer.0, c.in-Ok-Some.answer.1.items, answer.given, record { exceeds = long.exceeds; says = refl })
