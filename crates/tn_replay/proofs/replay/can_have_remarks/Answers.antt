use Rattle.std.proofs.Common.{◌∙◌, sym}
use Rattle.std.proofs.lemmas.Result.{IfOk-weaker}
use Rattle.tn_program.specs.Views.{program_of}
use Rattle.tn_replay.proofs.Remarks.{quiet_run}
use Rattle.tn_replay.proofs.replay.can_have_remarks.Goals as goal

pub returns-then-has_reason_line : goal.returns-then-has_reason_line
returns-then-has_reason_line g c = λ picks is e. absurd (cc)

pub returns : goal.returns
returns g c = λ picks is.
    IfOk-weaker c.has_traps.result _ _
    (λ b has e. quiet_run (program_of c.args.program.now) picks c.replies.result.now c.args.transcript.now is c.replies.ensures (sym c.has_reason_line.ensures ∙ c.if-has_reason_line.false) (sym has ∙ e))
    c.has_traps.ensures
