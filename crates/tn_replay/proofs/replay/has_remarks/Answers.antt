use Rattle.std.proofs.Common.{◌≡◌, IfOk, subst}
use Rattle.def_explain.specs.Remarks.{is_some_remark}
use Rattle.tn_program.specs.Views.{program_of}
use Rattle.tn_replay.proofs.Remarks.{journal_has}
use Rattle.tn_replay.proofs.replay.has_remarks.Goals as goal

pub returns-then-not-is_possible : goal.returns-then-not-is_possible
returns-then-not-is_possible g c = λ picks is. c.in_ok-is_possible.ensures picks is c.if-not-is_possible.true

pub returns : goal.returns
returns g c = λ picks is.
    subst (λ rs. IfOk c.program_has_remarks.result (λ b. b ≡ is_some_remark rs))
    (journal_has (program_of c.args.program.now) picks c.journal.result.now c.front_of_picks.result.now c.args.transcript.now is c.journal.ensures c.front_of_picks.ensures) c.program_has_remarks.ensures
