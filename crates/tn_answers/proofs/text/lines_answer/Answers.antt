use Rattle.std.proofs.Common.{subst, sym}
use Rattle.std.proofs.lemmas.Result.{IfOk-weaker}
use Rattle.std.specs.Prelude.{IfOk}
use Rattle.tn_answers.specs.SearchAnswers.{IsLinesAnswer, search_question_seen}
use Rattle.tn_answers.proofs.text.lines_answer.Goals as goal

pub returns-in-Trace : goal.returns-in-Trace
returns-in-Trace g c =
    subst (λ q. IfOk c.trace_answer.result (IsLinesAnswer c.args.is_summary c.args.sessions.now (search_question_seen q) c.args.exploration.now)) (sym c.in-Trace.is)
    (IfOk-weaker c.trace_answer.result _ _ (λ a h. h c.args.is_summary) c.trace_answer.ensures)
