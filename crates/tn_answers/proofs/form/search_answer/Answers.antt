use Rattle.std.proofs.Common.{◌∙◌, false, map, subst, sym}
use Rattle.std.proofs.lemmas.Result.{IfOk-weaker}
use Rattle.std.specs.Prelude.{IfOk}
use Rattle.def_compare.specs.AnswerRows.{plain_answer}
use Rattle.tn_explore.specs.Searches.{answer_entries}
use Rattle.tn_messages.specs.MessageViews.{kept_seen}
use Rattle.tn_answers.specs.AnswerViews.{session_name_seen}
use Rattle.tn_answers.specs.SearchAnswers.{IsLinesAnswer, IsSearchAnswer, form_seen, search_question_seen}
use Rattle.tn_answers.proofs.SearchTexts.{plain_text}
use Rattle.tn_answers.proofs.form.search_answer.Goals as goal

pub returns-in-Plain : goal.returns-in-Plain
returns-in-Plain g c =
    let e = c.args.exploration.now in
    let es = answer_entries kept_seen e.answers.entries in
    let ss = c.args.sessions.now in
    let q = search_question_seen c.args.question.now in
    subst (λ f. IfOk c.lines_answer.result (IsSearchAnswer (form_seen f) ss q e)) (sym c.in-Plain.is)
    (IfOk-weaker c.lines_answer.result (IsLinesAnswer false ss q e) (IsSearchAnswer plain_answer ss q e)
    (λ a h. record { text = h.text ∙ plain_text (map session_name_seen ss) q es e.states e.is_complete; unmet = h.unmet; settled = h.settled }) c.lines_answer.ensures)
