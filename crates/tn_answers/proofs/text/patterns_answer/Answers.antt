use Rattle.std.proofs.Common.{◌∙◌, map, refl}
use Rattle.std.proofs.lemmas.Result.{IfOk-weaker}
use Rattle.def_compare.specs.Answers.{about_patterns}
use Rattle.def_explore.specs.Words.{refutes}
use Rattle.tn_explore.specs.Searches.{answer_entries}
use Rattle.tn_message_pattern.specs.Questions.{pattern_question_seen}
use Rattle.tn_messages.specs.MessageViews.{kept_seen}
use Rattle.tn_answers.specs.AnswerViews.{session_name_seen}
use Rattle.tn_answers.specs.SearchAnswers.{IsLinesAnswer, IsWordsAnswer}
use Rattle.tn_answers.proofs.SearchTexts.{no_questions, none_refuted, some_questions}
use Rattle.tn_answers.proofs.text.patterns_answer.Goals as goal

pub returns-then-is_empty : goal.returns-then-is_empty
returns-then-is_empty g c =
    let e = c.args.exploration.now in
    let es = answer_entries (kept_seen {A = g.row.A.Denot}) e.answers.entries in
    let qs = c.args.questions.now in
    record {
      text = c.in_ok-exploration_text.ensures ∙ no_questions c.args.is_summary pattern_question_seen qs (map session_name_seen c.args.sessions.now) es e.states e.is_complete c.if-is_empty.ensures;
      unmet = none_refuted pattern_question_seen (refutes es e.is_complete) qs c.if-is_empty.ensures;
      settled = refl;
    }

pub returns : goal.returns
returns g c =
    let e = c.args.exploration.now in
    let es = answer_entries (kept_seen {A = g.row.A.Denot}) e.answers.entries in
    let ss = c.args.sessions.now in
    let qs = c.args.questions.now in
    IfOk-weaker c.words_answer.result (IsWordsAnswer ss qs e) (IsLinesAnswer c.args.is_summary ss (about_patterns (map pattern_question_seen qs)) e)
    (λ a h. record {
      text = h.text ∙ some_questions c.args.is_summary pattern_question_seen qs (map session_name_seen ss) es e.states e.is_complete c.if-is_empty.ensures;
      unmet = h.unmet;
      settled = h.settled;
    }) c.words_answer.ensures
