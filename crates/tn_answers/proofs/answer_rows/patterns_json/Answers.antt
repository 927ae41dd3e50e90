use Rattle.std.proofs.Common.{◌∙◌, ◌++◌, ◌∷◌, [], ap, length, map}
use Rattle.std.proofs.lemmas.Result.{IfOk-weaker}
use Rattle.def_compare.specs.Answers.{about_patterns}
use Rattle.def_compare.specs.AnswerRows.{explored_row, json_answer}
use Rattle.def_explore.specs.Words.{refutes}
use Rattle.def_formats.specs.JsonRows.{json_lines}
use Rattle.tn_explore.specs.Searches.{answer_entries}
use Rattle.tn_message_pattern.specs.Questions.{pattern_question_seen}
use Rattle.tn_messages.specs.MessageViews.{kept_seen}
use Rattle.tn_answers.specs.AnswerViews.{session_name_seen}
use Rattle.tn_answers.specs.SearchAnswers.{IsListingsJson, IsSearchAnswer, IsWordsJson}
use Rattle.tn_answers.proofs.Rows.{no_question_rows, some_question_rows}
use Rattle.tn_answers.proofs.SearchTexts.{none_refuted}
use Rattle.tn_answers.proofs.answer_rows.patterns_json.Goals as goal

pub returns-then-is_empty : goal.returns-then-is_empty
returns-then-is_empty g c =
    let e = c.args.exploration.now in
    let es = answer_entries (kept_seen {A = g.row.A.Denot}) e.answers.entries in
    let ss = c.args.sessions.now in
    let qs = c.args.questions.now in
    let end = explored_row e.states (length es) e.is_complete in
    IfOk-weaker c.listings_json.result (IsListingsJson ss e) (IsSearchAnswer json_answer ss (about_patterns (map pattern_question_seen qs)) e)
    (λ a h. record {
      text = h.text ∙ ap (λ rs. json_lines (rs ++ end ∷ [])) (no_question_rows pattern_question_seen qs (map session_name_seen ss) es e.is_complete c.if-is_empty.ensures);
      unmet = h.unmet ∙ none_refuted pattern_question_seen (refutes es e.is_complete) qs c.if-is_empty.ensures;
      settled = h.settled;
    }) c.listings_json.ensures

pub returns : goal.returns
returns g c =
    let e = c.args.exploration.now in
    let es = answer_entries (kept_seen {A = g.row.A.Denot}) e.answers.entries in
    let ss = c.args.sessions.now in
    let qs = c.args.questions.now in
    let end = explored_row e.states (length es) e.is_complete in
    IfOk-weaker c.words_json.result (IsWordsJson ss qs e) (IsSearchAnswer json_answer ss (about_patterns (map pattern_question_seen qs)) e)
    (λ a h. record {
      text = h.text ∙ ap (λ rs. json_lines (rs ++ end ∷ [])) (some_question_rows pattern_question_seen qs (map session_name_seen ss) es e.is_complete c.if-is_empty.ensures);
      unmet = h.unmet;
      settled = h.settled;
    }) c.words_json.ensures
