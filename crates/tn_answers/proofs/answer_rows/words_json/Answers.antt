use Rattle.std.proofs.Common.{◌∙◌, ◌++◌, flat_map, length, map, refl}
use Rattle.def_explore.specs.Words.{refutes}
use Rattle.def_formats.specs.JsonRows.{json_line}
use Rattle.def_compare.specs.AnswerRows.{asked_row, explored_row, pattern_row}
use Rattle.tn_explore.specs.Searches.{answer_entries}
use Rattle.tn_message_pattern.specs.Questions.{pattern_question_seen}
use Rattle.tn_messages.specs.MessageViews.{kept_seen}
use Rattle.tn_answers.specs.AnswerViews.{session_name_seen}
use Rattle.tn_answers.proofs.FirstJournals.{seen_any}
use Rattle.tn_answers.proofs.Rows.{rows_after, seen_rows, with_explored}
use Rattle.tn_answers.proofs.answer_rows.words_json.Goals as goal

pub returns : goal.returns
returns g c =
    let e = c.args.exploration.now in
    let es = answer_entries (kept_seen {A = g.row.A.Denot}) e.answers.entries in
    let ss = c.args.sessions.now in
    let qs = c.args.questions.now in
    let rows = pattern_row es e.is_complete in
    let none = c.no_rows.result.lines.items in
    let first = c.in_ok-out.out.lines.items in
    let then = c.in_ok-out-2.field-0.out.lines.items in
    record {
      text = with_explored none then c.in_ok-out-3.out.lines.items (map asked_row (map session_name_seen ss) ++ map rows (map pattern_question_seen qs)) (explored_row e.states (length es) e.is_complete) c.no_rows.ensures
          (rows_after none first then (flat_map (λ s. json_line (asked_row (session_name_seen s))) ss) (flat_map (λ q. json_line (rows (pattern_question_seen q))) qs) (map asked_row (map session_name_seen ss)) (map rows (map pattern_question_seen qs))
          c.in_ok-out.ensures c.in_ok-out-2.ensures.rows (seen_rows asked_row session_name_seen ss) (seen_rows rows pattern_question_seen qs)) c.in_ok-out-3.ensures;
      unmet = c.in_ok-out-2.ensures.refuted ∙ seen_any (refutes es e.is_complete) pattern_question_seen qs;
      settled = refl;
    }
