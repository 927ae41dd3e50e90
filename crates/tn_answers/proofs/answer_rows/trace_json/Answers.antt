use Rattle.std.proofs.Common.{◌∙◌, ◌∷◌, [], ◌++◌, Bool, not, ◌&&◌, ◌||◌, ap, append_assoc, flat_map, length, map}
use Rattle.def_formats.specs.JsonRows.{json_line, json_lines}
use Rattle.def_compare.specs.AnswerRows.{asked_row, explored_row, trace_row}
use Rattle.def_compare.specs.Entries.{possible_by}
use Rattle.tn_comparison.specs.Matches.{trace_question_seen}
use Rattle.tn_explore.specs.Searches.{answer_entries}
use Rattle.tn_messages.specs.MessageViews.{kept_seen}
use Rattle.tn_answers.specs.AnswerViews.{session_name_seen}
use Rattle.tn_answers.proofs.Rows.{one_row, rows_after, seen_rows, with_explored}
use Rattle.tn_answers.proofs.answer_rows.trace_json.Goals as goal

pub returns : goal.returns
returns g c =
    let e = c.args.exploration.now in
    let es = answer_entries (kept_seen {A = g.row.A.Denot}) e.answers.entries in
    let ss = c.args.sessions.now in
    let a = trace_question_seen c.args.question.now in
    let row = trace_row a es e.is_complete (possible_by a es) in
    let end = explored_row e.states (length es) e.is_complete in
    let asked = map asked_row (map session_name_seen ss) in
    let none = c.no_rows.result.lines.items in
    let first = c.in_ok-out.out.lines.items in
    let then = c.in_ok-out-2.field-0.out.lines.items in
    record {
      text = with_explored none then c.in_ok-out-3.out.lines.items (asked ++ row ∷ []) end c.no_rows.ensures
          (rows_after none first then (flat_map (λ s. json_line (asked_row (session_name_seen s))) ss) (json_line row) asked (row ∷ [])
          c.in_ok-out.ensures c.in_ok-out-2.ensures.row (seen_rows asked_row session_name_seen ss) (one_row row)) c.in_ok-out-3.ensures
          ∙ ap json_lines (append_assoc asked (row ∷ []) (end ∷ []));
      unmet = c.is_impossible.ensures ∙ ap (λ (b : Bool). e.is_complete && not b) c.in_ok-out-2.ensures.possible;
      settled = c.is_settled.ensures ∙ ap (λ (b : Bool). e.is_complete || b) c.in_ok-out-2.ensures.possible;
    }
