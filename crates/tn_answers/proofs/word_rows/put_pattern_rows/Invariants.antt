use Rattle.std.proofs.Common.{◌≡◌, ◌++◌, ◌||◌, drop, flat_map}
use Rattle.std.specs.List.{list_any}
use Rattle.def_explore.specs.Words.{refutes}
use Rattle.def_formats.specs.JsonRows.{json_line}
use Rattle.def_compare.specs.AnswerRows.{pattern_row}
use Rattle.tn_explore.specs.Searches.{answer_entries}
use Rattle.tn_message_pattern.specs.Questions.{pattern_question_seen}
use Rattle.tn_messages.specs.MessageViews.{kept_seen}
use Rattle.tn_answers.proofs.word_rows.put_pattern_rows.Given as goal

abbrev pub invariant-loop-question : goal.invariant-loop-question
invariant-loop-question g l =
    let es = answer_entries kept_seen l.exploration.answers.entries in
    let whole = l.exploration.is_complete in
    (l.rows.out.lines.items ++ flat_map (λ q. json_line (pattern_row es whole (pattern_question_seen q))) (drop l.question-index l.questions) ≡ l.fn.out.lines.items ++ flat_map (λ q. json_line (pattern_row es whole (pattern_question_seen q))) l.questions)
    × ((l.rows.is_refuted || list_any (λ q. refutes es whole (pattern_question_seen q)) (drop l.question-index l.questions)) ≡ list_any (λ q. refutes es whole (pattern_question_seen q)) l.questions)
