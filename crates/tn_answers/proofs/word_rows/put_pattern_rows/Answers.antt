use Rattle.std.proofs.Common.{Bool, arith, refl}
use Rattle.def_explore.specs.Words.{refutes}
use Rattle.def_formats.specs.JsonRows.{json_line}
use Rattle.def_compare.specs.AnswerRows.{pattern_row}
use Rattle.tn_explore.specs.Searches.{answer_entries}
use Rattle.tn_message_pattern.specs.Questions.{pattern_question_seen}
use Rattle.tn_message_pattern.specs.declared.message_pattern.PatternQuestion.{PatternQuestion}
use Rattle.tn_messages.specs.MessageViews.{kept_seen}
use Rattle.tn_answers.proofs.Parts.{part_more, all_parts}
use Rattle.tn_answers.proofs.FirstJournals.{any_more, any_all}
use Rattle.tn_answers.proofs.word_rows.put_pattern_rows.Goals as goal

pub loop-question-preserved : goal.loop-question-preserved
loop-question-preserved g c =
    let s = c.loop-question in
    let e = c.args.exploration.now in
    let es = answer_entries (kept_seen {A = g.row.A.Denot}) e.answers.entries in
    let f : PatternQuestion g.row.P.Denot → Bool = λ q. refutes es e.is_complete (pattern_question_seen {A = g.row.P.Denot} q) in
    let made = c.in_ok-rows.ensures in (
      part_more (λ q. json_line (pattern_row es e.is_complete (pattern_question_seen {A = g.row.P.Denot} q))) c.args.questions.now s.question-index c.question-item.result s.rows.out.lines.items c.in_ok-rows.rows.out.lines.items _ (omega arith) c.question-item.is s.invariant.0 made.rows,
      any_more f c.args.questions.now s.question-index c.question-item.result s.rows.is_refuted (f c.question-item.result) c.in_ok-rows.rows.is_refuted _ (omega arith) c.question-item.is s.invariant.1 refl made.refuted_too,
    )

pub returns-clause-refuted : goal.returns-clause-refuted
returns-clause-refuted g c =
    let s = c.loop-question in
    let e = c.args.exploration.now in
    let es = answer_entries (kept_seen {A = g.row.A.Denot}) e.answers.entries in
    any_all (λ q. refutes es e.is_complete (pattern_question_seen {A = g.row.P.Denot} q)) c.args.questions.now s.question-index s.rows.is_refuted _ (omega arith) s.invariant.1

pub returns-clause-rows : goal.returns-clause-rows
returns-clause-rows g c =
    let s = c.loop-question in
    let e = c.args.exploration.now in
    let es = answer_entries (kept_seen {A = g.row.A.Denot}) e.answers.entries in
    all_parts (λ q. json_line (pattern_row es e.is_complete (pattern_question_seen {A = g.row.P.Denot} q))) c.args.questions.now s.question-index s.rows.out.lines.items _ (omega arith) s.invariant.0
