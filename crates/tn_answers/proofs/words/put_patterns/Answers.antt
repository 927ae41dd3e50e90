use Rattle.std.proofs.Common.{arith}
use Rattle.def_explore.specs.Output.{pattern_answer_text}
use Rattle.def_explore.specs.Words.{refutes}
use Rattle.tn_explore.specs.Searches.{answer_entries}
use Rattle.tn_message_pattern.specs.Questions.{pattern_question_seen}
use Rattle.tn_messages.specs.MessageViews.{kept_seen}
use Rattle.tn_answers.proofs.Parts.{part_more}
use Rattle.tn_answers.proofs.FirstJournals.{any_more, any_all}
use Rattle.tn_answers.proofs.words.put_patterns.Goals as goal

pub loop-question-preserved : goal.loop-question-preserved
loop-question-preserved g c =
    let s = c.loop-question in
    let e = c.args.exploration.now in
    let es = answer_entries (kept_seen {A = g.row.A.Denot}) e.answers.entries in (
      part_more (λ q. pattern_answer_text es e.is_complete (pattern_question_seen {A = g.row.P.Denot} q)) c.args.questions.now s.question-index c.question-item.result s.out.items c.put_pattern.new.out.items _ (omega arith) c.question-item.is s.invariant.0 c.in_ok-one.ensures.lines,
      any_more (λ q. refutes es e.is_complete (pattern_question_seen {A = g.row.P.Denot} q)) c.args.questions.now s.question-index c.question-item.result s.refuted c.in_ok-one.one c.either-refuted.result _ (omega arith) c.question-item.is s.invariant.1 c.in_ok-one.ensures.refuted c.either-refuted.ensures,
    )

pub returns-clause-refuted : goal.returns-clause-refuted
returns-clause-refuted g c =
    let s = c.loop-question in
    let e = c.args.exploration.now in
    let es = answer_entries (kept_seen {A = g.row.A.Denot}) e.answers.entries in
    any_all (λ q. refutes es e.is_complete (pattern_question_seen {A = g.row.P.Denot} q)) c.args.questions.now s.question-index s.refuted _ (omega arith) s.invariant.1
