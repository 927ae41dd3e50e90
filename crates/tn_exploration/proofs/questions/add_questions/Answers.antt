use Rattle.std.proofs.lemmas.Result.{err_from_is_err_and}
use Rattle.tn_message_pattern.specs.Questions.{demand_seen}
use Rattle.tn_exploration.proofs.TextQuestions.{fault_of_one, text_more}
use Rattle.tn_exploration.proofs.questions.add_questions.Goals as goal

pub loop-text-preserved : goal.loop-text-preserved
loop-text-preserved g c =
    let l = c.loop-text in
    text_more {A = g.row.A.Denot} (demand_seen c.args.demand) c.args.texts.now l.text-index _ c.args.questions.now.items l.questions.items c.add_question.new.questions.items c.loop-text-test.true l.invariant c.in_ok-add_question.ensures.added

pub returns-in_err-add_question-clause-refused : goal.returns-in_err-add_question-clause-refused
returns-in_err-add_question-clause-refused g c =
    let p = err_from_is_err_and c.from_residual.result c.from_residual.ensures.1 in
    rw (p.1, p.2) (fault_of_one c.args.texts.now c.loop-text.text-index _ c.in_err-add_question.field-0.0 c.loop-text-test.true c.in_err-add_question.ensures.refused)
