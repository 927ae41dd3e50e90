use Rattle.std.proofs.Common.{◌≡◌, ◌∙◌, sym}
use Rattle.def_compare.specs.Answers.{is_settled, is_unmet}
use Rattle.def_compare.specs.AnswerRows.{answer_in}
use Rattle.tn_answers.specs.SearchAnswers.{IsSearchAnswer, form_seen, search_question_seen}
use Rattle.tn_answers.specs.declared.text.SearchAnswer.{SearchAnswer}
use Rattle.complete_explore.proofs.Both.{both_ok}
use Rattle.complete_explore.proofs.answers.search_answer.Goals as goal

pub returns-clause-text : goal.returns-clause-text
returns-clause-text g c =
    both_ok c.search_answer-first.result c.search_answer-second.result
    (IsSearchAnswer (form_seen c.args.form) c.args.sessions.0.now (search_question_seen c.args.questions.0.now) c.args.one.now) (IsSearchAnswer (form_seen c.args.form) c.args.sessions.1.now (search_question_seen c.args.questions.1.now) c.args.other.now)
    (λ (v w : SearchAnswer g.row.A.Denot). v.text.items ≡ w.text.items)
    (λ v w h k. h.text ∙ (λ i. answer_in (form_seen c.args.form) (c.requires.sessions i) (c.requires.questions i) (c.requires.entries i) (c.requires.states i) (c.requires.complete i)) ∙ sym k.text)
    c.search_answer-first.ensures c.search_answer-second.ensures

pub returns-clause-unmet : goal.returns-clause-unmet
returns-clause-unmet g c =
    both_ok c.search_answer-first.result c.search_answer-second.result
    (IsSearchAnswer (form_seen c.args.form) c.args.sessions.0.now (search_question_seen c.args.questions.0.now) c.args.one.now) (IsSearchAnswer (form_seen c.args.form) c.args.sessions.1.now (search_question_seen c.args.questions.1.now) c.args.other.now)
    (λ (v w : SearchAnswer g.row.A.Denot). v.is_unmet ≡ w.is_unmet)
    (λ v w h k. h.unmet ∙ (λ i. is_unmet (c.requires.questions i) (c.requires.entries i) (c.requires.complete i)) ∙ sym k.unmet)
    c.search_answer-first.ensures c.search_answer-second.ensures

pub returns-clause-settled : goal.returns-clause-settled
returns-clause-settled g c =
    both_ok c.search_answer-first.result c.search_answer-second.result
    (IsSearchAnswer (form_seen c.args.form) c.args.sessions.0.now (search_question_seen c.args.questions.0.now) c.args.one.now) (IsSearchAnswer (form_seen c.args.form) c.args.sessions.1.now (search_question_seen c.args.questions.1.now) c.args.other.now)
    (λ (v w : SearchAnswer g.row.A.Denot). v.is_settled ≡ w.is_settled)
    (λ v w h k. h.settled ∙ (λ i. is_settled (c.requires.questions i) (c.requires.entries i) (c.requires.complete i)) ∙ sym k.settled)
    c.search_answer-first.ensures c.search_answer-second.ensures
