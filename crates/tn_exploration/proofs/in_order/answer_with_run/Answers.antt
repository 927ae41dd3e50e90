use Rattle.std.proofs.Common.{◌∙◌, map, sym}
use Rattle.std.specs.Prelude.{Some}
use Rattle.def_compare.specs.Answers.{about_trace}
use Rattle.def_compare.specs.AnswerRows.{answer_in}
use Rattle.def_compare.specs.Entries.{possible_by}
use Rattle.tn_answers.specs.AnswerViews.{session_name_seen}
use Rattle.tn_answers.specs.SearchAnswers.{form_seen}
use Rattle.tn_comparison.specs.Matches.{trace_question_seen}
use Rattle.tn_explore.specs.Searches.{answer_entries}
use Rattle.tn_messages.specs.MessageViews.{kept_seen}
use Rattle.tn_exploration.proofs.Runs.{with_run, without_run}
use Rattle.tn_exploration.proofs.in_order.answer_with_run.Goals as goal

pub returns-then-has_run : goal.returns-then-has_run
returns-then-has_run g c =
    let e = c.args.exploration.now in
    let es = answer_entries kept_seen e.answers.entries in
    let a = trace_question_seen c.args.trace.now in
    let h = c.in_ok-answer.ensures in
    let text = answer_in (form_seen c.args.form) (map session_name_seen c.args.names.now) (about_trace a) es e.states e.is_complete in
    (λ i. Some (record { text = h.text i; settled = c.in_ok-answer.answer.is_settled; unmet = c.in_ok-answer.answer.is_unmet }))
    ∙ with_run text (possible_by a es) e.is_complete c.in_ok-answer.answer.is_settled c.in_ok-answer.answer.is_unmet h.settled h.unmet (sym c.has_run.ensures ∙ c.if-has_run.true)

pub returns-else-has_run : goal.returns-else-has_run
returns-else-has_run g c =
    let e = c.args.exploration.now in
    let es = answer_entries kept_seen e.answers.entries in
    let a = trace_question_seen c.args.trace.now in
    let h = c.in_ok-answer.ensures in
    let text = answer_in (form_seen c.args.form) (map session_name_seen c.args.names.now) (about_trace a) es e.states e.is_complete in
    without_run text (possible_by a es) e.is_complete c.in_ok-answer.answer.is_settled c.in_ok-answer.answer.is_unmet h.settled h.unmet (sym c.has_run.ensures ∙ c.if-has_run.false)
