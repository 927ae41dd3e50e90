use Rattle.std.proofs.Common.{map, refl, subst}
use Rattle.std.proofs.lemmas.Result.{IfOk-weaker}
use Rattle.std.specs.Option.{option_map}
use Rattle.std.specs.Prelude.{None, Some}
use Rattle.tn_program.specs.Views.{program_of}
use Rattle.tn_answers.specs.AnswerViews.{session_name_seen}
use Rattle.tn_answers.specs.SearchAnswers.{form_seen, search_question_seen}
use Rattle.tn_search.specs.States.{is_by_process}
use Rattle.tn_exploration.specs.Searches.{IsAnswerText, IsTextBefore, IsTextOfSearch, departure_seen, search_text_seen, trace_by_process}
use Rattle.tn_exploration.proofs.searches.answer_of.Goals as goal

pub returns-in-Some : goal.returns-in-Some
returns-in-Some g c =
    let q = search_question_seen c.args.task.now.question.now in
    let b = is_by_process c.args.task.now.plan.now.order in
    let p = program_of c.args.program.now in
    let ss = map session_name_seen c.args.task.now.names.now in
    let plan = c.args.task.now.plan.now in (
      Some (search_text_seen c.in-Some.answer),
      subst (λ o. IsTextBefore (form_seen c.args.task.now.form) ss p plan.before.now plan.places.now plan.max_states (trace_by_process q b) (option_map search_text_seen o)) c.in-Some.is c.in_ok-answer.ensures,
      (refl, refl),
    )

pub returns : goal.returns
returns g c =
    let q = search_question_seen c.args.task.now.question.now in
    let b = is_by_process c.args.task.now.plan.now.order in
    let p = program_of c.args.program.now in
    let ss = map session_name_seen c.args.task.now.names.now in
    let plan = c.args.task.now.plan.now in
    let form = form_seen c.args.task.now.form in
    let before = subst (λ o. IsTextBefore form ss p plan.before.now plan.places.now plan.max_states (trace_by_process q b) (option_map search_text_seen o)) c.in_default.is c.in_ok-answer.ensures in
    IfOk-weaker c.answer_by_search.result (λ a. IsTextOfSearch form ss q b plan.reduces p plan.before.now plan.places.now plan.max_states (search_text_seen a.answer) (departure_seen a.departure))
    (λ a. IsAnswerText form ss q b plan.reduces p plan.before.now plan.places.now plan.max_states (search_text_seen a.answer) (departure_seen a.departure)) (λ a h. (None, before, h)) c.answer_by_search.ensures
