use Rattle.std.proofs.Common.{◌∙◌, ap, map, subst}
use Rattle.std.proofs.lemmas.Result.{IfOk-weaker}
use Rattle.def_explore.specs.RunsToEnd.{AreSoundWithin, all_runs}
use Rattle.def_departure.specs.Departures.{departure_of}
use Rattle.tn_program.specs.Views.{program_of}
use Rattle.tn_answers.specs.AnswerViews.{session_name_seen}
use Rattle.tn_answers.specs.SearchAnswers.{form_seen, search_question_seen}
use Rattle.tn_messages.specs.MessageViews.{question_of}
use Rattle.tn_search.specs.Sessions.{names_at}
use Rattle.tn_search.specs.States.{is_by_process}
use Rattle.tn_exploration.specs.Searches.{IsTextOfExploration, IsTextOfRandomRuns, departure_seen, search_text_of, search_text_seen}
use Rattle.tn_exploration.proofs.searches.answer_by_random_runs.Goals as goal

pub returns : goal.returns
returns g c =
    let k = c.args.task.now in
    let plan = k.plan.now in
    let b = is_by_process plan.order in
    let p = program_of c.args.program.now in
    let q = search_question_seen k.question.now in
    let ss = map session_name_seen k.names.now in
    let e = c.in_ok-exploration.exploration in
    let made = c.in_ok-exploration.ensures in
    IfOk-weaker c.answer_from.result (λ a. IsTextOfExploration (form_seen k.form) ss q e (search_text_seen a.answer) (departure_seen a.departure))
    (λ a. IsTextOfRandomRuns c.args.random (form_seen k.form) ss q b p plan.before.now plan.places.now plan.max_states (search_text_seen a.answer) (departure_seen a.departure))
    (λ a h. record {
      sound = subst (AreSoundWithin all_runs (question_of b) (names_at p plan.places.now) p plan.before.now) made.entries made.sound;
      written = h.written ∙ (λ i. search_text_of (form_seen k.form) ss q (made.entries i) (made.states i) (made.part i));
      departs = h.departs ∙ ap (departure_of q) made.entries;
    }) c.answer_from.ensures
