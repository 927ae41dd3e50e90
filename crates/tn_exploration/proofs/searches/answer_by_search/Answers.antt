use Rattle.std.proofs.Common.{map}
use Rattle.std.proofs.lemmas.Result.{IfOk-weaker}
use Rattle.tn_program.specs.Views.{program_of}
use Rattle.tn_answers.specs.AnswerViews.{session_name_seen}
use Rattle.tn_answers.specs.SearchAnswers.{form_seen, search_question_seen}
use Rattle.tn_explore.specs.Searches.{answer_entries}
use Rattle.tn_messages.specs.MessageViews.{kept_seen}
use Rattle.tn_search.specs.States.{is_by_process}
use Rattle.tn_exploration.specs.Searches.{IsTextOfExploration, IsTextOfSearch, departure_seen, search_text_seen}
use Rattle.tn_exploration.proofs.searches.answer_by_search.Goals as goal

pub returns : goal.returns
returns g c =
    let k = c.args.task.now in
    let plan = k.plan.now in
    let q = search_question_seen k.question.now in
    let ss = map session_name_seen k.names.now in
    let e = c.in_ok-exploration.exploration in
    IfOk-weaker c.answer_from.result (λ a. IsTextOfExploration (form_seen k.form) ss q e (search_text_seen a.answer) (departure_seen a.departure))
    (λ a. IsTextOfSearch (form_seen k.form) ss q (is_by_process plan.order) plan.reduces (program_of c.args.program.now) plan.before.now plan.places.now plan.max_states (search_text_seen a.answer) (departure_seen a.departure))
    (λ a h. record {
      entries = answer_entries kept_seen e.answers.entries;
      states = e.states;
      whole = e.is_complete;
      search = c.in_ok-exploration.ensures;
      written = h.written;
      departs = h.departs;
    }) c.answer_from.ensures
