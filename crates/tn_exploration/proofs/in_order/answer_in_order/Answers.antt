use Rattle.std.proofs.Common.{◌≡◌, map, refl, subst}
use Rattle.std.proofs.lemmas.Result.{IfOk-weaker}
use Rattle.std.specs.Option.{option_map}
use Rattle.std.specs.Prelude.{None, Some, false, true}
use Rattle.def_compare.specs.Traces.{begins_trace}
use Rattle.tn_program.specs.Views.{program_of}
use Rattle.tn_answers.specs.AnswerViews.{session_name_seen}
use Rattle.tn_answers.specs.SearchAnswers.{form_seen}
use Rattle.tn_comparison.specs.Matches.{trace_question_seen}
use Rattle.tn_explore.specs.Searches.{Explores, answer_entries}
use Rattle.tn_messages.specs.MessageViews.{kept_seen}
use Rattle.tn_search.specs.States.{query_of}
use Rattle.tn_exploration.specs.Searches.{IsRunInOrder, IsTextInOrder, run_in_order_seen, search_text_seen, text_with_run}
use Rattle.tn_exploration.proofs.in_order.answer_in_order.Goals as goal

pub returns-in_default : goal.returns-in_default
returns-in_default g c =
    let a = trace_question_seen c.args.trace.now in
    let p = program_of c.args.program.now in
    let plan = c.args.plan.now in (
      None,
      subst (λ o. IsRunInOrder a p plan.before.now plan.places.now plan.max_states (option_map run_in_order_seen o)) c.in_default.is c.in_ok-run.ensures,
      refl,
    )

pub returns : goal.returns
returns g c =
    let a = trace_question_seen c.args.trace.now in
    let p = program_of c.args.program.now in
    let ss = map session_name_seen c.args.names.now in
    let form = form_seen c.args.form in
    let plan = c.args.plan.now in
    let run = c.in-Some.run' in
    let after = c.in_ok-after.after in
    let es = answer_entries (kept_seen {A = g.row.A.Denot}) after.answers.entries in
    let found = subst (λ o. IsRunInOrder a p plan.before.now plan.places.now plan.max_states (option_map run_in_order_seen o)) c.in-Some.is c.in_ok-run.ensures in
    let search = subst (λ js. Explores false (query_of (begins_trace a.messages) true p js plan.places.now) es plan.max_states after.states after.is_complete) c.deref.ensures.value c.in_ok-after.ensures in
    IfOk-weaker c.answer_with_run.result (λ o. option_map search_text_seen o ≡ text_with_run form ss a es run.states false)
    (λ o. IsTextInOrder form ss a p plan.before.now plan.places.now plan.max_states (option_map search_text_seen o))
    (λ o h. (Some (run_in_order_seen run), found, record { entries = es; states = after.states; whole = after.is_complete; search = search; written = h })) c.answer_with_run.ensures
