use Rattle.std.proofs.Common.{false, subst}
use Rattle.std.proofs.lemmas.Result.{IfOk-weaker}
use Rattle.def_compare.specs.Traces.{begins_trace}
use Rattle.tn_comparison.specs.Matches.{trace_question_seen}
use Rattle.tn_explore.specs.Searches.{Explores, answer_entries}
use Rattle.tn_messages.specs.MessageViews.{kept_seen}
use Rattle.tn_program.specs.Views.{program_of}
use Rattle.tn_search.specs.States.{query_of}
use Rattle.tn_exploration.proofs.in_order.run_by_search.Goals as goal

pub returns : goal.returns
returns g c = λ total whole.
    let a = trace_question_seen c.args.trace.now in
    let p = program_of c.args.program.now in
    let plan = c.args.plan.now in
    let e = c.in_ok-exploration.exploration in
    let es = answer_entries (kept_seen {A = g.row.A.Denot}) e.answers.entries in
    let search = subst (λ l. Explores l (query_of (begins_trace a.messages) false p plan.before.now plan.places.now) es plan.max_states e.states e.is_complete) whole
    (subst (λ b. Explores plan.reduces (query_of (begins_trace a.messages) b p plan.before.now plan.places.now) es plan.max_states e.states e.is_complete) total c.in_ok-exploration.ensures) in
    IfOk-weaker c.run_among.result _ _ (λ o is. record { entries = es; states = e.states; whole = e.is_complete; search = search; first = is }) c.run_among.ensures
