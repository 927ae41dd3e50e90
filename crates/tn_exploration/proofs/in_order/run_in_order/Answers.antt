use Rattle.std.proofs.Common.{◌≡◌, ◌∙◌, ap, refl, sym}
use Rattle.std.specs.Option.{option_map}
use Rattle.std.proofs.lemmas.Result.{IfOk-weaker}
use Rattle.def_compare.specs.Entries.{possible_by}
use Rattle.tn_comparison.specs.Matches.{trace_question_seen}
use Rattle.tn_program.specs.Views.{program_of}
use Rattle.tn_exploration.specs.Searches.{greedy_run_in_order, run_in_order_seen, run_of_match}
use Rattle.tn_exploration.proofs.GreedyRuns.{is_there, greedy_found, greedy_not_found}
use Rattle.tn_exploration.proofs.in_order.run_in_order.Goals as goal

pub returns-then-is_some : goal.returns-then-is_some
returns-then-is_some g c =
    let a = trace_question_seen c.args.trace.now in
    let p = program_of c.args.program.now in
    let plan = c.args.plan.now in
    let run = option_map run_in_order_seen c.in_ok-run.run' in
    let e = c.in_ok-greedy.greedy in
    let h = c.in_ok-greedy.ensures in
    let greedy : greedy_run_in_order a p plan.before.now plan.places.now plan.max_states ≡ run =
    sym (c.in_ok-run.ensures ∙ ap (λ es. run_of_match (possible_by a es) e.states) h.entry ∙ ap (run_of_match _) h.states) in
    greedy_found a p plan.before.now plan.places.now plan.max_states run greedy (is_there run_in_order_seen c.in_ok-run.run' _ (sym c.is_some.ensures ∙ c.if-is_some.true))

pub returns : goal.returns
returns g c =
    let a = trace_question_seen c.args.trace.now in
    let p = program_of c.args.program.now in
    let plan = c.args.plan.now in
    let run = option_map run_in_order_seen c.in_ok-run.run' in
    let e = c.in_ok-greedy.greedy in
    let h = c.in_ok-greedy.ensures in
    let greedy : greedy_run_in_order a p plan.before.now plan.places.now plan.max_states ≡ run =
    sym (c.in_ok-run.ensures ∙ ap (λ es. run_of_match (possible_by a es) e.states) h.entry ∙ ap (run_of_match _) h.states) in
    let none = is_there run_in_order_seen c.in_ok-run.run' _ (sym c.is_some.ensures ∙ c.if-is_some.false) in
    IfOk-weaker c.run_by_search.result _ _ (λ o is. greedy_not_found a p plan.before.now plan.places.now plan.max_states run (option_map run_in_order_seen o) greedy none is) (c.run_by_search.ensures refl refl)
