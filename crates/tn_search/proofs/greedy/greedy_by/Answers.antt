use Rattle.std.proofs.Common.{◌≡◌, ◌∙◌, ◌-◌, ◌+◌, ◌∷◌, [], ap, refl, length}
use Rattle.std.proofs.lemmas.Result.{IfOk-weaker}
use Rattle.def_run.specs.Round.{pass}
use Rattle.tn_explore.specs.Query.{Query, entry_for}
use Rattle.tn_greedy_run.specs.GreedyRuns.{greedy_run_for}
use Rattle.tn_program.specs.Views.{program_of}
use Rattle.tn_search.specs.GreedyRuns.{IsGreedyExploration, greedy_journal}
use Rattle.tn_search.specs.States.{query_of, state_journal}
use Rattle.tn_search.proofs.greedy.greedy_by.Goals as goal

pub returns : goal.returns
returns g c =
    let b = g.K.SearchSink.is_by_process in
    let p = program_of c.args.program.now in
    let before = c.args.plan.now.before.now in
    let places = c.args.plan.now.places.now in
    let n = c.args.plan.now.max_states - 1 in
    let admits = g.F.RunFilter.admits c.args.filter.now in
    let a : Query = query_of admits b p before places in
    let first = c.in_ok-first.ensures.1 in
    let state = c.in_ok-last.ensures a (λ kept. refl) (c.in_ok-first.ensures.0 admits) in
    let same : state_journal c.in_ok-last.last ≡ greedy_journal admits b p before places n =
    state.journal ∙ ap (λ ks. greedy_run_for a ks c.saturating_sub-moves.result (state_journal c.in_ok-first.first)) (c.deref.ensures.value ∙ c.in_ok-picks.ensures)
    ∙ ap (λ m. greedy_run_for a pass m (state_journal c.in_ok-first.first)) c.saturating_sub-moves.ensures ∙ ap (greedy_run_for a pass n) first in
    IfOk-weaker c.only_answer.result _ (IsGreedyExploration admits b p before places c.args.plan.now.max_states)
    (λ e is.
    let only = is c.args.program.now a state.is_of in
    record {
      entry = only.entry ∙ ap (λ j. entry_for a j ∷ []) same;
      states = only.states ∙ ap (λ j. length j - length c.journal-before.result.now + 1) same ∙ ap (λ xs. length (greedy_journal admits b p before places n) - length xs + 1) (c.journal-before.ensures ∙ first);
    }) c.only_answer.ensures
