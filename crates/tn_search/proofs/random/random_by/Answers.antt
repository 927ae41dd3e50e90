use Rattle.std.proofs.Common.{◌≡◌, ◌≤◌, ◌∙◌, length, sym, subst, arith}
use Rattle.std.proofs.lemmas.List.{length-map}
use Rattle.std.proofs.lemmas.Result.{IfOk-weaker}
use Rattle.def_run.specs.Run.{moves}
use Rattle.def_run.specs.Round.{pass}
use Rattle.def_explore.specs.RunsToEnd.{AreSoundWithin, all_runs}
use Rattle.def_random_run.specs.RandomEntries.{random_entries, random_states}
use Rattle.def_random_run.proofs.RandomEntries.{random_entries_are_sound}
use Rattle.tn_explore.specs.Query.{Query}
use Rattle.tn_explore.specs.Searches.{answer_entries}
use Rattle.tn_messages.specs.MessageViews.{kept_seen, question_of}
use Rattle.tn_program.specs.Views.{program_of}
use Rattle.tn_search.specs.RandomRuns.{IsRandomExploration, random_entries_after}
use Rattle.tn_search.specs.Sessions.{names_at}
use Rattle.tn_search.specs.States.{query_of, state_journal}
use Rattle.tn_search.proofs.random.random_by.Goals as goal

pub returns : goal.returns
returns g c =
    let b = g.K.SearchSink.is_by_process in
    let x = c.args.program.now in
    let p = program_of x in
    let before = c.args.plan.now.before.now in
    let places = c.args.plan.now.places.now in
    let runs = c.args.runs in
    let seed = c.args.seed in
    let most = c.args.plan.now.max_states in
    let a : Query = query_of all_runs b p before places in
    let same : length p.entries ≡ length x.entries.items = length-map x.entries.items _ in
    let most_entries : length x.entries.items ≤ 16 = x.few_processes in
    let few : length p.entries ≤ 64 = omega arith in
    let picks : c.deref.result.now ≡ pass = c.deref.ensures.value ∙ c.in_ok-picks.ensures in
    let first : state_journal c.in_ok-first.first ≡ moves p before = c.in_ok-first.ensures.1 in
    IfOk-weaker c.random_search.result _ (IsRandomExploration b p before places runs seed most)
    (λ e is.
    let search = is a (c.in_ok-first.ensures.0 all_runs) in
    let entries : answer_entries kept_seen e.answers.entries ≡ random_entries_after b p before places runs seed most =
    search.entries ∙ (λ i. random_entries (question_of b) (names_at p places) p (picks i) (first i) runs seed most) in
    record {
      entries = entries;
      sound = subst (AreSoundWithin all_runs (question_of b) (names_at p places) p before) (sym entries) (random_entries_are_sound (question_of b) (names_at p places) p before runs seed most few);
      states = search.states ∙ (λ i. random_states p (picks i) (first i) runs seed most);
      part = search.part;
    }) c.random_search.ensures
