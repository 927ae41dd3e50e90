use Rattle.std.proofs.Common.{◌≡◌, ◌∙◌, ◌+◌, ◌-◌, ◌≤◌, List, ℕ, length, ap, sym, subst, arith}
use Rattle.def_random_run.specs.Numbers.{seed_mixture}
use Rattle.def_random_run.specs.RandomRuns.{random_run}
use Rattle.def_random_run.specs.RandomEntries.{states_through}
use Rattle.def_random_run.proofs.RandomRuns.{run_is_bounded}
use Rattle.tn_explore.specs.Searches.{answer_entries}
use Rattle.tn_random_run.proofs.Entries.{RunsOn, runs_start, room_ends, runs_end, run_more}
use Rattle.tn_random_run.proofs.search.random_search.Goals as goal

pub loop-init : goal.loop-init
loop-init g c = λ a is_of.
    let J = g.S.SearchState.journal c.args.first.now in
    subst (λ es. RunsOn a J c.args.picks.now c.args.plan.now 0 c.args.plan.now.seed 0 (answer_entries g.S.SearchState.kept_seen es)) (sym c.new-answers.ensures.empty)
    (runs_start a J c.args.picks.now c.args.plan.now)

pub returns-then-states-plan : goal.returns-then-states-plan
returns-then-states-plan g c = λ a is_of.
    room_ends a (g.S.SearchState.journal c.args.first.now) c.args.picks.now c.args.plan.now c.loop.counter c.loop.seed c.loop.states (answer_entries g.S.SearchState.kept_seen c.loop.answers.entries)
    (c.loop.invariant a is_of) c.if-states-plan.true

pub loop-preserved : goal.loop-preserved
loop-preserved g c = λ a is_of.
    let J = g.S.SearchState.journal in
    let first = J c.args.first.now in
    let last = J c.in_ok-last.last in
    let picks = c.args.picks.now in
    let plan = c.args.plan.now in
    let count = c.loop.states in
    let moves : ℕ = plan.max_states - count - 1 in
    let start = c.in_ok-start.ensures c.args.context.now a is_of in
    let state = c.in_ok-last.ensures a start.1 in
    let drawn : List ℕ = random_run a.program picks moves (seed_mixture c.loop.seed) first in
    let same : last ≡ drawn =
    state.journal ∙ ap (λ m. random_run a.program picks moves m (J c.in_ok-start.start)) c.mixture_of.ensures ∙ ap (random_run a.program picks moves (seed_mixture c.loop.seed)) start.0 in
    let long : length last ≡ length drawn = ap length same in
    let short : length drawn ≤ length first + moves = run_is_bounded a.program picks moves (seed_mixture c.loop.seed) first in
    let made : length c.in_ok-copy_journal-2.field-0.items ≡ length last = ap length c.in_ok-copy_journal-2.ensures in
    let before : length c.in_ok-copy_journal.field-0.items ≡ length first = ap length c.in_ok-copy_journal.ensures in
    let counts : c.saturating_add-states.result ≡ count + states_through first last =
    omega (arith, c.in_ok-copy_journal-2.field-0.ok.0, c.in_ok-copy_journal.field-0.ok.0, c.len-made.ensures, c.len-before.ensures, c.saturating_sub.ensures, c.saturating_add-states.ensures) in
    run_more a first picks plan c.loop.counter c.loop.seed count (answer_entries g.S.SearchState.kept_seen c.loop.answers.entries) (c.loop.invariant a is_of)
    last moves c.seed_after-seed.result c.saturating_add-states.result (answer_entries g.S.SearchState.kept_seen c.add_rest.new.answers.entries) c.loop-test.true c.if-states-plan.false (omega arith)
    same c.seed_after-seed.ensures counts (c.in_ok-add_rest.ensures a state.is_of)

pub returns : goal.returns
returns g c = λ a is_of.
    runs_end a (g.S.SearchState.journal c.args.first.now) c.args.picks.now c.args.plan.now c.loop.counter c.loop.seed c.loop.states (answer_entries g.S.SearchState.kept_seen c.loop.answers.entries)
    (c.loop.invariant a is_of) c.loop-test.false
