-- The run before any pick, and through one more.
use Rattle.std.proofs.Common.{◌≡◌, ◌∙◌, ℕ, suc, min, ◌+◌, ◌<◌, ◌≤◌, ◌-◌, List, [], ◌∷◌, ◌++◌, length, map, Option, Some, None, Result, Ok, Err, IsErr, MatchResult, refl, sym, ap, subst, arith}
use Rattle.std.specs.Option.{IsSomeAnd}
use Rattle.std.specs.declared.alloc.AllocError.{AllocError}
use Rattle.def_script.specs.Program.{Command, Program}
use Rattle.def_node.specs.Node.{NodeState, PickResult, gives_events, gives_command, gives_nothing, pick_result, next, opening_world, opening_state}
use Rattle.def_run.specs.Run.{event_item, moves, run_state_of}
use Rattle.def_run.specs.Laws.{state_at}
use Rattle.tn_flags.specs.Views.{event_of}
use Rattle.tn_node.specs.Nodes.{NodeValue, PickAnswer, answers_events, answers_command, answers_nothing, node_at, next_node, moved_seen}
use Rattle.tn_node.specs.declared.step_outcome.Moved as code
use Rattle.tn_node.specs.declared.step_outcome.Moved.{Moved}
use Rattle.tn_trace.specs.Tracks.{command_numbered}
use Rattle.tn_trace.specs.Runs.{IsRun, Steps}
use Rattle.tn_trace.specs.Observers.{IsNextMove, IsNextCommand, SeesMove}
use Rattle.tn_trace.specs.declared.journal.JournalEntry.{JournalEntry}
use Rattle.tn_trace.specs.declared.run.PickOutcome as outcome
use Rattle.tn_trace.specs.declared.run.PickOutcome.{PickOutcome}
use Rattle.tn_trace.specs.declared.run.Run.{Run}
use Rattle.tn_trace.proofs.Moves.{nothing_pick, next_events, next_command, entry_moves}

abbrev state_of : Program → ℕ → NodeState
state_of p n = record { world = opening_world p.entries; taken = n }

none_taken : (n : ℕ) → 0 ≡ n - n
none_taken n = omega arith

few_at_most : (limit : ℕ) → min limit 65536 ≤ 65536
few_at_most limit = omega arith

pub first_run : {A O : Type 0} (Seen : O → Program → List ℕ → Type 0) (p : Program) (limit : ℕ) (r : Run A O) → r.node ≡ Some (node_at p (opening_state p)) → Seen r.observer p [] → r.journal.items ≡ [] → r.limit ≡ min limit 65536 → IsRun Seen p (min limit 65536) [] r
first_run Seen p limit r node seen journaled limited = record {
  node = node ∙ ap (λ n. Some (node_at p (state_of p n))) (none_taken (length p.commands));
  seen = seen;
  journaled = journaled;
  moved = refl;
  limited = limited;
  bounded = few_at_most limit;
}

-- what a node answers a pick with
abbrev Answers : {A : Type 0} → ℕ → Option NodeValue → Option NodeValue → Moved A → Type 0
Answers x old new m = IsSomeAnd old (λ n. next_node n (pick_result n.functions n.commands n.state x) ≡ (new, moved_seen m))

-- a pick's result, by what it answers and the state afterwards
abbrev result_of : NodeState → PickAnswer → PickResult
result_of t (answers_events es) = gives_events t es
result_of t (answers_command n) = gives_command t n
result_of t answers_nothing = gives_nothing t

result_is : (n : NodeValue) (r : PickResult) (new : Option NodeValue) (a : PickAnswer) → next_node n r ≡ (new, a)
    → (t : NodeState) × (new ≡ Some (record n { state = t })) × (result_of t a ≡ r)
result_is n (gives_events s es) new a e = (s, sym (ap (λ (p : Option NodeValue × PickAnswer). p.0) e), ap (λ (p : Option NodeValue × PickAnswer). result_of s p.1) (sym e))
result_is n (gives_command s k) new a e = (s, sym (ap (λ (p : Option NodeValue × PickAnswer). p.0) e), ap (λ (p : Option NodeValue × PickAnswer). result_of s p.1) (sym e))
result_is n (gives_nothing s) new a e = (s, sym (ap (λ (p : Option NodeValue × PickAnswer). p.0) e), ap (λ (p : Option NodeValue × PickAnswer). result_of s p.1) (sym e))

node_answer : {A : Type 0} (p : Program) (s : NodeState) (x : ℕ) (old new : Option NodeValue) (m : Moved A) → old ≡ Some (node_at p s) → Answers x old new m
    → (t : NodeState) × (new ≡ Some (node_at p t)) × (result_of t (moved_seen m) ≡ next p s x)
node_answer p s x old new m at h = result_is (node_at p s) (next p s x) new (moved_seen m) (subst (λ o. Answers x o new m) at h)

module _ {A O : Type 0} (Seen : O → Program → List ℕ → Type 0) (p : Program) (limit : ℕ) (picks : List ℕ) (old : Run A O) (run : IsRun Seen p limit picks old) (count : ℕ) (counted : count ≡ length old.journal.items) where
  size : count ≡ length picks
  size = counted ∙ ap length run.journaled

  -- another may move, or none
  pub room_left : count < old.limit → length picks < limit
  room_left below = let counted : count ≡ length picks = size in let most : old.limit ≡ limit = run.limited in omega arith

  pub none_left : old.limit ≤ count → limit ≤ length picks
  none_left full = let counted : count ≡ length picks = size in let most : old.limit ≡ limit = run.limited in omega arith

  -- memory was refused
  pub refused_step : {G : Type 0} (Adds : Program → List ℕ → ℕ → O → O → G → G → Type 0) (x : ℕ) (new : Run A O) (out out' : G) (r : Result PickOutcome AllocError) → count < old.limit → IsErr r
      → MatchResult r (λ came. Steps Seen Adds p limit picks x came old new out out') (λ _. length picks < limit)
  refused_step Adds x new out out' (Ok came) below h = cc
  refused_step Adds x new out out' (Err e) below h = room_left below

  few : count < old.limit → length (moves p picks) < 65536
  few below =
      let room : length picks < limit = room_left below in
      let all : length (moves p picks) ≡ length picks = ap length run.moved in
      let most : limit ≤ 65536 = run.bounded in
      omega arith

  number : count + 1 ≡ suc (length picks)
  number = let counted : count ≡ length picks = size in omega arith

  module _ {G : Type 0} (Adds : Program → List ℕ → ℕ → O → O → G → G → Type 0) (x : ℕ) (below : count < old.limit) (node : Option NodeValue) (m : Moved A) (answers : Answers x old.node node m) where
    abbrev entry : JournalEntry
    entry = record { number = count + 1; pick = x }

    pub idle_step : (out : G) → m ≡ code.TheVariants.Idle → Steps Seen Adds p limit picks x outcome.TheVariants.Idle old (record old { node = node }) out out
    idle_step out is =
        let r = node_answer p (state_at p (run_state_of p picks)) x old.node node m run.node answers in
        let n = nothing_pick p picks x r.0 (few below) (sym (ap (λ k. result_of r.0 (moved_seen k)) is) ∙ r.2) in (
          room_left below,
          record { node = r.1 ∙ ap (λ s. Some (node_at p s)) n.0; seen = run.seen; journaled = run.journaled; moved = run.moved; limited = run.limited; bounded = run.bounded },
          n.1,
          refl,
          refl,
        )

    -- the observer saw a move, and the journal has it
    moved_step : (new : Run A O) (s : NodeState) (shown : _) (out out' : G) → IsNextMove p picks entry shown → node ≡ Some (node_at p s) → s ≡ state_at p (run_state_of p (picks ++ x ∷ [])) → SeesMove Seen Adds p picks x old.observer new.observer out out'
        → new.node ≡ node → new.limit ≡ old.limit → new.journal.items ≡ old.journal.items ++ x ∷ [] → Steps Seen Adds p limit picks x outcome.TheVariants.Moved old new out out'
    moved_step new s shown out out' next_one at is sees same_node same_limit added = (
      room_left below,
      record {
        node = same_node ∙ at ∙ ap (λ t. Some (node_at p t)) is;
        seen = sees.after;
        journaled = added ∙ ap (λ js. js ++ x ∷ []) run.journaled;
        moved = (entry_moves p picks entry shown next_one).journaled;
        limited = same_limit ∙ run.limited;
        bounded = run.bounded;
      },
      sees.added,
    )

    pub events_step : (es : _) (new : Run A O) (out out' : G) → m ≡ code.TheVariants.Moved es → (IsNextMove p picks (record { number = count + 1; pick = x }) (map event_item (map event_of es.items)) → SeesMove Seen Adds p picks x old.observer new.observer out out')
        → new.node ≡ node → new.limit ≡ old.limit → new.journal.items ≡ old.journal.items ++ x ∷ [] → Steps Seen Adds p limit picks x outcome.TheVariants.Moved old new out out'
    events_step es new out out' is sees same_node same_limit added =
        let r = node_answer p (state_at p (run_state_of p picks)) x old.node node m run.node answers in
        let e = next_events p picks entry r.0 (map event_of es.items) run.moved number (few below) (sym (ap (λ k. result_of r.0 (moved_seen k)) is) ∙ r.2) in
        moved_step new r.0 (map event_item (map event_of es.items)) out out' e.0 r.1 e.1 (sees e.0) same_node same_limit added

    pub command_step : (n : ℕ) (c : Command) (new : Run A O) (out out' : G) → m ≡ code.TheVariants.Control n → command_numbered p.commands n ≡ Some c → (IsNextCommand p picks (record { number = count + 1; pick = x }) c → SeesMove Seen Adds p picks x old.observer new.observer out out')
        → new.node ≡ node → new.limit ≡ old.limit → new.journal.items ≡ old.journal.items ++ x ∷ [] → Steps Seen Adds p limit picks x outcome.TheVariants.Moved old new out out'
    command_step n c new out out' is found sees same_node same_limit added =
        let r = node_answer p (state_at p (run_state_of p picks)) x old.node node m run.node answers in
        let d = next_command p picks entry r.0 n run.moved number (few below) (sym (ap (λ k. result_of r.0 (moved_seen k)) is) ∙ r.2) in
        let known : command_numbered p.commands n ≡ Some d.0 = d.2 in
        let one : d.0 ≡ c = cc in
        moved_step new r.0 _ out out' d.1.move r.1 d.3 (sees (subst (IsNextCommand p picks entry) one d.1)) same_node same_limit added

    pub no_command_step : {X : Type 0} (n : ℕ) → m ≡ code.TheVariants.Control n → command_numbered p.commands n ≡ None → X
    no_command_step {X} n is found =
        let r = node_answer p (state_at p (run_state_of p picks)) x old.node node m run.node answers in
        let d = next_command p picks entry r.0 n run.moved number (few below) (sym (ap (λ k. result_of r.0 (moved_seen k)) is) ∙ r.2) in
        let known : command_numbered p.commands n ≡ Some d.0 = d.2 in
        cc
