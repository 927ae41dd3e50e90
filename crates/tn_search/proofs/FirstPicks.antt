-- Picks by which a process moves alone, and when one goes first.
use Rattle.std.proofs.Common.{◌≡◌, ◌∙◌, ◌<◌, ◌+◌, ◌||◌, ◌==◌, inl, inr, ℕ, zero, suc, Bool, true, false, not, cond, List, [], ◌∷◌, length, map, Option, Some, refl, sym, ap, subst, arith}
use Rattle.std.specs.Prelude.{IfSome, nat_lt}
use Rattle.std.specs.Option.{IsSomeAnd}
use Rattle.std.proofs.lemmas.Bool.Decides.{nat_tests}
use Rattle.def_term.specs.Names.{Name}
use Rattle.def_term.specs.Tree.{Tree}
use Rattle.def_script.specs.Program.{Command, Function, Program}
use Rattle.def_node.specs.Event.{Event}
use Rattle.def_node.specs.Node.{World, Move, moved, idle, NodeState, gives_command, gives_nothing, of_move, pick_result, next, next_of}
use Rattle.def_run.specs.Run.{RunState, moves, run_state_of, start, pick_step, pick_step_with, takes_command}
use Rattle.def_run.specs.Laws.{state_at}
use Rattle.def_run.proofs.Replay.{room_spent}
use Rattle.def_explore.specs.Rests.{by_process}
use Rattle.def_explore.specs.Alike.{is_pick_among, AreIndependent}
use Rattle.def_independence.specs.Alone.{have_link, have_unlink, shows_nothing, shows_nothing_after, shows_own_steps, shows_own_steps_after}
use Rattle.def_independence.specs.OwnEffects.{none_is_to_one}
use Rattle.def_independence.proofs.Calls.{calls_independent}
use Rattle.def_independence.proofs.Numbers.{not_same}
use Rattle.def_independence.proofs.OwnSteps.{own_steps_alone, silent_independent}
use Rattle.tn_node.specs.Nodes.{NodeValue, PickAnswer, answers_events, answers_command, answers_nothing, node_at, next_node, moved_seen, taken_in}
use Rattle.tn_node.specs.declared.step_outcome.Moved.{Moved}
use Rattle.tn_node.specs.declared.step_outcome.Moved.TheVariants as outcomes
use Rattle.tn_program.specs.Views.{program_of}
use Rattle.tn_program.specs.declared.parts.Program as code
use Rattle.tn_messages.specs.MessageViews.{question_of}
use Rattle.tn_explore.specs.Query.{Query, HasJournalRoom, AreFirstFor}
use Rattle.tn_explore.specs.SearchStates.{HaveAllMoves, AreEnough}
use Rattle.tn_search.specs.FirstPicks.{IsFirstPick, HasNoLinks, HasProcessesAlone, LeavesSessionsFree, GoesFirst}
use Rattle.tn_search.specs.Probes.{IsNodeAfter, AnswersPick, has_no_event, has_own_steps}
use Rattle.tn_search.specs.ReadyPicks.{has_command_left}
use Rattle.tn_search.specs.States.{IsStateFor, state_journal}
use Rattle.tn_search.specs.declared.program_state.ProgramState.{ProgramState}
use Rattle.tn_search.proofs.ReadyPicks.{unready_idles}

-- ---- what a node answers

pub none_in : {X : Type 0} (f : X → Event) (xs : List X) → (length xs == 0) ≡ has_no_event (answers_events (map f xs))
none_in f [] = refl
none_in f (x ∷ xs) = not_same (suc (length xs)) 0 (λ e. omega (arith, e))

-- of one that is no move of a process, what is said of moves alone is not so
pub not_moved : {A : Type 0} (has : PickAnswer → Bool) → ((n : ℕ) → false ≡ has (answers_command n)) → false ≡ has answers_nothing → (m : Moved A) → ((es : _) → m ≡ outcomes.Moved es → ⊥) → false ≡ has (moved_seen m)
not_moved has command nothing (outcomes.Moved es) other = absurd (other es refl)
not_moved has command nothing (outcomes.Control n) other = command n
not_moved has command nothing outcomes.Idle other = nothing

-- what is said of the events of a move, and of no other answer, is said of what the definitions give
module _ (shows : Move → Bool) (has : PickAnswer → Bool) (events : (w : World) (es : List Event) → shows (moved w es) ≡ has (answers_events es)) (still : (w : World) → shows (idle w) ≡ false)
    (command : (n : ℕ) → has (answers_command n) ≡ false) (nothing : has answers_nothing ≡ false) where
  by_move : (n : NodeValue) (s : NodeState) (m : Move) (new : Option NodeValue) (a : PickAnswer) → next_node n (of_move s m) ≡ (new, a) → shows m ≡ has a
  by_move n s (moved w es) new a e = events w es ∙ ap (λ (r : Option NodeValue × PickAnswer). has r.1) e
  by_move n s (idle w) new a e = still w ∙ sym nothing ∙ ap (λ (r : Option NodeValue × PickAnswer). has r.1) e

  by_command : (n : NodeValue) (b : Bool) (s t : NodeState) (k : ℕ) (new : Option NodeValue) (a : PickAnswer) → next_node n (cond b (gives_command s k) (gives_nothing t)) ≡ (new, a) → false ≡ has a
  by_command n true s t k new a e = sym (command k) ∙ ap (λ (r : Option NodeValue × PickAnswer). has r.1) e
  by_command n false s t k new a e = sym nothing ∙ ap (λ (r : Option NodeValue × PickAnswer). has r.1) e

  by_pick : (p : Program) (picks : List ℕ) (pick : ℕ) (new : Option NodeValue) (a : PickAnswer) → next_node (node_at p (state_at p (run_state_of p picks))) (next p (state_at p (run_state_of p picks)) pick) ≡ (new, a) → shows (next_of p.functions (run_state_of p picks).world pick) ≡ has a
  by_pick p picks zero new a e =
      let s : NodeState = state_at p (run_state_of p picks) in
      still (run_state_of p picks).world ∙ by_command (node_at p s) (nat_lt s.taken (length p.commands)) (record s { taken = suc s.taken }) s (suc s.taken) new a e
  by_pick p picks (suc n) new a e =
      let s : NodeState = state_at p (run_state_of p picks) in
      by_move (node_at p s) s (next_of p.functions s.world (suc n)) new a e

  pub shown_after : (pick : ℕ) (node : Option NodeValue) (a : PickAnswer) → AnswersPick pick node a → (p : Program) (picks : List ℕ) → IsNodeAfter p picks node → shows (next_of p.functions (run_state_of p picks).world pick) ≡ has a
  shown_after pick node a answers p picks here =
      by_pick p picks pick answers.after a (subst (λ o. IsSomeAnd o (λ n. next_node n (pick_result n.functions n.commands n.state pick) ≡ (answers.after, a))) here.at answers.gives)

by_no_event : (w : World) (es : List Event) → shows_nothing (moved w es) ≡ has_no_event (answers_events es)
by_no_event w [] = refl
by_no_event w (e ∷ es) = refl

silent_after : (pick : ℕ) (node : Option NodeValue) (a : PickAnswer) → AnswersPick pick node a → (p : Program) (picks : List ℕ) → IsNodeAfter p picks node → shows_nothing_after p picks pick ≡ has_no_event a
silent_after = shown_after shows_nothing has_no_event by_no_event (λ w. refl) (λ n. refl) refl

own_after : (pick : ℕ) (node : Option NodeValue) (a : PickAnswer) → AnswersPick pick node a → (p : Program) (picks : List ℕ) → IsNodeAfter p picks node → shows_own_steps_after p picks pick ≡ has_own_steps a
own_after = shown_after shows_own_steps has_own_steps (λ w es. refl) (λ w. refl) (λ n. refl) refl

-- ---- no command is left

idle_has_none : (ks : List Function) (q : RunState) (room : ℕ) (cs : List Command) → q.room ≡ suc room → q.commands ≡ cs → (pick_step ks q 0).moved ≡ false → cs ≡ []
idle_has_none ks q room [] left is idles = refl
idle_has_none ks q room (c ∷ cs) left is idles =
    let moves : (pick_step ks q 0).moved ≡ true = ap (λ r. (pick_step_with ks q r 0).moved) left ∙ ap (λ ds. (takes_command q room ds).moved) is in
    absurd (both_ways (pick_step ks q 0).moved moves idles)
  where
    both_ways : (b : Bool) → b ≡ true → b ≡ false → ⊥
    both_ways b h k = cc

room_is : (n : ℕ) → 0 < n → (r : ℕ) × (n ≡ suc r)
room_is zero h = absurd (omega (arith, h))
room_is (suc n) h = (n, refl)

none_left : (p : Program) (picks : List ℕ) (node : Option NodeValue) → IsNodeAfter p picks node → has_command_left (length p.commands) (taken_in node) ≡ false → (run_state_of p picks).commands ≡ []
none_left p picks node here none =
    let spent : length (moves p picks) + (run_state_of p picks).room ≡ 65536 = room_spent p.functions (start p) picks in
    let some : 0 < (run_state_of p picks).room = omega (arith, spent, here.room) in
    let left = room_is (run_state_of p picks).room some in
    idle_has_none p.functions (run_state_of p picks) left.0 (run_state_of p picks).commands left.1 refl (unready_idles p picks 0 node here none)

none_to : (ss : List Name) → none_is_to_one ss [] ≡ true
none_to [] = refl
none_to (s ∷ ss) = none_to ss

-- ---- one pick alone

among_itself : (t : ℕ) → is_pick_among t (t ∷ []) ≡ true
among_itself t = ap (λ b. b || false) (same_self t)
  where
    same_self : (n : ℕ) → (n == n) ≡ true
    same_self n = grind (arith, nat_tests)

pub not_true : (b : Bool) → not b ≡ true → b ≡ false
not_true true h = cc
not_true false h = refl

pub neither : (a b : Bool) → (a || b) ≡ false → (a ≡ false) × (b ≡ false)
neither true b h = cc
neither false b h = (refl, h)

module _ {A K F : Type 0} (Keeps : K → List Tree → Type 0) (b : Bool) (x : code.Program A) (s : ProgramState A K F) where
  pub has_room_for : (a : Query) → IsStateFor Keeps b x s a → length (state_journal s) < 65536 → HasJournalRoom a (state_journal s)
  has_room_for a is room =
      let long : length (moves a.program (state_journal s)) ≡ length (state_journal s) = ap length is.run.moved in
      omega (arith, room, long)

  node_here : (node : Option NodeValue) → node ≡ s.run.node → length (state_journal s) < 65536 → (a : Query) → IsStateFor Keeps b x s a → IsNodeAfter a.program (state_journal s) node
  node_here node same room a is = record { at = same ∙ is.run.node; room = has_room_for a is room }

  without_links : (a : Query) → IsStateFor Keeps b x s a → HasNoLinks x s → (have_link a.program.functions ≡ false) × (have_unlink a.program.functions ≡ false)
  without_links a is none = (
    ap (λ (p : Program). have_link p.functions) (sym is.program) ∙ none.links,
    ap (λ (p : Program). have_unlink p.functions) (sym is.program) ∙ none.unlinks,
  )

  alone_first : (pick : ℕ) → HasNoLinks x s → ((a : Query) → IsStateFor Keeps b x s a → AreIndependent a.question a.sessions a.program (state_journal s) (pick ∷ [])) → IsFirstPick Keeps b x s pick
  alone_first pick none independent a is every = record {
    room = has_room_for a is none.room;
    all = every;
    one = pick;
    there = among_itself pick;
    independent = independent a is;
  }

  -- a move that shows nothing
  pub silent_first : (node : Option NodeValue) (pick : ℕ) (answer : PickAnswer) (alone : Bool) → node ≡ s.run.node → AnswersPick pick node answer → has_no_event answer ≡ true → GoesFirst Keeps b x s alone pick
  silent_first node pick answer alone same answers shows none processes = alone_first pick none (λ a is.
      let links = without_links a is none in
      silent_independent a.question a.sessions a.program (state_journal s) pick links.0 links.1
      (silent_after pick node answer answers a.program (state_journal s) (node_here node same none.room a is) ∙ shows))

  -- a move that shows calls, returns and exceptions alone
  pub own_first : (node : Option NodeValue) (pick : ℕ) (answer : PickAnswer) (alone : Bool) → node ≡ s.run.node → AnswersPick pick node answer → has_own_steps answer ≡ true → alone ≡ true → LeavesSessionsFree Keeps b x s pick → GoesFirst Keeps b x s alone pick
  own_first node pick answer alone same answers shows is_alone free none processes =
      let there : HasProcessesAlone b x s = processes is_alone in
      alone_first pick none (λ a is.
      let links = without_links a is none in
      let here : IsNodeAfter a.program (state_journal s) node = node_here node same none.room a is in
      let left : has_command_left (length a.program.commands) (taken_in node) ≡ false =
      ap (λ (p : Program). has_command_left (length p.commands) (taken_in node)) (sym is.program) ∙ ap (λ o. has_command_left (length (program_of x).commands) (taken_in o)) same ∙ there.commands in
      let commands = none_left a.program (state_journal s) node here left in
      let asked : a.question ≡ by_process = is.question ∙ ap question_of there.by_process in
      subst (λ q. AreIndependent q a.sessions a.program (state_journal s) (pick ∷ [])) (sym asked)
      (calls_independent a.sessions a.program (state_journal s) pick (record {
        links = links.0;
        alone = own_steps_alone a.program (state_journal s) pick links.0 links.1 (own_after pick node answer answers a.program (state_journal s) here ∙ shows);
        commands = ap (none_is_to_one a.sessions) commands ∙ none_to a.sessions;
        effects = (free a is).0.effects;
        before = (free a is).0.receives;
        after = (free a is).1.receives;
      })))

-- ---- the picks that are tried

pub enough_all : (left : Bool) (a : Query) (journal picks : List ℕ) → HaveAllMoves a journal picks → AreEnough left a journal picks
enough_all true a journal picks h = inl h
enough_all false a journal picks h = h

pub enough_first : (left : Bool) (a : Query) (journal picks : List ℕ) (pick : ℕ) → left ≡ true → picks ≡ pick ∷ [] → AreFirstFor a journal (pick ∷ []) → AreEnough left a journal picks
enough_first left a journal picks pick is alone h = subst (λ l. AreEnough l a journal picks) (sym is) (inr (subst (AreFirstFor a journal) (sym alone) h))

pub if_some : {X : Type 0} (P : X → Type 0) (o : Option X) (x : X) → o ≡ Some x → IfSome o P → P x
if_some P o x is h = subst (λ r. IfSome r P) is h
