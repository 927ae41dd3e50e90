-- Steps of a state, its picks, and when two states are the same.
use Rattle.std.proofs.Common.{◌≡◌, ◌∙◌, ◌+◌, ◌<◌, ◌≤◌, ℕ, Bool, true, false, List, [], ◌∷◌, ◌++◌, length, take, Option, Some, refl, sym, ap, subst, arith, if◌then◌else◌, length-append}
use Rattle.std.specs.List.{Contains, filter}
use Rattle.std.proofs.lemmas.List.{length-map, take_all}
use Rattle.def_term.specs.Tree.{Tree}
use Rattle.def_script.specs.Program.{Program}
use Rattle.def_script.specs.Exports.{exports_of}
use Rattle.def_node.specs.Node.{NodeState}
use Rattle.def_run.specs.Run.{JOURNAL, RunState, moves, run_state_of, start, pick_step_after}
use Rattle.def_run.specs.Round.{pass}
use Rattle.def_run.specs.Laws.{IsIdleAfter, state_at}
use Rattle.def_run.specs.Listing.{messages}
use Rattle.def_run.proofs.Picks.{full_journal_stays}
use Rattle.def_run.proofs.Replay.{room_spent}
use Rattle.def_explore.specs.Alike.{IsStateAlike}
use Rattle.def_explore.specs.Lists.{EachOf}
use Rattle.def_explore.specs.Rests.{IsMovingAfter, KeptMessages, kept_in}
use Rattle.def_explore.proofs.Passes.{moves_are_of_a_pass}
use Rattle.tn_term.specs.Views.{alive_of}
use Rattle.tn_program.specs.Views.{program_of}
use Rattle.tn_program.specs.declared.parts.Program as code
use Rattle.tn_node.specs.Nodes.{NodeValue, state_in}
use Rattle.tn_trace.specs.Tracks.{tracks_of}
use Rattle.tn_trace.specs.Recorders.{HasRecorded}
use Rattle.tn_trace.specs.Runs.{IsRun, Steps}
use Rattle.tn_trace.specs.Follows.{Follows}
use Rattle.tn_trace.specs.Shares.{IsRunCopy}
use Rattle.tn_trace.specs.declared.recorder.Recorder.{Recorder}
use Rattle.tn_trace.specs.declared.run.PickOutcome.{PickOutcome}
use Rattle.tn_trace.specs.declared.run.PickOutcome.TheVariants.{Moved, Idle, Full}
use Rattle.tn_trace.specs.declared.run.Run.{Run}
use Rattle.tn_trace.proofs.Moves.{moves_more}
use Rattle.tn_explore.specs.Query.{Query, AlikeFor, kept_for}
use Rattle.tn_explore.specs.SearchStates.{StepGives, IsAdmitted}
use Rattle.tn_messages.specs.MessageViews.{kept_lists}
use Rattle.tn_messages.proofs.SessionLists.{kept_of_lists}
use Rattle.tn_search.specs.Probes.{IsNodeAfter}
use Rattle.tn_search.specs.ReadyPicks.{may_move_by}
use Rattle.tn_search.specs.Sessions.{AreSameAt, AreKeptAt, AreSinksOf, names_at, elements_at, track_messages}
use Rattle.tn_search.specs.States.{IsStateFor, IsFilterFor, state_journal, query_of}
use Rattle.tn_search.specs.declared.program_state.ProgramState.{ProgramState}
use Rattle.tn_search.proofs.Places.{alike_at, messages_at}
use Rattle.tn_search.proofs.ReadyPicks.{moving_may_move, among_filtered}
use Rattle.tn_search.proofs.RunStates.{run_state_is}

-- ---- a step

-- a pick that is journaled moves
moved_if : (picks : List ℕ) (pick : ℕ) (b : Bool) → picks ++ (if b then pick ∷ [] else []) ≡ picks ++ pick ∷ [] → b ≡ true
moved_if picks pick true e = refl
moved_if picks pick false e =
    let long : length (picks ++ []) ≡ length (picks ++ pick ∷ []) = ap length e in
    let one : length (picks ++ []) ≡ length picks + 0 = length-append picks [] in
    let two : length (picks ++ pick ∷ []) ≡ length picks + 1 = length-append picks (pick ∷ []) in
    absurd (omega arith)

moves_then : (p : Program) (picks : List ℕ) (pick : ℕ) → moves p picks ≡ picks → moves p (picks ++ pick ∷ []) ≡ picks ++ pick ∷ [] → IsMovingAfter p picks pick
moves_then p picks pick all more =
    let b : Bool = (pick_step_after p picks pick).moved in
    moved_if picks pick b (ap (λ xs. xs ++ (if b then pick ∷ [] else [])) (sym all) ∙ sym (moves_more p picks pick) ∙ more)

-- a full journal moves no more
full_idles : (p : Program) (picks : List ℕ) (pick : ℕ) → moves p picks ≡ picks → 65536 ≤ length picks → IsIdleAfter p picks pick
full_idles p picks pick all full =
    let spent : length (moves p picks) + (run_state_of p picks).room ≡ 65536 = room_spent p.functions (start p) picks in
    let long : length (moves p picks) ≡ length picks = ap length all in
    full_journal_stays p picks pick (omega arith)

-- a state with the same sessions as another, whose run is by these picks
state_at_run : {A K F : Type 0} (Keeps : K → List Tree → Type 0) (b : Bool) (x : code.Program A) (s t : ProgramState A K F) (a : Query) → IsStateFor Keeps b x s a → (picks : List ℕ) → t.places.items ≡ s.places.items
    → IsRun (HasRecorded Keeps) a.program JOURNAL picks t.run → IsStateFor Keeps b x t a
state_at_run Keeps b x s t a is picks places after = record {
  program = is.program;
  run = subst (λ xs. IsRun (HasRecorded Keeps) a.program JOURNAL xs t.run) (sym after.journaled) after;
  question = is.question;
  sessions = is.sessions ∙ ap (names_at a.program) (sym places);
}

pub shared : {A K F : Type 0} (Keeps : K → List Tree → Type 0) (b : Bool) (x : code.Program A) (s t : ProgramState A K F) (a : Query) → IsStateFor Keeps b x s a → t.places.items ≡ s.places.items
    → IsRunCopy Keeps s.run t.run → (state_journal t ≡ state_journal s) × IsStateFor Keeps b x t a
shared Keeps b x s t a is places shares =
    let after : IsRun (HasRecorded Keeps) a.program JOURNAL (state_journal s) t.run = shares a.program JOURNAL (state_journal s) is.run in
    (after.journaled, state_at_run Keeps b x s t a is (state_journal s) places after)

module _ {A K F G : Type 0} (Keeps : K → List Tree → Type 0) (b : Bool) (Adds : Program → List ℕ → ℕ → Recorder A K → Recorder A K → G → G → Type 0) (x : code.Program A) (s : ProgramState A K F) (a : Query) (is : IsStateFor Keeps b x s a)
    (new : Run A (Recorder A K)) (pick : ℕ) (out out' : G) (o : PickOutcome)
    (takes : (limit : ℕ) (picks : List ℕ) → IsRun (HasRecorded Keeps) (program_of x) limit picks s.run → Steps (HasRecorded Keeps) Adds (program_of x) limit picks pick o s.run new out out') where
  came : (w : PickOutcome) → o ≡ w → Steps (HasRecorded Keeps) Adds a.program JOURNAL (state_journal s) pick w s.run new out out'
  came w same =
      let own : IsRun (HasRecorded Keeps) (program_of x) JOURNAL (state_journal s) s.run = subst (λ p. IsRun (HasRecorded Keeps) p JOURNAL (state_journal s) s.run) (sym is.program) is.run in
      subst (λ y. Steps (HasRecorded Keeps) Adds a.program JOURNAL (state_journal s) pick y s.run new out out') same
      (subst (λ p. Steps (HasRecorded Keeps) Adds p JOURNAL (state_journal s) pick o s.run new out out') is.program (takes JOURNAL (state_journal s) own))

  pub on_moved : (t : ProgramState A K F) → o ≡ Moved → t.places.items ≡ s.places.items → t.run ≡ new → StepGives state_journal (IsStateFor Keeps b x) a (state_journal s) pick t true
  on_moved t same places run =
      let h = came Moved same in
      let after : IsRun (HasRecorded Keeps) a.program JOURNAL (state_journal s ++ pick ∷ []) t.run = subst (IsRun (HasRecorded Keeps) a.program JOURNAL (state_journal s ++ pick ∷ [])) (sym run) h.1 in (
        moves_then a.program (state_journal s) pick is.run.moved after.moved,
        after.journaled,
        state_at_run Keeps b x s t a is (state_journal s ++ pick ∷ []) places after,
      )

  pub on_idle : o ≡ Idle → IsIdleAfter a.program (state_journal s) pick
  on_idle same = (came Idle same).2

  pub on_full : o ≡ Full → IsIdleAfter a.program (state_journal s) pick
  on_full same = full_idles a.program (state_journal s) pick is.run.moved (came Full same).0

-- ---- picks

module _ {A K F : Type 0} (Keeps : K → List Tree → Type 0) (b : Bool) (x : code.Program A) (s : ProgramState A K F) (a : Query) (is : IsStateFor Keeps b x s a) where
  few : length a.program.entries ≤ 64
  few =
      let same : length a.program.entries ≡ length x.entries.items = ap (λ (p : Program). length p.entries) (sym is.program) ∙ length-map x.entries.items _ in
      let most : length x.entries.items ≤ 16 = x.few_processes in
      omega arith

  pub all_moves : (node : Option NodeValue) (picks ready : List ℕ) (pick : ℕ) → node ≡ s.run.node → picks ≡ pass → length (state_journal s) < 65536 → ready ≡ filter (may_move_by (program_of x) node) picks → IsMovingAfter a.program (state_journal s) pick → Contains ready pick
  all_moves node picks ready pick same all room those h =
      let long : length (moves a.program (state_journal s)) ≡ length (state_journal s) = ap length is.run.moved in
      let here : IsNodeAfter a.program (state_journal s) node = record { at = same ∙ is.run.node; room = omega arith } in
      let may : may_move_by (program_of x) node pick ≡ true = ap (λ (p : Program). may_move_by p node pick) is.program ∙ moving_may_move a.program (state_journal s) pick node here h in
      let one : Contains picks pick = subst (λ ps. Contains ps pick) (sym all) (moves_are_of_a_pass a.program (state_journal s) pick few h) in
      subst (λ ps. Contains ps pick) (sym those) (among_filtered (may_move_by (program_of x) node) picks pick one may)

  pub no_moves : (moving : List ℕ) (pick : ℕ) → 65536 ≤ length (state_journal s) → IsMovingAfter a.program (state_journal s) pick → Contains moving pick
  no_moves moving pick full h = absurd (both_ways (pick_step_after a.program (state_journal s) pick).moved h (full_idles a.program (state_journal s) pick is.run.moved full))
    where
      both_ways : (d : Bool) → d ≡ true → d ≡ false → ⊥
      both_ways d e f = cc

  -- ---- what is kept

  pub observed : (sinks : List K) (kept : KeptMessages) → AreKeptAt Keeps s.places.items s.run.observer.slots.items sinks → ((mss : List (List Tree)) → AreSinksOf Keeps mss sinks → kept ≡ kept_lists b mss) → kept ≡ kept_for a (state_journal s)
  observed sinks kept at gathers =
      let p : Program = a.program in
      let mss : List (List Tree) = track_messages (elements_at s.places.items (tracks_of p (state_journal s))) in
      gathers mss (at (exports_of p) (alive_of s.run.observer.living) (tracks_of p (state_journal s)) is.run.seen.sessions)
      ∙ ap (kept_lists b) (messages_at p (state_journal s) s.places.items)
      ∙ sym (kept_of_lists b (names_at p s.places.items) (λ y. messages y p (state_journal s)))
      ∙ ap (λ q. kept_in q (names_at p s.places.items) p (state_journal s)) (sym is.question)
      ∙ ap (λ ss. kept_in a.question ss p (state_journal s)) (sym is.sessions)

-- ---- the same state

module _ {A K F : Type 0} (Keeps : K → List Tree → Type 0) (b : Bool) (x : code.Program A) (s t : ProgramState A K F) (a : Query) (is : IsStateFor Keeps b x s a) (also : IsStateFor Keeps b x t a) where
  some_state : (m n : NodeState) → Some m ≡ Some n → m ≡ n
  some_state m n e = cc

  same_place : length (state_journal s) ≡ length (state_journal t) → state_in s.run.node ≡ state_in t.run.node → run_state_of a.program (state_journal s) ≡ run_state_of a.program (state_journal t)
  same_place long node =
      run_state_is a.program (state_journal s) (state_journal t)
      (some_state (state_at a.program (run_state_of a.program (state_journal s))) (state_at a.program (run_state_of a.program (state_journal t))) (sym (ap state_in is.run.node) ∙ node ∙ ap state_in also.run.node))
      (ap length is.run.moved ∙ long ∙ sym (ap length also.run.moved))

  pub same_states : length (state_journal s) ≡ length (state_journal t) → state_in s.run.node ≡ state_in t.run.node → alive_of s.run.observer.living ≡ alive_of t.run.observer.living
      → EachOf (AreSameAt Keeps b s.run.observer.slots.items t.run.observer.slots.items) s.places.items → AlikeFor a (state_journal s) (state_journal t)
  same_states long node living each =
      let place = same_place long node in
      let r = alike_at Keeps b a.program (state_journal s) (state_journal t) (alive_of s.run.observer.living) (alive_of t.run.observer.living) s.run.observer.slots.items t.run.observer.slots.items
      (ap (λ (r : RunState). r.commands) place) living is.run.seen.sessions also.run.seen.sessions s.places.items each in
      subst (λ ss. IsStateAlike a.question ss a.program (state_journal s) (state_journal t)) (sym is.sessions)
      (subst (λ q. IsStateAlike q (names_at a.program s.places.items) a.program (state_journal s) (state_journal t)) (sym is.question)
      (record {
        place = place;
        sessions = r.0;
        kept = kept_of_lists b (names_at a.program s.places.items) (λ y. messages y a.program (state_journal s)) ∙ r.1 ∙ sym (kept_of_lists b (names_at a.program s.places.items) (λ y. messages y a.program (state_journal t)));
      }))

-- ---- the first state

module _ {A K F : Type 0} (Keeps : K → List Tree → Type 0) (b : Bool) (x : code.Program A) (before places : List ℕ) (s : ProgramState A K F) (at : s.places.items ≡ places)
    (follows : Follows (HasRecorded Keeps) (program_of x) 65536 before s.run) where
  whole : take 65536 (moves (program_of x) before) ≡ moves (program_of x) before
  whole =
      let p = program_of x in
      let spent : length (moves p before) + (run_state_of p before).room ≡ 65536 = room_spent p.functions (start p) before in
      take_all 65536 (moves p before) (omega arith)

  pub first_journal : state_journal s ≡ moves (program_of x) before
  first_journal = follows.journaled ∙ whole

  pub first_is : (admits : KeptMessages → Bool) → IsStateFor Keeps b x s (query_of admits b (program_of x) before places)
  first_is admits = record {
    program = refl;
    run = subst (λ xs. IsRun (HasRecorded Keeps) (program_of x) JOURNAL xs s.run) (sym follows.journaled) follows;
    question = refl;
    sessions = ap (names_at (program_of x)) (sym at);
  }

-- ---- a filter

-- where it admits all, and else as it says
pub admitted_by_open : {A K F : Type 0} (Keeps : K → List Tree → Type 0) (b : Bool) (Admits : F → KeptMessages → Bool) (f : F) (s : ProgramState A K F) → ((kept : KeptMessages) → Admits f kept ≡ true) → (x : code.Program A) → IsAdmitted state_journal (IsStateFor Keeps b x) (IsFilterFor Admits) f s true
admitted_by_open Keeps b Admits f s all x a is filters = filters (kept_for a (state_journal s)) ∙ all (kept_for a (state_journal s))

pub admitted_by : {A K F : Type 0} (Keeps : K → List Tree → Type 0) (b : Bool) (Admits : F → KeptMessages → Bool) (f : F) (s : ProgramState A K F) (m : KeptMessages) (result : Bool) → Admits f m ≡ result
    → ((x : code.Program A) (a : Query) → IsStateFor Keeps b x s a → m ≡ kept_for a (state_journal s)) → (x : code.Program A) → IsAdmitted state_journal (IsStateFor Keeps b x) (IsFilterFor Admits) f s result
admitted_by Keeps b Admits f s m result is keeps x a here filters = filters (kept_for a (state_journal s)) ∙ ap (Admits f) (sym (keeps x a here)) ∙ is
