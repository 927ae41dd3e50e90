-- The commands that a run takes are the program's: where a test holds of none of these, it holds of none of those.
use Rattle.std.proofs.Common.{◌≡◌, ℕ, zero, suc, Bool, true, false, List, [], ◌∷◌, ◌++◌, map, if◌then◌else◌}
use Rattle.std.specs.List.{list_any, AllByRecursion}
use Rattle.std.proofs.lemmas.Bool.{or_parts}
use Rattle.def_script.specs.Program.{Function, Command, Program}
use Rattle.def_script.specs.Exports.{Exports, exports_of}
use Rattle.def_node.specs.Event.{Event}
use Rattle.def_node.specs.Node.{Move, moved, idle, next_of}
use Rattle.def_outlook.specs.Outlook.{outlook}
use Rattle.def_run.specs.Run.{HistoryItem, event_item, command_item, RunState, PickStep, takes_command, goes_to, pick_step_in, pick_step_with, pick_step, start}
use Rattle.def_run.specs.History.{NamedSession, Moment, all_after, all_after_items, named_sessions, moments_from, move_history, move_histories_from, moments_of, history}

module _ (test : Command → Bool) where
  -- what is shown is an event, or a command of which the test doesn't hold
  abbrev pub IsWithout : HistoryItem → Type 0
  IsWithout (event_item e) = Unit {0}
  IsWithout (command_item c) = test c ≡ false

  -- it holds of no command that the pick takes, and of none that is left
  abbrev pub IsStepWithout : PickStep → Type 0
  IsStepWithout t = AllByRecursion IsWithout t.shown × (list_any test t.after.commands ≡ false)

  command-without : (p : RunState) (room : ℕ) (cs : List Command) → list_any test p.commands ≡ false → list_any test cs ≡ false → IsStepWithout (takes_command p room cs)
  command-without p room [] h k = (tt, h)
  command-without p room (c ∷ cs) h k =
      let both : (test c ≡ false) × (list_any test cs ≡ false) = or_parts (test c) _ k in
      ((both.0, tt), both.1)

  events-without : (es : List Event) → AllByRecursion IsWithout (map event_item es)
  events-without [] = tt
  events-without (e ∷ es) = (tt, events-without es)

  move-without : (p : RunState) (room : ℕ) (m : Move) → list_any test p.commands ≡ false → IsStepWithout (goes_to p room m)
  move-without p room (idle w) h = (tt, h)
  move-without p room (moved w es) h = (events-without es, h)

  pick-in-without : (fs : List Function) (p : RunState) (room pick : ℕ) → list_any test p.commands ≡ false → IsStepWithout (pick_step_in fs p room pick)
  pick-in-without fs p room zero h = command-without p room p.commands h h
  pick-in-without fs p room (suc n) h = move-without p room (next_of fs p.world (suc n)) h

  pick-with-without : (fs : List Function) (p : RunState) (room pick : ℕ) → list_any test p.commands ≡ false → IsStepWithout (pick_step_with fs p room pick)
  pick-with-without fs p zero pick h = (tt, h)
  pick-with-without fs p (suc room) pick h = pick-in-without fs p room pick h

  pub pick_without : (fs : List Function) (p : RunState) (pick : ℕ) → list_any test p.commands ≡ false → IsStepWithout (pick_step fs p pick)
  pick_without fs p pick h = pick-with-without fs p p.room pick h

  -- ---- moments

  abbrev pub AreMomentsWithout : List Moment → Type 0
  AreMomentsWithout ms = AllByRecursion (λ m. IsWithout m.item) ms

  both-without : (ms ns : List Moment) → AreMomentsWithout ms → AreMomentsWithout ns → AreMomentsWithout (ms ++ ns)
  both-without [] ns h k = k
  both-without (m ∷ ms) ns h k = (h.0, both-without ms ns h.1 k)

  moments-without : (o : Exports) (k pick : ℕ) (ss : List NamedSession) (xs : List HistoryItem) → AllByRecursion IsWithout xs → AreMomentsWithout (moments_from o k pick ss xs)
  moments-without o k pick ss [] h = tt
  moments-without o k pick ss (x ∷ xs) h = (h.0, moments-without o k pick (all_after o ss x) xs h.1)

  moves-without : (o : Exports) (fs : List Function) (q : RunState) (k : ℕ) (ss : List NamedSession) (picks : List ℕ) → list_any test q.commands ≡ false
      → AreMomentsWithout (moments_of (move_histories_from o fs q k ss picks))
  moves-without o fs q k ss [] h = tt
  moves-without o fs q k ss (pick ∷ picks) h = go (pick_step fs q pick) (pick_step fs q pick).moved (pick_without fs q pick h) (λ r j us g. moves-without o fs r j us picks g)
    where
      go : (t : PickStep) (b : Bool) → IsStepWithout t
          → ((r : RunState) (j : ℕ) (us : List NamedSession) → list_any test r.commands ≡ false → AreMomentsWithout (moments_of (move_histories_from o fs r j us picks)))
          → AreMomentsWithout (moments_of (if b then move_history o (suc k) pick (outlook fs q.world pick) ss t.shown ∷ move_histories_from o fs t.after (suc k) (all_after_items o ss t.shown) picks
          else move_histories_from o fs t.after k ss picks))
      go t true g again =
          both-without (moments_from o (suc k) pick ss t.shown) (moments_of (move_histories_from o fs t.after (suc k) (all_after_items o ss t.shown) picks))
          (moments-without o (suc k) pick ss t.shown g.0) (again t.after (suc k) (all_after_items o ss t.shown) g.1)
      go t false g again = again t.after k ss g.1

-- of a run
pub history_without : (test : Command → Bool) (p : Program) (picks : List ℕ) → list_any test p.commands ≡ false → AreMomentsWithout test (history p picks)
history_without test p picks h = moves-without test (exports_of p) p.functions (start p) 0 (named_sessions p) picks h
