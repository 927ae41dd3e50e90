-- A process's own move, and another pick: whichever comes first, both lead to the same state of a run.
use Rattle.std.proofs.Common.{◌≡◌, ◌⊎◌, inl, inr, ℕ, zero, suc, ◌+◌, ◌<◌, true, false, List, [], ◌∷◌, ◌++◌, length, map, refl, ap, sym, ◌∙◌, subst, append-nil, arith}
use Rattle.std.specs.Prelude.{nat_le}
use Rattle.def_script.specs.Program.{Function, Command, Program}
use Rattle.def_node.specs.Event.{Event}
use Rattle.def_node.specs.Node.{Move, moved, idle, next_of}
use Rattle.def_node.specs.Limits.{world_after}
use Rattle.def_run.specs.Run.{HistoryItem, event_item, command_item, RunState, PickStep, stays, takes_command, goes_to, pick_step_in, pick_step_with, pick_step, history_from, run_state_after, start, run_state_of, moves}
use Rattle.def_run.proofs.Replay.{room_spent}
use Rattle.def_explore.specs.Lists.{EachOf}
use Rattle.def_independence.specs.Alone.{have_link}
use Rattle.def_independence.proofs.Slots.{AllUnlinked}
use Rattle.def_independence.proofs.Worlds.{IsApart, next_unlinked, opening_unlinked, Ready, aside, own_move, Beside, next_beside}

-- ---- no process gets a link

module _ (ks : List Function) (none : have_link ks ≡ false) where
  goes_unlinked : (q : RunState) (room : ℕ) (m : Move) → AllUnlinked q.world.slots → AllUnlinked (world_after m).slots → AllUnlinked (goes_to q room m).after.world.slots
  goes_unlinked q room (moved w es) was now = now
  goes_unlinked q room (idle w) was now = was

  takes_unlinked : (q : RunState) (room : ℕ) (cs : List Command) → AllUnlinked q.world.slots → AllUnlinked (takes_command q room cs).after.world.slots
  takes_unlinked q room [] was = was
  takes_unlinked q room (c ∷ cs) was = was

  pick_unlinked : (q : RunState) (room pick : ℕ) → AllUnlinked q.world.slots → AllUnlinked (pick_step_with ks q room pick).after.world.slots
  pick_unlinked q zero pick was = was
  pick_unlinked q (suc room) zero was = takes_unlinked q room q.commands was
  pick_unlinked q (suc room) (suc n) was = goes_unlinked q room (next_of ks q.world (suc n)) was (next_unlinked ks none q.world (suc n) was)

  after_unlinked : (q : RunState) (picks : List ℕ) → AllUnlinked q.world.slots → AllUnlinked (run_state_after ks q picks).world.slots
  after_unlinked q [] was = was
  after_unlinked q (pick ∷ picks) was = after_unlinked (pick_step ks q pick).after picks (pick_unlinked q q.room pick was)

pub run_unlinked : (p : Program) → have_link p.functions ≡ false → (picks : List ℕ) → AllUnlinked (run_state_of p picks).world.slots
run_unlinked p none picks = after_unlinked p.functions none (start p) picks (opening_unlinked p.entries)

-- ---- room

pub room_left : (p : Program) (picks : List ℕ) → length (moves p picks) < 65536 → (room : ℕ) × ((run_state_of p picks).room ≡ suc room)
room_left p picks few = go (run_state_of p picks).room refl
  where
    spent : length (moves p picks) + (run_state_of p picks).room ≡ 65536
    spent = room_spent p.functions (start p) picks

    go : (room : ℕ) → (run_state_of p picks).room ≡ room → (rest : ℕ) × ((run_state_of p picks).room ≡ suc rest)
    go zero e = absurd (omega (arith, few, spent, e))
    go (suc rest) e = (rest, e)

-- ---- one pick of another

-- the state when the process has made its own move
abbrev pub run_aside : (ks : List Function) (n : ℕ) (es : List Event) (p : RunState) → Ready ks n es p.world → ℕ → RunState
run_aside ks n es p r room = record { world = aside ks n es p.world r; commands = p.commands; room = room }

-- events that are apart from the process n; or the next of these commands
abbrev pub Shown : ℕ → List Command → List HistoryItem → Type 0
Shown n cs xs = ((ds : List Event) × (xs ≡ map event_item ds) × EachOf (IsApart n) ds) ⊎ ((c : Command) × (rest : List Command) × (cs ≡ c ∷ rest) × (xs ≡ command_item c ∷ []))

-- a pick from the state p, and the same from the state with the process's own move made, show the same, and lead to the same but for that move
pub record Parallel (ks : List Function) (n : ℕ) (es : List Event) (p : RunState) (a d : PickStep) : Type 0 where
  pub ready : Ready ks n es a.after.world
  pub room : ℕ
  pub left : a.after.room ≡ suc room
  pub shown : d.shown ≡ a.shown
  pub after : d.after ≡ run_aside ks n es a.after ready room
  pub apart : Shown n p.commands a.shown

-- the pick and the own move lead to the same, whichever comes first
pub record Crossing (ks : List Function) (n : ℕ) (es : List Event) (p : RunState) (o : ℕ) : Type 0 where
  pub ready : Ready ks n es (pick_step ks p o).after.world
  pub place : run_state_after ks p (o ∷ n ∷ []) ≡ run_state_after ks p (n ∷ o ∷ [])
  pub first : history_from ks p (o ∷ n ∷ []) ≡ (pick_step ks p o).shown ++ map event_item es
  pub second : history_from ks p (n ∷ o ∷ []) ≡ map event_item es ++ (pick_step ks p o).shown
  pub apart : Shown n p.commands (pick_step ks p o).shown

-- what a pick 0 does with so much room
abbrev control_with : RunState → ℕ → List Command → PickStep
control_with p zero cs = stays p
control_with p (suc room) cs = takes_command p room cs

control_is : (ks : List Function) (p : RunState) (room : ℕ) → pick_step_with ks p room zero ≡ control_with p room p.commands
control_is ks p zero = refl
control_is ks p (suc room) = refl

-- what a pick of a process does
abbrev move_with : RunState → ℕ → Move → PickStep
move_with p zero m = stays p
move_with p (suc room) m = goes_to p room m

move_is : (ks : List Function) (p : RunState) (room m : ℕ) → pick_step_with ks p room (suc m) ≡ move_with p room (next_of ks p.world (suc m))
move_is ks p zero m = refl
move_is ks p (suc room) m = refl

module _ (ks : List Function) (none : have_link ks ≡ false) (n : ℕ) (big : nat_le 100 (suc n) ≡ true) (es : List Event) where
  pub own_step : (p : RunState) (r : Ready ks (suc n) es p.world) (room : ℕ) → p.room ≡ suc room
      → pick_step ks p (suc n) ≡ record { moved = true; shown = map event_item es; after = run_aside ks (suc n) es p r room }
  own_step p r room h = ap (λ x. pick_step_with ks p x (suc n)) h ∙ ap (goes_to p room) (own_move ks none (suc n) big es p.world r)

  takes_parallel : (p : RunState) (r : Ready ks (suc n) es p.world) (room more : ℕ) (cs : List Command) → p.commands ≡ cs → p.room ≡ suc room → (takes_command p room cs).after.room ≡ suc more
      → Parallel ks (suc n) es p (takes_command p room cs) (control_with (run_aside ks (suc n) es p r room) room cs)
  takes_parallel p r zero more [] is h left = record { ready = r; room = zero; left = h; shown = refl; after = refl; apart = inl ([], refl, tt) }
  takes_parallel p r (suc room) more [] is h left = record { ready = r; room = suc room; left = h; shown = refl; after = refl; apart = inl ([], refl, tt) }
  takes_parallel p r zero more (c ∷ cs) is h left = absurd (omega (arith, left))
  takes_parallel p r (suc room) more (c ∷ cs) is h left = record { ready = r; room = room; left = refl; shown = refl; after = refl; apart = inr (c, cs, is, refl) }

  goes_parallel : (p : RunState) (r : Ready ks (suc n) es p.world) (room more : ℕ) (a b : Move) → Beside ks none (suc n) big es a b → p.room ≡ suc room → (goes_to p room a).after.room ≡ suc more
      → Parallel ks (suc n) es p (goes_to p room a) (move_with (run_aside ks (suc n) es p r room) room b)
  goes_parallel p r zero more (moved w ds) (moved v bs) beside h left = absurd (omega (arith, left))
  goes_parallel p r (suc room) more (moved w ds) (moved v bs) beside h left = record {
    ready = beside.0;
    room = room;
    left = refl;
    shown = ap (λ (xs : List Event). map event_item xs) beside.2;
    after = λ i. record { world = beside.1 i; commands = p.commands; room = room };
    apart = inl (ds, refl, beside.3);
  }
  goes_parallel p r zero more (idle w) (idle v) beside h left = record { ready = r; room = zero; left = h; shown = refl; after = refl; apart = inl ([], refl, tt) }
  goes_parallel p r (suc room) more (idle w) (idle v) beside h left = record { ready = r; room = suc room; left = h; shown = refl; after = refl; apart = inl ([], refl, tt) }
  goes_parallel p r room more (moved w ds) (idle v) beside h left = absurd beside
  goes_parallel p r room more (idle w) (moved v bs) beside h left = absurd beside

  in_parallel : (p : RunState) (r : Ready ks (suc n) es p.world) (room more o : ℕ) → p.room ≡ suc room → (o ≡ suc n → ⊥) → AllUnlinked p.world.slots → (pick_step_in ks p room o).after.room ≡ suc more
      → Parallel ks (suc n) es p (pick_step_in ks p room o) (pick_step_with ks (run_aside ks (suc n) es p r room) room o)
  in_parallel p r room more zero h other all left =
      subst (Parallel ks (suc n) es p (takes_command p room p.commands)) (sym (control_is ks (run_aside ks (suc n) es p r room) room)) (takes_parallel p r room more p.commands refl h left)
  in_parallel p r room more (suc m) h other all left =
      subst (Parallel ks (suc n) es p (goes_to p room (next_of ks p.world (suc m)))) (sym (move_is ks (run_aside ks (suc n) es p r room) room m))
      (goes_parallel p r room more (next_of ks p.world (suc m)) (next_of ks (aside ks (suc n) es p.world r) (suc m)) (next_beside ks none (suc n) big es p.world r (suc m) other all) h left)

  pick_parallel : (p : RunState) (r : Ready ks (suc n) es p.world) (room more o : ℕ) → p.room ≡ suc room → (o ≡ suc n → ⊥) → AllUnlinked p.world.slots → (pick_step ks p o).after.room ≡ suc more
      → Parallel ks (suc n) es p (pick_step ks p o) (pick_step ks (run_aside ks (suc n) es p r room) o)
  pick_parallel p r room more o h other all left =
      let e : pick_step ks p o ≡ pick_step_in ks p room o = ap (λ x. pick_step_with ks p x o) h in
      subst (λ a. Parallel ks (suc n) es p a (pick_step ks (run_aside ks (suc n) es p r room) o)) (sym e)
      (in_parallel p r room more o h other all (ap (λ (a : PickStep). a.after.room) (sym e) ∙ left))

  pub crossing : (p : RunState) → Ready ks (suc n) es p.world → (room more o : ℕ) → p.room ≡ suc room → (o ≡ suc n → ⊥) → AllUnlinked p.world.slots → (pick_step ks p o).after.room ≡ suc more → Crossing ks (suc n) es p o
  crossing p r room more o h other all left =
      let a : PickStep = pick_step ks p o in
      let x : Parallel ks (suc n) es p a (pick_step ks (run_aside ks (suc n) es p r room) o) = pick_parallel p r room more o h other all left in
      let b : pick_step ks a.after (suc n) ≡ record { moved = true; shown = map event_item es; after = run_aside ks (suc n) es a.after x.ready x.room } = own_step a.after x.ready x.room x.left in
      let c : pick_step ks p (suc n) ≡ record { moved = true; shown = map event_item es; after = run_aside ks (suc n) es p r room } = own_step p r room h in
      record {
        ready = x.ready;
        place = ap (λ (s : PickStep). s.after) b ∙ sym x.after ∙ sym (ap (λ (s : PickStep). (pick_step ks s.after o).after) c);
        first = ap (λ (s : PickStep). a.shown ++ (s.shown ++ [])) b ∙ ap (λ xs. a.shown ++ xs) (append-nil (map event_item es));
        second =
            ap (λ (s : PickStep). s.shown ++ ((pick_step ks s.after o).shown ++ [])) c
            ∙ ap (λ xs. map event_item es ++ (xs ++ [])) x.shown
            ∙ ap (λ xs. map event_item es ++ xs) (append-nil a.shown);
        apart = x.apart;
      }
