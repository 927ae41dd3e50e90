-- The moves of a run, run again, give the same; a pick that does not move leaves no trace; the room bounds the moves.
use Rattle.std.proofs.Common.{◌≡◌, ◌≤◌, ◌+◌, ℕ, zero, suc, List, [], ◌∷◌, ◌++◌, length, Bool, true, false, if◌then◌else◌, refl, sym, ap, ◌∙◌, subst, arith}
use Rattle.def_script.specs.Program.{Function, Program, Command}
use Rattle.def_node.specs.Node.{Move, moved, idle, next_of}
use Rattle.def_run.specs.Run.{RunState, PickStep, stays, takes_command, goes_to, pick_step_in, pick_step_with, pick_step, history_from, moves_from, run_state_after, start, events, moves, run_state_of}
use Rattle.def_run.proofs.Appends.{shown-append, moves-append, place-append}

-- a pick that did not move changes nothing
abbrev IsKept : RunState → PickStep → Type 0
IsKept p t = t.moved ≡ false → t ≡ stays p

command_kept : (p : RunState) (room : ℕ) (cs : List Command) → IsKept p (takes_command p room cs)
command_kept p room [] h = refl
command_kept p room (c ∷ cs) h = cc

move_kept : (p : RunState) (room : ℕ) (m : Move) → IsKept p (goes_to p room m)
move_kept p room (idle w) h = refl
move_kept p room (moved w es) h = cc

in_kept : (ks : List Function) (p : RunState) (room pick : ℕ) → IsKept p (pick_step_in ks p room pick)
in_kept ks p room zero = command_kept p room p.commands
in_kept ks p room (suc n) = move_kept p room (next_of ks p.world (suc n))

with_kept : (ks : List Function) (p : RunState) (room pick : ℕ) → IsKept p (pick_step_with ks p room pick)
with_kept ks p zero pick h = refl
with_kept ks p (suc room) pick h = in_kept ks p room pick h

pub pick_kept : (ks : List Function) (p : RunState) (pick : ℕ) → (pick_step ks p pick).moved ≡ false → pick_step ks p pick ≡ stays p
pick_kept ks p pick = with_kept ks p p.room pick

-- a pick that moved does so again; one that did not is left out
pub shown_again : (ks : List Function) (p : RunState) (picks : List ℕ) → history_from ks p (moves_from ks p picks) ≡ history_from ks p picks
shown_again ks p [] = refl
shown_again ks p (pick ∷ picks) = go (pick_step ks p pick) refl (pick_step ks p pick).moved refl (shown_again ks (pick_step ks p pick).after picks)
  where
    go : (t : PickStep) → pick_step ks p pick ≡ t → (b : Bool) → t.moved ≡ b
        → history_from ks t.after (moves_from ks t.after picks) ≡ history_from ks t.after picks
        → history_from ks p ((if t.moved then pick ∷ [] else []) ++ moves_from ks t.after picks) ≡ t.shown ++ history_from ks t.after picks
    go t e true h ih =
        ap (λ b. history_from ks p ((if b then pick ∷ [] else []) ++ moves_from ks t.after picks)) h
        ∙ ap (λ u. u.shown ++ history_from ks u.after (moves_from ks t.after picks)) e
        ∙ ap (t.shown ++◌) ih
    go t e false h ih =
        let kept : t ≡ stays p = subst (λ u. u.moved ≡ false → u ≡ stays p) e (pick_kept ks p pick) h in
        ap (λ b. history_from ks p ((if b then pick ∷ [] else []) ++ moves_from ks t.after picks)) h
        ∙ ap (λ u. history_from ks u.after (moves_from ks t.after picks)) (sym kept)
        ∙ ih
        ∙ ap (λ u. u.shown ++ history_from ks t.after picks) (sym kept)

pub moves_again : (ks : List Function) (p : RunState) (picks : List ℕ) → moves_from ks p (moves_from ks p picks) ≡ moves_from ks p picks
moves_again ks p [] = refl
moves_again ks p (pick ∷ picks) = go (pick_step ks p pick) refl (pick_step ks p pick).moved refl (moves_again ks (pick_step ks p pick).after picks)
  where
    go : (t : PickStep) → pick_step ks p pick ≡ t → (b : Bool) → t.moved ≡ b
        → moves_from ks t.after (moves_from ks t.after picks) ≡ moves_from ks t.after picks
        → moves_from ks p ((if t.moved then pick ∷ [] else []) ++ moves_from ks t.after picks) ≡ (if t.moved then pick ∷ [] else []) ++ moves_from ks t.after picks
    go t e true h ih =
        ap (λ b. moves_from ks p ((if b then pick ∷ [] else []) ++ moves_from ks t.after picks)) h
        ∙ ap (λ u. (if u.moved then pick ∷ [] else []) ++ moves_from ks u.after (moves_from ks t.after picks)) e
        ∙ ap ((if t.moved then pick ∷ [] else []) ++◌) ih
    go t e false h ih =
        let kept : t ≡ stays p = subst (λ u. u.moved ≡ false → u ≡ stays p) e (pick_kept ks p pick) h in
        ap (λ b. moves_from ks p ((if b then pick ∷ [] else []) ++ moves_from ks t.after picks)) h
        ∙ ap (λ u. moves_from ks u.after (moves_from ks t.after picks)) (sym kept)
        ∙ ih
        ∙ ap (λ b. (if b then pick ∷ [] else []) ++ moves_from ks t.after picks) (sym h)

pub place_again : (ks : List Function) (p : RunState) (picks : List ℕ) → run_state_after ks p (moves_from ks p picks) ≡ run_state_after ks p picks
place_again ks p [] = refl
place_again ks p (pick ∷ picks) = go (pick_step ks p pick) refl (pick_step ks p pick).moved refl (place_again ks (pick_step ks p pick).after picks)
  where
    go : (t : PickStep) → pick_step ks p pick ≡ t → (b : Bool) → t.moved ≡ b
        → run_state_after ks t.after (moves_from ks t.after picks) ≡ run_state_after ks t.after picks
        → run_state_after ks p ((if t.moved then pick ∷ [] else []) ++ moves_from ks t.after picks) ≡ run_state_after ks t.after picks
    go t e true h ih =
        ap (λ b. run_state_after ks p ((if b then pick ∷ [] else []) ++ moves_from ks t.after picks)) h
        ∙ ap (λ u. run_state_after ks u.after (moves_from ks t.after picks)) e
        ∙ ih
    go t e false h ih =
        let kept : t ≡ stays p = subst (λ u. u.moved ≡ false → u ≡ stays p) e (pick_kept ks p pick) h in
        ap (λ b. run_state_after ks p ((if b then pick ∷ [] else []) ++ moves_from ks t.after picks)) h
        ∙ ap (λ u. run_state_after ks u.after (moves_from ks t.after picks)) (sym kept)
        ∙ ih

pub events_again : (p : Program) (picks : List ℕ) → events p (moves p picks) ≡ events p picks
events_again p picks = shown_again p.functions (start p) picks

pub journal_again : (p : Program) (picks : List ℕ) → moves p (moves p picks) ≡ moves p picks
journal_again p picks = moves_again p.functions (start p) picks

-- ---- an idle pick leaves no trace

module _ (ks : List Function) (p : RunState) (xs : List ℕ) (pick : ℕ) (ys : List ℕ) (h : (pick_step ks (run_state_after ks p xs) pick).moved ≡ false) where
  kept : pick_step ks (run_state_after ks p xs) pick ≡ stays (run_state_after ks p xs)
  kept = pick_kept ks (run_state_after ks p xs) pick h

  pub idle-shown : history_from ks p (xs ++ pick ∷ ys) ≡ history_from ks p (xs ++ ys)
  idle-shown =
      shown-append ks p xs (pick ∷ ys)
      ∙ ap (λ t. history_from ks p xs ++ (t.shown ++ history_from ks t.after ys)) kept
      ∙ sym (shown-append ks p xs ys)

  pub idle-moves : moves_from ks p (xs ++ pick ∷ ys) ≡ moves_from ks p (xs ++ ys)
  idle-moves =
      moves-append ks p xs (pick ∷ ys)
      ∙ ap (λ t. moves_from ks p xs ++ ((if t.moved then pick ∷ [] else []) ++ moves_from ks t.after ys)) kept
      ∙ sym (moves-append ks p xs ys)

  pub idle-place : run_state_after ks p (xs ++ pick ∷ ys) ≡ run_state_after ks p (xs ++ ys)
  idle-place =
      place-append ks p xs (pick ∷ ys)
      ∙ ap (λ t. run_state_after ks t.after ys) kept
      ∙ sym (place-append ks p xs ys)

-- ---- at most as many moves as there is room

-- what a pick takes of the room
abbrev Spends : ℕ → PickStep → Type 0
Spends room t = (t.moved ≡ true → t.after.room + 1 ≡ room) × (t.moved ≡ false → t.after.room ≡ room)

command_spends : (p : RunState) (room : ℕ) (cs : List Command) → p.room ≡ suc room → Spends p.room (takes_command p room cs)
command_spends p room [] h = (λ e. cc, λ e. refl)
command_spends p room (c ∷ cs) h = (λ e. omega arith, λ e. cc)

move_spends : (p : RunState) (room : ℕ) (m : Move) → p.room ≡ suc room → Spends p.room (goes_to p room m)
move_spends p room (idle w) h = (λ e. cc, λ e. refl)
move_spends p room (moved w es) h = (λ e. omega arith, λ e. cc)

in_spends : (ks : List Function) (p : RunState) (room pick : ℕ) → p.room ≡ suc room → Spends p.room (pick_step_in ks p room pick)
in_spends ks p room zero h = command_spends p room p.commands h
in_spends ks p room (suc n) h = move_spends p room (next_of ks p.world (suc n)) h

with_spends : (ks : List Function) (p : RunState) (room pick : ℕ) → p.room ≡ room → Spends p.room (pick_step_with ks p room pick)
with_spends ks p zero pick h = (λ e. cc, λ e. refl)
with_spends ks p (suc room) pick h = in_spends ks p room pick h

pub pick_spends : (ks : List Function) (p : RunState) (pick : ℕ) → Spends p.room (pick_step ks p pick)
pick_spends ks p pick = with_spends ks p p.room pick refl

pub room_spent : (ks : List Function) (p : RunState) (picks : List ℕ) → length (moves_from ks p picks) + (run_state_after ks p picks).room ≡ p.room
room_spent ks p [] = omega arith
room_spent ks p (pick ∷ picks) = go (pick_step ks p pick) (pick_spends ks p pick) (pick_step ks p pick).moved refl (room_spent ks (pick_step ks p pick).after picks)
  where
    go : (t : PickStep) → Spends p.room t → (b : Bool) → t.moved ≡ b
        → length (moves_from ks t.after picks) + (run_state_after ks t.after picks).room ≡ t.after.room
        → length ((if t.moved then pick ∷ [] else []) ++ moves_from ks t.after picks) + (run_state_after ks t.after picks).room ≡ p.room
    go t s true h ih =
        let spent : t.after.room + 1 ≡ p.room = s.0 h in
        ap (λ b. length ((if b then pick ∷ [] else []) ++ moves_from ks t.after picks) + (run_state_after ks t.after picks).room) h
        ∙ omega arith
    go t s false h ih =
        ap (λ b. length ((if b then pick ∷ [] else []) ++ moves_from ks t.after picks) + (run_state_after ks t.after picks).room) h
        ∙ ih ∙ s.1 h

pub moves_bounded : (p : Program) (picks : List ℕ) → length (moves p picks) ≤ 65536
moves_bounded p picks = let e : length (moves_from p.functions (start p) picks) + (run_state_of p picks).room ≡ 65536 = room_spent p.functions (start p) picks in omega arith
