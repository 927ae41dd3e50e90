-- A pick of a run is what the node gives for it.
use Rattle.std.proofs.Common.{◌≡◌, ◌∙◌, ℕ, zero, suc, ◌+◌, ◌-◌, ◌<◌, ◌≤◌, Bool, true, false, if◌then◌else◌, List, [], ◌∷◌, ◌++◌, length, Some, refl, sym, ap, subst, arith, append_assoc, length-append}
use Rattle.std.specs.Prelude.{slice_get, nat_lt}
use Rattle.std.proofs.lemmas.Bool.{ltb-true, ltb-false}
use Rattle.def_script.specs.Program.{Function, Command, Program}
use Rattle.def_node.specs.Limits.{IsStill}
use Rattle.def_node.specs.Node.{World, Move, moved, idle, next_of, NodeState, gives_command, gives_nothing, of_move, next}
use Rattle.def_node.proofs.Still.{next_still}
use Rattle.def_run.specs.Run.{RunState, takes_command, goes_to, pick_step_with, pick_step, start, moves, run_state_after, run_state_of}
use Rattle.def_run.specs.Laws.{state_at, IsNext, PickIsNext}
use Rattle.def_run.proofs.Replay.{room_spent}

-- the commands that are left are the last of all
abbrev EndsWith : List Command → List Command → Type 0
EndsWith all cs = (front : List Command) × (all ≡ front ++ cs)

pick_ends : (ks : List Function) (all : List Command) (q : RunState) (room pick : ℕ) → EndsWith all q.commands → EndsWith all (pick_step_with ks q room pick).after.commands
pick_ends ks all q zero pick h = h
pick_ends ks all q (suc room) zero h = go q.commands h
  where
    go : (cs : List Command) → EndsWith all cs → EndsWith all (takes_command q room cs).after.commands
    go [] a = h
    go (c ∷ cs) a = (a.0 ++ c ∷ [], a.1 ∙ sym (append_assoc a.0 (c ∷ []) cs))
pick_ends ks all q (suc room) (suc n) h = go (next_of ks q.world (suc n))
  where
    go : (m : Move) → EndsWith all (goes_to q room m).after.commands
    go (idle w) = h
    go (moved w es) = h

place_ends : (ks : List Function) (all : List Command) (q : RunState) (picks : List ℕ) → EndsWith all q.commands → EndsWith all (run_state_after ks q picks).commands
place_ends ks all q [] h = h
place_ends ks all q (pick ∷ picks) h = place_ends ks all (pick_step ks q pick).after picks (pick_ends ks all q q.room pick h)

at_front : (front : List Command) (c : Command) (cs : List Command) → slice_get (front ++ c ∷ cs) (length front) ≡ Some c
at_front [] c cs = refl
at_front (d ∷ front) c cs = at_front front c cs

abbrev state_with : World → ℕ → NodeState
state_with w n = record { world = w; taken = n }

module _ (p : Program) (q : RunState) (room : ℕ) (front : List Command) (whole : p.commands ≡ front ++ q.commands) where
  none_left : (b : Bool) → nat_lt (length p.commands - length q.commands) (length p.commands) ≡ b → q.commands ≡ []
      → IsNext p (if b then gives_command (record (state_at p q) { taken = suc (length p.commands - length q.commands) }) (suc (length p.commands - length q.commands)) else gives_nothing (state_at p q)) (takes_command q room [])
  none_left true e h =
      let below : length p.commands - length q.commands < length p.commands = ltb-true _ _ e in
      let none : length q.commands ≡ 0 = ap length h in
      absurd (omega arith)
  none_left false e h = (refl, refl)

  one_left : (c : Command) (cs : List Command) (b : Bool) → nat_lt (length p.commands - length q.commands) (length p.commands) ≡ b → q.commands ≡ c ∷ cs
      → IsNext p (if b then gives_command (record (state_at p q) { taken = suc (length p.commands - length q.commands) }) (suc (length p.commands - length q.commands)) else gives_nothing (state_at p q)) (takes_command q room (c ∷ cs))
  one_left c cs b e h =
      let all : p.commands ≡ front ++ c ∷ cs = whole ∙ ap (λ ks. front ++ ks) h in
      let size : length p.commands ≡ length front + suc (length cs) = ap length all ∙ length-append front (c ∷ cs) in
      let left : length q.commands ≡ suc (length cs) = ap length h in
      let number : length p.commands - length q.commands ≡ length front = omega arith in
      go b e all size left number
    where
      go : (b : Bool) → nat_lt (length p.commands - length q.commands) (length p.commands) ≡ b → p.commands ≡ front ++ c ∷ cs → length p.commands ≡ length front + suc (length cs)
          → length q.commands ≡ suc (length cs) → length p.commands - length q.commands ≡ length front
          → IsNext p (if b then gives_command (record (state_at p q) { taken = suc (length p.commands - length q.commands) }) (suc (length p.commands - length q.commands)) else gives_nothing (state_at p q)) (takes_command q room (c ∷ cs))
      go true e all size left number =
          let less : suc (length p.commands - length q.commands) ≡ length p.commands - length cs = omega arith in (
            refl,
            ap (state_with q.world) less,
            (length p.commands - length q.commands, c, refl, ap (slice_get p.commands) number ∙ ap (λ ks. slice_get ks (length front)) all ∙ at_front front c cs, refl),
          )
      go false e all size left number =
          let past : length p.commands ≤ length p.commands - length q.commands = ltb-false _ _ e in
          absurd (omega arith)

  takes : (cs : List Command) → q.commands ≡ cs → IsNext p (next p (state_at p q) 0) (takes_command q room cs)
  takes [] h = none_left _ refl h
  takes (c ∷ cs) h = one_left c cs _ refl h

  goes : (n : ℕ) (m : Move) → next_of p.functions q.world (suc n) ≡ m → IsNext p (of_move (state_at p q) m) (goes_to q room m)
  goes n (moved w es) e = (refl, refl, refl)
  goes n (idle w) e =
      let still : w ≡ q.world = subst (IsStill q.world) e (next_still p.functions q.world (suc n)) in
      (refl, ap (λ v. state_with v (length p.commands - length q.commands)) still)

  gives : (pick : ℕ) → IsNext p (next p (state_at p q) pick) (pick_step_with p.functions q (suc room) pick)
  gives zero = takes q.commands refl
  gives (suc n) = goes n (next_of p.functions q.world (suc n)) refl

at_place : (p : Program) (picks : List ℕ) (pick : ℕ) (q : RunState) (r : ℕ) → q.room ≡ r → length (moves p picks) + q.room ≡ 65536 → length (moves p picks) < 65536 → EndsWith p.commands q.commands
    → IsNext p (next p (state_at p q) pick) (pick_step p.functions q pick)
at_place p picks pick q zero e spent below ends = absurd (omega arith)
at_place p picks pick q (suc room) e spent below ends = subst (λ r. IsNext p (next p (state_at p q) pick) (pick_step_with p.functions q r pick)) (sym e) (gives p q room ends.0 ends.1 pick)

pub pick_is_next : PickIsNext
pick_is_next p picks pick below =
    let q : RunState = run_state_of p picks in
    at_place p picks pick q q.room refl (room_spent p.functions (start p) picks) below (place_ends p.functions p.commands (start p) picks ([], refl))
