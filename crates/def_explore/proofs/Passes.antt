-- Of all picks only those of a pass move.
use Rattle.std.proofs.Common.{◌≡◌, ◌∙◌, ℕ, zero, suc, ◌+◌, ◌-◌, ◌<◌, ◌≤◌, nat_lt, Bool, true, false, List, [], ◌∷◌, length, get_or, All, refl, sym, ap, subst, arith, cond}
use Rattle.std.specs.Prelude.{nat_le, slice_get, None}
use Rattle.std.specs.List.{Contains}
use Rattle.std.proofs.lemmas.List.Elements.{All-get_or, All-contains_itself}
use Rattle.std.proofs.lemmas.Bool.Decides.{nat_tests}
use Rattle.std.proofs.lemmas.Option.{slice_get_past}
use Rattle.def_script.specs.Program.{Function, Command}
use Rattle.def_node.specs.Node.{World, Move, moved, idle, next_of, place_of_pid, place_in}
use Rattle.def_node.specs.Limits.{IsWithin, world_after}
use Rattle.def_node.proofs.Limits.{next_keeps, opening_within}
use Rattle.def_node.proofs.Steps.{living_nowhere}
use Rattle.def_run.specs.Run.{RunState, goes_to, takes_command, pick_step_with, pick_step, run_state_after, start, run_state_of}
use Rattle.def_run.specs.Round.{pass, pass_from}
use Rattle.def_explore.specs.Laws.{MovesAreOfAPass}

-- ---- at most 64 processes are started

goes_within : (q : RunState) (room : ℕ) (m : Move) → IsWithin q.world → IsWithin (world_after m) → IsWithin (goes_to q room m).after.world
goes_within q room (moved w es) was now = now
goes_within q room (idle w) was now = was

takes_within : (q : RunState) (room : ℕ) (cs : List Command) → IsWithin q.world → IsWithin (takes_command q room cs).after.world
takes_within q room [] was = was
takes_within q room (c ∷ cs) was = was

turn_within : (ks : List Function) (q : RunState) (room pick : ℕ) → IsWithin q.world → IsWithin (pick_step_with ks q room pick).after.world
turn_within ks q zero pick was = was
turn_within ks q (suc room) zero was = takes_within q room q.commands was
turn_within ks q (suc room) (suc n) was = goes_within q room (next_of ks q.world (suc n)) was (next_keeps ks q.world (suc n) was).0

place_within : (ks : List Function) (q : RunState) (picks : List ℕ) → IsWithin q.world → IsWithin (run_state_after ks q picks).world
place_within ks q [] was = was
place_within ks q (pick ∷ picks) was = place_within ks (pick_step ks q pick).after picks (turn_within ks q q.room pick was)

-- ---- no other pid lives

low_if : (w : World) (n : ℕ) (b : Bool) → b ≡ false → cond b (place_in (slice_get w.slots (n - 100)) (n - 100)) None ≡ None
low_if w n false e = refl
low_if w n true e = absurd (let h : true ≡ false = e in cc)

not_below : (n : ℕ) → n < 100 → nat_le 100 n ≡ false
not_below n h = grind (arith, nat_tests, h)

low_lives_not : (w : World) (n : ℕ) → n < 100 → place_of_pid w n ≡ None
low_lives_not w n h = low_if w n (nat_le 100 n) (not_below n h)

high_if : (w : World) (n : ℕ) (b : Bool) → slice_get w.slots (n - 100) ≡ None → cond b (place_in (slice_get w.slots (n - 100)) (n - 100)) None ≡ None
high_if w n false e = refl
high_if w n true e = ap (λ s. place_in s (n - 100)) e

high_lives_not : (w : World) (n : ℕ) → length w.slots ≤ 64 → 164 ≤ n → place_of_pid w n ≡ None
high_lives_not w n few h = high_if w n (nat_le 100 n) (slice_get_past w.slots (n - 100) (omega arith))

-- so its picks are idle
idle_turn : (ks : List Function) (q : RunState) (room n : ℕ) → place_of_pid q.world (suc n) ≡ None → (pick_step_with ks q room (suc n)).moved ≡ false
idle_turn ks q zero n h = refl
idle_turn ks q (suc room) n h = ap (λ m. (goes_to q room m).moved) (sym (living_nowhere ks q.world (suc n) h))

-- ---- a pass has all others

from_at : (k n i : ℕ) → i < k → get_or (pass_from k n) i 0 ≡ n + i
from_at zero n i h = absurd (omega arith)
from_at (suc k) n zero h = omega arith
from_at (suc k) n (suc i) h = from_at k (n + 1) i (omega arith) ∙ omega arith

from_length : (k n : ℕ) → length (pass_from k n) ≡ k
from_length zero n = refl
from_length (suc k) n = ap suc (from_length k (n + 1))

in_pass : (P : ℕ → Type 0) → All P pass → (n : ℕ) → 99 ≤ n → n < 163 → P (suc n)
in_pass P rests n low high =
    let size : length (pass_from 64 100) ≡ 64 = from_length 64 100 in
    let at : get_or (pass_from 64 100) (n - 99) 0 ≡ suc n = from_at 64 100 (n - 99) (omega arith) ∙ omega arith in
    subst P at (All-get_or P (0 ∷ pass_from 64 100) (suc (n - 99)) 0 (omega (arith, size)) rests)

both_ways : (b : Bool) → b ≡ true → b ≡ false → ⊥
both_ways b h k = cc

pub moves_are_of_a_pass : MovesAreOfAPass
moves_are_of_a_pass p picks zero few moving = (0, omega arith, refl)
moves_are_of_a_pass p picks (suc n) few moving =
    let q : RunState = run_state_of p picks in
    let within : IsWithin q.world = place_within p.functions (start p) picks (opening_within p.entries few) in
    let other : place_of_pid q.world (suc n) ≡ None → Contains pass (suc n) = λ h. absurd (both_ways (pick_step p.functions q (suc n)).moved moving (idle_turn p.functions q q.room n h)) in
    elim (nat_lt n 99) as (λ b. nat_lt n 99 ≡ b → Contains pass (suc n)) [
      | true ↦ λ e. other (low_lives_not q.world (suc n) (grind (arith, nat_tests, e)))
      | false ↦ λ low. elim (nat_lt n 163) as (λ b. nat_lt n 163 ≡ b → Contains pass (suc n)) [
        | true ↦ λ high. in_pass (Contains pass) (All-contains_itself pass) n (grind (arith, nat_tests, low)) (grind (arith, nat_tests, high))
        | false ↦ λ high. other (high_lives_not q.world (suc n) within.0 (grind (arith, nat_tests, high)))
      ] refl
    ] refl
