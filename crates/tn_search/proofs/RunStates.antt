-- A state of a run is known by that of its node and by the length of its journal.
use Rattle.std.proofs.Common.{◌≡◌, ◌∙◌, ℕ, zero, suc, ◌+◌, ◌-◌, List, [], ◌∷◌, ◌++◌, length, drop, refl, sym, ap, arith, append_assoc, length-append}
use Rattle.def_script.specs.Program.{Function, Command, Program}
use Rattle.def_node.specs.Node.{Move, moved, idle, next_of, NodeState}
use Rattle.def_run.specs.Run.{RunState, takes_command, goes_to, pick_step_with, pick_step, run_state_after, run_state_of, start, moves}
use Rattle.def_run.specs.Laws.{state_at}
use Rattle.def_run.proofs.Replay.{room_spent}

-- the commands that are left are the last of all
abbrev EndsWith : List Command → List Command → Type 0
EndsWith all cs = (front : List Command) × (all ≡ front ++ cs)

pick_ends : (ks : List Function) (all : List Command) (q : RunState) (room pick : ℕ) → EndsWith all q.commands → EndsWith all (pick_step_with ks q room pick).after.commands
pick_ends ks all q zero pick h = h
pick_ends ks all q (suc room) zero h = go q.commands h
  where
    go : (cs : List Command) → EndsWith all cs → EndsWith all (takes_command q room cs).after.commands
    go [] a = h
    go (c ∷ cs) a = (a.0 ++ c ∷ [], a.1 ∙ sym (append_assoc a.0 (c ∷ []) cs))
pick_ends ks all q (suc room) (suc n) h = go (next_of ks q.world (suc n))
  where
    go : (m : Move) → EndsWith all (goes_to q room m).after.commands
    go (idle w) = h
    go (moved w es) = h

place_ends : (ks : List Function) (all : List Command) (q : RunState) (picks : List ℕ) → EndsWith all q.commands → EndsWith all (run_state_after ks q picks).commands
place_ends ks all q [] h = h
place_ends ks all q (pick ∷ picks) h = place_ends ks all (pick_step ks q pick).after picks (pick_ends ks all q q.room pick h)

back_is : (front cs : List Command) → drop (length front) (front ++ cs) ≡ cs
back_is [] cs = refl
back_is (c ∷ front) cs = back_is front cs

-- the ends of one list are the same where they leave as many before them
same_ends : (all cs ds : List Command) → EndsWith all cs → EndsWith all ds → length all - length cs ≡ length all - length ds → cs ≡ ds
same_ends all cs ds a b same =
    let counted : length all ≡ length a.0 + length cs = ap length a.1 ∙ length-append a.0 cs in
    let others : length all ≡ length b.0 + length ds = ap length b.1 ∙ length-append b.0 ds in
    let fronts : length a.0 ≡ length b.0 = omega arith in
    sym (back_is a.0 cs) ∙ ap (drop (length a.0)) (sym a.1) ∙ ap (λ n. drop n all) fronts ∙ ap (drop (length b.0)) b.1 ∙ back_is b.0 ds

same_room : (p : Program) (a b : List ℕ) → length (moves p a) ≡ length (moves p b) → (run_state_of p a).room ≡ (run_state_of p b).room
same_room p a b same =
    let one : length (moves p a) + (run_state_of p a).room ≡ 65536 = room_spent p.functions (start p) a in
    let other : length (moves p b) + (run_state_of p b).room ≡ 65536 = room_spent p.functions (start p) b in
    omega arith

same_state : (q r : RunState) → q.world ≡ r.world → q.commands ≡ r.commands → q.room ≡ r.room → q ≡ r
same_state q r world commands room = λ i. record { world = world i; commands = commands i; room = room i }

pub run_state_is : (p : Program) (a b : List ℕ) → state_at p (run_state_of p a) ≡ state_at p (run_state_of p b) → length (moves p a) ≡ length (moves p b) → run_state_of p a ≡ run_state_of p b
run_state_is p a b same long =
    same_state (run_state_of p a) (run_state_of p b) (ap (λ (s : NodeState). s.world) same)
    (same_ends p.commands (run_state_of p a).commands (run_state_of p b).commands (place_ends p.functions p.commands (start p) a ([], refl)) (place_ends p.functions p.commands (start p) b ([], refl)) (ap (λ (s : NodeState). s.taken) same))
    (same_room p a b long)
