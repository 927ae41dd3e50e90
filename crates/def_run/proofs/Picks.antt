-- What a pick does while there is room, and when there is none.
use Rattle.std.proofs.Common.{◌≡◌, ◌+◌, ◌<◌, ℕ, zero, suc, List, [], ◌∷◌, length, refl, ap, arith}
use Rattle.def_script.specs.Program.{Function, Program, Command}
use Rattle.def_node.specs.Node.{Move, moved, idle, next_of}
use Rattle.def_run.specs.Run.{RunState, takes_command, goes_to, pick_step_with, start, moves, run_state_of}
use Rattle.def_run.specs.Laws.{IsStep, TakesCommandOf, PickIsItsStep, PickTakesACommand, FullJournalStays}
use Rattle.def_run.proofs.Replay.{room_spent}

step_goes : (q : RunState) (room : ℕ) (m : Move) → IsStep m (goes_to q room m)
step_goes q room (moved w es) = (refl, refl, refl)
step_goes q room (idle w) = refl

command_goes : (q : RunState) (room : ℕ) (cs : List Command) → TakesCommandOf cs (takes_command q room cs)
command_goes q room [] = refl
command_goes q room (c ∷ cs) = (refl, refl, refl)

step_with : (ks : List Function) (q : RunState) (n room : ℕ) → 0 < room → IsStep (next_of ks q.world (suc n)) (pick_step_with ks q room (suc n))
step_with ks q n zero h = absurd (omega arith)
step_with ks q n (suc room) h = step_goes q room (next_of ks q.world (suc n))

command_with : (ks : List Function) (q : RunState) (room : ℕ) → 0 < room → TakesCommandOf q.commands (pick_step_with ks q room 0)
command_with ks q zero h = absurd (omega arith)
command_with ks q (suc room) h = command_goes q room q.commands

spent : (p : Program) (picks : List ℕ) → length (moves p picks) + (run_state_of p picks).room ≡ 65536
spent p picks = room_spent p.functions (start p) picks

pub pick_is_its_step : PickIsItsStep
pick_is_its_step p picks n h =
    let e : length (moves p picks) + (run_state_of p picks).room ≡ 65536 = spent p picks in
    step_with p.functions (run_state_of p picks) n (run_state_of p picks).room (omega arith)

pub pick_takes_a_command : PickTakesACommand
pick_takes_a_command p picks h =
    let e : length (moves p picks) + (run_state_of p picks).room ≡ 65536 = spent p picks in
    command_with p.functions (run_state_of p picks) (run_state_of p picks).room (omega arith)

pub full_journal_stays : FullJournalStays
full_journal_stays p picks pick h =
    let e : length (moves p picks) + (run_state_of p picks).room ≡ 65536 = spent p picks in
    let none : (run_state_of p picks).room ≡ 0 = omega arith in
    ap (λ r. (pick_step_with p.functions (run_state_of p picks) r pick).moved) none
