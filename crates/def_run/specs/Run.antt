-- A run of a program by a list of picks: what moved, and what it shows in order (own).
-- Depends on the node. It knows nothing of what sessions do with it.
use Rattle.std.specs.Prelude.{ℕ, zero, suc, Bool, true, false, if◌then◌else◌, List, [], ◌∷◌, ◌++◌, map}
use Rattle.def_script.specs.Program.{Function, Command, Program}
use Rattle.def_node.specs.Event.{Event}
use Rattle.def_node.specs.Node.{World, Move, moved, idle, next_of, opening_world}

-- what a run shows: an event, or a command in its place
pub data HistoryItem : Type 0 where
  event_item : Event → HistoryItem
  command_item : Command → HistoryItem

-- the state of a run: the processes, the commands that are not yet taken, and how many moves the journal has room for
pub record RunState : Type 0 where
  pub world : World
  pub commands : List Command
  pub room : ℕ

-- what one pick does: whether it moved, what it shows, and the state of the run afterwards
pub record PickStep : Type 0 where
  pub moved : Bool
  pub shown : List HistoryItem
  pub after : RunState

-- an idle pick changes nothing, and shows nothing
abbrev pub stays : RunState → PickStep
stays p = record { moved = false; shown = []; after = p }

-- a pick 0: the next command, where one is left
abbrev pub takes_command : RunState → ℕ → List Command → PickStep
takes_command p room [] = stays p
takes_command p room (c ∷ cs) = record { moved = true; shown = command_item c ∷ []; after = record { world = p.world; commands = cs; room = room } }

-- a pick of a process: what its step gives
abbrev pub goes_to : RunState → ℕ → Move → PickStep
goes_to p room (idle w) = stays p
goes_to p room (moved w es) = record { moved = true; shown = map event_item es; after = record { world = w; commands = p.commands; room = room } }

-- pick 0 is the control list, pick n the process n
abbrev pub pick_step_in : List Function → RunState → ℕ → ℕ → PickStep
pick_step_in ks p room zero = takes_command p room p.commands
pick_step_in ks p room (suc n) = goes_to p room (next_of ks p.world (suc n))

-- with no room left every pick is passed over
abbrev pub pick_step_with : List Function → RunState → ℕ → ℕ → PickStep
pick_step_with ks p zero pick = stays p
pick_step_with ks p (suc room) pick = pick_step_in ks p room pick

-- one pick
abbrev pub pick_step : List Function → RunState → ℕ → PickStep
pick_step ks p pick = pick_step_with ks p p.room pick

-- what the picks show, each from the state after those before it
abbrev pub history_from : List Function → RunState → List ℕ → List HistoryItem
history_from ks p [] = []
history_from ks p (pick ∷ picks) = let t : PickStep = pick_step ks p pick in t.shown ++ history_from ks t.after picks

-- those of the picks that move
abbrev pub moves_from : List Function → RunState → List ℕ → List ℕ
moves_from ks p [] = []
moves_from ks p (pick ∷ picks) = let t : PickStep = pick_step ks p pick in (if t.moved then pick ∷ [] else []) ++ moves_from ks t.after picks

-- the state after them
abbrev pub run_state_after : List Function → RunState → List ℕ → RunState
run_state_after ks p [] = p
run_state_after ks p (pick ∷ picks) = let t : PickStep = pick_step ks p pick in run_state_after ks t.after picks

-- the most picks that move
abbrev pub JOURNAL : ℕ
JOURNAL = 65536

-- nothing has moved yet
abbrev pub start : Program → RunState
start p = record { world = opening_world p.entries; commands = p.commands; room = JOURNAL }

-- where the picks lead in a run of the program
abbrev pub run_state_of : Program → List ℕ → RunState
run_state_of p picks = run_state_after p.functions (start p) picks

-- what one more pick does after these
abbrev pub pick_step_after : Program → List ℕ → ℕ → PickStep
pick_step_after p picks pick = pick_step p.functions (run_state_of p picks) pick

-- the events of the moves in order, with each command taken in its place
abbrev pub events : Program → List ℕ → List HistoryItem
events p picks = history_from p.functions (start p) picks

-- the picks that moved
abbrev pub moves : Program → List ℕ → List ℕ
moves p picks = moves_from p.functions (start p) picks
