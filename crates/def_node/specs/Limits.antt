-- What keeps within the limits of the node (own).
-- Depends on the node. Laws speak of it.
use Rattle.std.specs.Prelude.{ℕ, ◌≡◌, ◌≤◌, Bool, false, List, [], ◌∷◌, length, Option, Some, None}
use Rattle.def_term.specs.Alive.{FIRST_PID, PROCESSES, LAST_PID}
use Rattle.def_node.specs.Node.{World, Move, moved, idle, NodeState, PickResult, gives_events, gives_command, gives_nothing}
use Rattle.def_node.specs.Event.{Event, sent, received, called, returned, raised, spawning, spawned, exited, linked, unlinked, getting_linked, getting_unlinked}
use Rattle.def_node.specs.Process.{FRAMES, Frame, Process, Act, waits, continues, sends, links_to, unlinks_from, spawns, exits}

-- what a process is after its own act: it has the links that it had, and at most so many frames
abbrev pub IsOwn : ℕ → List Bool → Process → Type 0
IsOwn most ls q = (q.links ≡ ls) × (length q.frames ≤ most)

-- after its own act a process has the links that it had and at most so many frames, a spawn gives the given pid, and an exit has the partners of the process
abbrev pub IsOwnAct : ℕ → List Bool → Option ℕ → Act → Type 0
IsOwnAct most ls child (waits q) = IsOwn most ls q
IsOwnAct most ls child (continues q es) = IsOwn most ls q
IsOwnAct most ls child (sends q m t) = IsOwn most ls q
IsOwnAct most ls child (links_to q m) = IsOwn most ls q
IsOwnAct most ls child (unlinks_from q m) = IsOwn most ls q
IsOwnAct most ls child (spawns q c e) = IsOwn most ls q × (child ≡ Some c)
IsOwnAct most ls child (exits partners r before) = partners ≡ ls

-- ---- the processes

-- no catch step called the oldest of the frames, which is that of the entry call
abbrev pub IsEntered : List Frame → Type 0
IsEntered [] = Unit {0}
IsEntered (f ∷ []) = f.by_catch ≡ false
IsEntered (f ∷ g ∷ gs) = IsEntered (g ∷ gs)

-- a process with at most 64 frames, of which no catch step called the oldest, and which knows of each of the 64 pids whether it is linked to it
abbrev pub IsSmall : Process → Type 0
IsSmall q = (length q.frames ≤ FRAMES) × (length q.links ≡ PROCESSES) × IsEntered q.frames

-- each process that is alive is small
abbrev pub AllSmall : List (Option Process) → Type 0
AllSmall [] = Unit {0}
AllSmall (None ∷ ss) = AllSmall ss
AllSmall (Some q ∷ ss) = IsSmall q × AllSmall ss

-- at most 64 processes were started, each of them small
abbrev pub IsWithin : World → Type 0
IsWithin w = (length w.slots ≤ PROCESSES) × AllSmall w.slots

-- no place is given up, and one where a process has exited stays empty, so no pid is used again
abbrev pub IsAfter : List (Option Process) → List (Option Process) → Type 0
IsAfter [] vs = Unit {0}
IsAfter (s ∷ ss) [] = ⊥
IsAfter (None ∷ ss) (v ∷ vs) = (v ≡ None) × IsAfter ss vs
IsAfter (Some q ∷ ss) (v ∷ vs) = IsAfter ss vs

-- the processes after a pick
abbrev pub world_after : Move → World
world_after (moved v es) = v
world_after (idle v) = v

-- where a pick is idle, the processes are as they were
abbrev pub IsStill : World → Move → Type 0
IsStill w (moved v es) = Unit {0}
IsStill w (idle v) = v ≡ w

-- the state after a pick
abbrev pub state_after : PickResult → NodeState
state_after (gives_events t es) = t
state_after (gives_command t k) = t
state_after (gives_nothing t) = t

-- where a pick gives nothing, the state is as it was
abbrev pub NothingChanges : NodeState → PickResult → Type 0
NothingChanges s (gives_events t es) = Unit {0}
NothingChanges s (gives_command t k) = Unit {0}
NothingChanges s (gives_nothing t) = t ≡ s

-- ---- the events

-- one of the pids that a run gives
abbrev pub IsKnown : ℕ → Type 0
IsKnown n = (FIRST_PID ≤ n) × (n ≤ LAST_PID)

-- an event is about a process of the run; so are the parent of a spawned one, the one that linked, and a partner
abbrev pub IsKnownEvent : Event → Type 0
IsKnownEvent (sent p t to alive) = IsKnown p
IsKnownEvent (received p sender t) = IsKnown p
IsKnownEvent (called p c) = IsKnown p
IsKnownEvent (returned p f t depth) = IsKnown p
IsKnownEvent (raised p f c t depth) = IsKnown p
IsKnownEvent (spawning p child f args) = IsKnown p × IsKnown child
IsKnownEvent (spawned p parent f args) = IsKnown p × IsKnown parent
IsKnownEvent (exited p r) = IsKnown p
IsKnownEvent (linked p other) = IsKnown p
IsKnownEvent (unlinked p other) = IsKnown p
IsKnownEvent (getting_linked p other) = IsKnown p × IsKnown other
IsKnownEvent (getting_unlinked p other) = IsKnown p × IsKnown other

-- each of the events is so
abbrev pub AllKnown : List Event → Type 0
AllKnown [] = Unit {0}
AllKnown (e ∷ es) = IsKnownEvent e × AllKnown es

-- the events of a pick, none where it is idle
abbrev pub events_in : Move → List Event
events_in (moved v es) = es
events_in (idle v) = []
