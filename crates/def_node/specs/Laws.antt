-- What is promised of the node (own).
-- Depends on the node, and on what keeps within its limits.
use Rattle.std.specs.Prelude.{◌≡◌, ◌≤◌, ◌-◌, ◌⊎◌, ℕ, true, false, List, [], ◌∷◌, ◌++◌, length, map, filter_map, All}
use Rattle.def_term.specs.Alive.{PROCESSES}
use Rattle.def_term.specs.Names.{word}
use Rattle.def_term.specs.Tree.{Tree, tuple, list, of_elements}
use Rattle.def_script.specs.Program.{Class, error, throw, exit, Function, Entry, Program}
use Rattle.def_node.specs.Event.{Event}
use Rattle.def_node.specs.Process.{Frame, Process, continues, exits, resume, raised_in, left_by, kept_by, raises}
use Rattle.def_node.specs.Node.{World, NodeState, next, next_of, opening_world}
use Rattle.def_node.specs.Limits.{IsStill, NothingChanges, IsEntered, IsWithin, IsAfter, world_after, state_after, AllKnown, events_in}

-- a pick that is idle leaves the processes as they were
abbrev pub IdleLeavesTheProcesses : Type 0
IdleLeavesTheProcesses = (ks : List Function) → (w : World) → (n : ℕ) → IsStill w (next_of ks w n)

-- and the place in the control list too
abbrev pub IdleLeavesTheState : Type 0
IdleLeavesTheState = (p : Program) → (s : NodeState) → (n : ℕ) → NothingChanges s (next p s n)

-- a program of at most 64 processes begins within the limits
abbrev pub OpeningIsWithin : Type 0
OpeningIsWithin = (es : List Entry) → length es ≤ PROCESSES → IsWithin (opening_world es)

-- and no step leaves them
abbrev pub StepsStayWithin : Type 0
StepsStayWithin = (ks : List Function) → (w : World) → (n : ℕ) → IsWithin w → IsWithin (world_after (next_of ks w n))

-- pids are never used again: no place is given up, and one where a process has exited stays empty
abbrev pub NoPidIsUsedAgain : Type 0
NoPidIsUsedAgain = (ks : List Function) → (w : World) → (n : ℕ) → IsWithin w → IsAfter w.slots (world_after (next_of ks w n)).slots

-- control picks change the place in the control list alone
abbrev pub ControlChangesNoProcess : Type 0
ControlChangesNoProcess = (p : Program) → (s : NodeState) → (state_after (next p s 0)).world ≡ s.world

-- each event is about processes that the run may have started
abbrev pub EventsAreOfTheRun : Type 0
EventsAreOfTheRun = (ks : List Function) → (w : World) → (n : ℕ) → IsWithin w → AllKnown (events_in (next_of ks w n))

-- ---- exceptions

-- a catch step called none of these frames
abbrev pub NoneByCatch : List Frame → Type 0
NoneByCatch fs = All (λ f. f.by_catch ≡ false) fs

-- a raise leaves the frames above the newest that a catch step called, and that one; the frames below stay
abbrev pub LeavesDownToACatch : Type 0
LeavesDownToACatch =
    (above beneath : List Frame) (f : Frame) → NoneByCatch above → f.by_catch ≡ true →
    (map (λ l. l.0) (left_by (above ++ f ∷ beneath)) ≡ above ++ f ∷ []) × (kept_by (above ++ f ∷ beneath) ≡ beneath)

-- and all frames, where a catch step called none
abbrev pub LeavesAllFrames : Type 0
LeavesAllFrames = (fs : List Frame) → NoneByCatch fs → (map (λ l. l.0) (left_by fs) ≡ fs) × (kept_by fs ≡ [])

-- the depths, from this one down, of so many frames
abbrev pub down_from : ℕ → List Frame → List ℕ
down_from n [] = []
down_from n (f ∷ fs) = n ∷ down_from (n - 1) fs

-- the newest frame has the number of all frames as its depth, and each that is left one less than the one above it
abbrev pub LeftHaveTheirDepths : Type 0
LeftHaveTheirDepths = (fs : List Frame) → map (λ l. l.1) (left_by fs) ≡ down_from (length fs) (map (λ l. l.0) (left_by fs))

-- the events of the frames that an exception of this class and value leaves
abbrev pub events_of_raise : List Function → ℕ → List Frame → Class → Tree → List Event
events_of_raise ks n fs c t = filter_map (raised_in ks n (record { class = c; value = t })) (left_by fs)

-- the value of the catch that takes it: T for a throw, {'EXIT',T} for an exit, and {'EXIT',{T,[]}} for an error
abbrev pub caught_value : Class → Tree → Tree
caught_value throw t = t
caught_value exit t = tuple (of_elements (word "EXIT" ∷ t ∷ []))
caught_value error t = tuple (of_elements (word "EXIT" ∷ tuple (of_elements (t ∷ list (of_elements []) ∷ [])) ∷ []))

-- where a catch step called a frame, a raise above it goes on in the frame below, which keeps its variables but for the step's target
abbrev pub CaughtRaiseGoesOn : Type 0
CaughtRaiseGoesOn =
    (ks : List Function) (n : ℕ) (q : Process) (above beneath : List Frame) (f g : Frame) (c : Class) (t : Tree) → NoneByCatch above → f.by_catch ≡ true →
    raises ks n q (above ++ f ∷ g ∷ beneath) c t ≡ continues (resume q f.target (caught_value c t) g beneath) (events_of_raise ks n (above ++ f ∷ g ∷ beneath) c t)

-- where no catch step called the oldest frame, the frames are of one of the two kinds: a catch step called none,
-- or there is a frame below the newest that one called
abbrev pub RaiseIsCaughtOrNot : Type 0
RaiseIsCaughtOrNot =
    (fs : List Frame) → IsEntered fs →
    NoneByCatch fs ⊎ ((above beneath : List Frame) × (f g : Frame) × (fs ≡ above ++ f ∷ g ∷ beneath) × NoneByCatch above × (f.by_catch ≡ true))

-- where a catch step called no frame, an error ends the process with {T,[]}
abbrev pub UncaughtErrorEnds : Type 0
UncaughtErrorEnds =
    (ks : List Function) (n : ℕ) (q : Process) (fs : List Frame) (t : Tree) → NoneByCatch fs →
    raises ks n q fs error t ≡ exits q.links (tuple (of_elements (t ∷ list (of_elements []) ∷ []))) (events_of_raise ks n fs error t)

-- an exit with T
abbrev pub UncaughtExitEnds : Type 0
UncaughtExitEnds =
    (ks : List Function) (n : ℕ) (q : Process) (fs : List Frame) (t : Tree) → NoneByCatch fs →
    raises ks n q fs exit t ≡ exits q.links t (events_of_raise ks n fs exit t)

-- and a throw is the error {nocatch,T}
abbrev pub UncaughtThrowIsAnError : Type 0
UncaughtThrowIsAnError =
    (ks : List Function) (n : ℕ) (q : Process) (fs : List Frame) (t : Tree) → NoneByCatch fs →
    raises ks n q fs throw t ≡ raises ks n q fs error (tuple (of_elements (word "nocatch" ∷ t ∷ [])))
