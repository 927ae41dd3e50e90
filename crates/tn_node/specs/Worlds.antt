-- What the code's processes stand for.
use Rattle.std.specs.Prelude.{◌≡◌, ℕ, ◌<◌, Bool, List, map, slice_get, slice_set, Option, Some, None, Result, IfOk}
use Rattle.std.specs.Option.{option_map}
use Rattle.std.specs.Arc.{arc_value}
use Rattle.std.specs.declared.sync.Arc.{Arc}
use Rattle.def_node.specs.Process as process
use Rattle.def_node.specs.Process.{act}
use Rattle.def_node.specs.Node as node
use Rattle.def_node.specs.Node.{change_at, put_at, partners_told, exit_process, after_act}
use Rattle.tn_flags.specs.Views.{event_of}
use Rattle.tn_flags.specs.declared.event.Event.{Event}
use Rattle.std.specs.declared.vec.Vec.{Vec}
use Rattle.tn_term.specs.Views.{tree_of}
use Rattle.tn_term.specs.declared.term.Term.{Term}
use Rattle.tn_process.specs.Functions.{functions_in}
use Rattle.tn_process.specs.declared.functions.Functions.{Functions}
use Rattle.tn_process.specs.Views.{process_seen, act_seen}
use Rattle.tn_process.specs.declared.process.Process.{Process}
use Rattle.tn_process.specs.declared.act.Act.{Act}
use Rattle.tn_process.specs.declared.act.Act.TheVariants.{Waits, Continues, Sends, LinksTo, UnlinksFrom, Spawns, Exits}
use Rattle.tn_node.specs.declared.world.World.{World}

abbrev pub slot_of : {A : Type 0} → Option (Arc (Process A) A) → Option process.Process
slot_of s = option_map (λ owner. process_seen (arc_value owner)) s

abbrev pub world_of : {A : Type 0} → World A → node.World
world_of w = record { slots = map slot_of w.slots.items }

-- what a step came to, where w is the processes afterwards
abbrev pub move_of : {A : Type 0} → World A → Option (Vec (Event A) A) → node.Move
move_of w None = node.idle (world_of w)
move_of w (Some es) = node.moved (world_of w) (map event_of es.items)

-- a spawn needs that fewer than 64 processes were started
abbrev pub IsRoomFor : {A : Type 0} → Act A → ℕ → Type 0
IsRoomFor Waits n = Unit {0}
IsRoomFor (Continues es) n = Unit {0}
IsRoomFor (Sends to t) n = Unit {0}
IsRoomFor (LinksTo m) n = Unit {0}
IsRoomFor (UnlinksFrom m) n = Unit {0}
IsRoomFor (Spawns child e) n = n < 64
IsRoomFor (Exits r es) n = Unit {0}

-- the processes, by their places
abbrev pub slots_of : {A : Type 0} → World A → List (Option process.Process)
slots_of w = (world_of w).slots

-- the slots, where the partners of the process with this pid were told that it has ended
abbrev pub tells_partners : {A : Type 0} → World A → ℕ → List Bool → Term A → List (Option process.Process)
tells_partners w pid partners reason = partners_told pid (tree_of reason) partners (slots_of w)

-- the same, where the process at this place is there no more
abbrev pub vacated_at : {A : Type 0} → World A → ℕ → ℕ → List Bool → Term A → List (Option process.Process)
vacated_at w place pid partners reason = partners_told pid (tree_of reason) partners (slice_set (slots_of w) place None)

-- the end of the process with this pid, at this place, after these events
abbrev pub ends_at : {A : Type 0} → World A → ℕ → ℕ → List Bool → Term A → Vec (Event A) A → node.Move
ends_at w place pid partners reason events = exit_process (world_of w) place pid partners (tree_of reason) (map event_of events.items)

-- with the processes after it, the answer is this move
abbrev pub Moves : {A E : Type 0} → World A → Result (Vec (Event A) A) E → node.Move → Type 0
Moves w r move = IfOk r (λ es. node.moved (world_of w) (map event_of es.items) ≡ move)

-- the process at the place changes so, and no other
abbrev pub ChangesAt : {A : Type 0} → World A → World A → ℕ → (process.Process → process.Process) → Type 0
ChangesAt old new place f = world_of new ≡ change_at (world_of old) place f

-- the process at the place acts; the others stay
abbrev pub ActsAt : {A : Type 0} → World A → World A → Functions A → ℕ → ℕ → Option ℕ → Act A → Type 0
ActsAt old new functions place pid child a =
    (q : process.Process) → slice_get (world_of old).slots place ≡ Some (Some q)
    → (r : process.Process) × (world_of new ≡ put_at (world_of old) place r) × (act_seen r a ≡ act (functions_in functions) pid child q)

-- what the act of the process at the place does, where the change in the process itself is made already
abbrev pub CarriesOut : {A E : Type 0} → World A → World A → ℕ → ℕ → Act A → Result (Option (Vec (Event A) A)) E → Type 0
CarriesOut old new place pid a result =
    (before : node.World) → (q r : process.Process) → slice_get before.slots place ≡ Some (Some q) → world_of old ≡ put_at before place r
    → IfOk result (λ o. move_of new o ≡ after_act before place pid (act_seen r a))
