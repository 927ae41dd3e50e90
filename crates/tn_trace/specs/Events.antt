-- What an event does to the sessions of the code, and what is handed out of their messages.
use Rattle.std.specs.Prelude.{◌≡◌, List, flat_map, map, Result, IfOk}
use Rattle.std.specs.declared.alloc.AllocError.{AllocError}
use Rattle.def_term.specs.Alive.{Alive}
use Rattle.def_term.specs.Tree.{Tree}
use Rattle.def_script.specs.Exports.{Exports}
use Rattle.def_session.specs.State.{alive_after}
use Rattle.def_run.specs.Listing.{Item as DefinedItem}
use Rattle.tn_flags.specs.Views.{event_of}
use Rattle.tn_flags.specs.declared.event.Event.{Event}
use Rattle.tn_trace.specs.Tracks.{Track, with_event, with_events, reported_to, items_of_tracks, AreMore}
use Rattle.tn_trace.specs.Slots.{IsTracked, EachPair}
use Rattle.tn_trace.specs.Recorders.{AreTracked}
use Rattle.tn_trace.specs.declared.slot.Slot.{Slot}
use Rattle.tn_trace.specs.declared.recorder.Recorder.{Recorder}

-- the session saw the event
abbrev pub Sees : {A K : Type 0} → (K → List Tree → Type 0) → Event A → Slot A K → Slot A K → Result (Unit {0}) AllocError → Type 0
Sees Keeps event old new result =
    (o : Exports) (living : Alive) (t : Track) → IsTracked Keeps o living t old
    → IfOk result (λ _. IsTracked Keeps o (alive_after living (event_of event)) (with_event (event_of event) t) new)

-- what the session reports of the event was handed out
abbrev pub HandsOut : {A K G : Type 0} → (K → List Tree → Type 0) → (G → List DefinedItem → Type 0) → Event A → Slot A K → G → G → Result (Unit {0}) AllocError → Type 0
HandsOut Keeps Gives event old given given' result =
    (o : Exports) (living : Alive) (t : Track) → IsTracked Keeps o living t old
    → IfOk result (λ _. AreMore Gives (reported_to (event_of event) t) given given')

-- each session saw the event
abbrev pub EachSees : {A K : Type 0} → (K → List Tree → Type 0) → Event A → List (Slot A K) → List (Slot A K) → Result (Unit {0}) AllocError → Type 0
EachSees Keeps event old new result =
    (o : Exports) (living : Alive) (ts : List Track) → EachPair (IsTracked Keeps o living) ts old
    → IfOk result (λ _. EachPair (IsTracked Keeps o (alive_after living (event_of event))) (map (with_event (event_of event)) ts) new)

-- what each session reports of the event was handed out, by rising number
abbrev pub EachHandsOut : {A K G : Type 0} → (K → List Tree → Type 0) → (G → List DefinedItem → Type 0) → Event A → List (Slot A K) → G → G → Result (Unit {0}) AllocError → Type 0
EachHandsOut Keeps Gives event old given given' result =
    (o : Exports) (living : Alive) (ts : List Track) → EachPair (IsTracked Keeps o living) ts old
    → IfOk result (λ _. AreMore Gives (flat_map (reported_to (event_of event)) ts) given given')

-- the recorder's sessions saw the event
abbrev pub AllSee : {A K : Type 0} → (K → List Tree → Type 0) → Event A → Recorder A K → Recorder A K → Result (Unit {0}) AllocError → Type 0
AllSee Keeps event old new result =
    (o : Exports) (ts : List Track) → AreTracked Keeps o ts old
    → IfOk result (λ _. AreTracked Keeps o (map (with_event (event_of event)) ts) new)

-- what they report of it was handed out
abbrev pub AllHandOut : {A K G : Type 0} → (K → List Tree → Type 0) → (G → List DefinedItem → Type 0) → Event A → Recorder A K → G → G → Result (Unit {0}) AllocError → Type 0
AllHandOut Keeps Gives event old given given' result =
    (o : Exports) (ts : List Track) → AreTracked Keeps o ts old
    → IfOk result (λ _. AreMore Gives (flat_map (reported_to (event_of event)) ts) given given')

-- the recorder's sessions saw the events of a move, in order
abbrev pub AllSeeEach : {A K : Type 0} → (K → List Tree → Type 0) → List (Event A) → Recorder A K → Recorder A K → Result (Unit {0}) AllocError → Type 0
AllSeeEach Keeps events old new result =
    (o : Exports) (ts : List Track) → AreTracked Keeps o ts old
    → IfOk result (λ _. AreTracked Keeps o (with_events (map event_of events) ts) new)

-- what they report of them was handed out
abbrev pub AllHandOutEach : {A K G : Type 0} → (K → List Tree → Type 0) → (G → List DefinedItem → Type 0) → List (Event A) → Recorder A K → G → G → Result (Unit {0}) AllocError → Type 0
AllHandOutEach Keeps Gives events old given given' result =
    (o : Exports) (ts : List Track) → AreTracked Keeps o ts old
    → IfOk result (λ _. AreMore Gives (items_of_tracks (map event_of events) ts) given given')

-- nothing of the recorder changed but its sessions, who lives, and the room for texts
abbrev pub OnlySessions : {A K : Type 0} → Recorder A K → Recorder A K → Result (Unit {0}) AllocError → Type 0
OnlySessions old new result = IfOk result (λ _. new ≡ record old { living = new.living; slots = new.slots; room = new.room })
