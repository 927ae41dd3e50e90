-- The sessions of a run side by side, each with its state and its messages so far, as the definitions give them.
use Rattle.std.specs.Prelude.{ℕ, zero, suc, ◌∷◌, [], ◌++◌, List, map, filter, flat_map, length, Option, Some, None, option_to_list, slice_get, if◌then◌else◌, Result, IfOk}
use Rattle.std.specs.declared.alloc.AllocError.{AllocError}
use Rattle.std.specs.Option.{unwrap_or}
use Rattle.std.specs.Str.{bytes_eq}
use Rattle.def_term.specs.Tree.{Tree}
use Rattle.def_term.specs.Names.{Name, word}
use Rattle.def_script.specs.Program.{Command, session_of, Program}
use Rattle.def_node.specs.Event.{Event}
use Rattle.def_script.specs.Exports.{Exports, exports_of}
use Rattle.def_script.specs.Script.{creations}
use Rattle.def_session.specs.State.{Session, absent_session}
use Rattle.def_session.specs.Session.{event_reported}
use Rattle.def_session.specs.Commands.{command_done}
use Rattle.def_run.specs.Run.{HistoryItem, events}
use Rattle.def_run.specs.View.{is_own}
use Rattle.def_run.specs.Listing.{Item as DefinedItem, messages_from, session_after}

-- a session of the control list, its state and its messages
pub record Track : Type 0 where
  pub number : ℕ
  pub name : Name
  pub session : Session
  pub messages : List Tree

-- what the session of this number and name is after these items
abbrev pub track_after : Exports → List HistoryItem → ℕ → Name → Track
track_after o items n s = record {
  number = n;
  name = s;
  session = session_after o (absent_session o) (filter (is_own s) items);
  messages = messages_from o (absent_session o) (filter (is_own s) items);
}

-- those of the control list, numbered from n
abbrev pub tracks_from : Exports → List HistoryItem → ℕ → List (Name × Name) → List Track
tracks_from o items n [] = []
tracks_from o items n (s ∷ ss) = track_after o items n s.0 ∷ tracks_from o items (suc n) ss

-- those of the program after these picks
abbrev pub tracks_of : Program → List ℕ → List Track
tracks_of p picks = tracks_from (exports_of p) (events p picks) 1 (creations p.commands)

-- a message of the session of this number, at this index
abbrev pub item_at : ℕ → ℕ → Tree → DefinedItem
item_at n i m = record { session = n; index = i; message = m }

-- after one more event
abbrev pub with_event : Event → Track → Track
with_event e t = record t { session = (event_reported t.session e).0; messages = t.messages ++ option_to_list (event_reported t.session e).1 }

-- what the event adds to the session's messages
abbrev pub reported_to : Event → Track → List DefinedItem
reported_to e t = map (item_at t.number (length t.messages)) (option_to_list (event_reported t.session e).1)

-- after one more command, where it is the session's own
abbrev pub with_command : Exports → Command → Track → Track
with_command o c t = if bytes_eq t.name (session_of c) then record t { session = (command_done o t.session c).0 } else t

-- the reply of the session that a command names: of the last of that name
abbrev pub reply_from : Exports → Command → Option Tree → List Track → Option Tree
reply_from o c r [] = r
reply_from o c r (t ∷ ts) = reply_from o c (if bytes_eq t.name (session_of c) then Some (command_done o t.session c).1 else r) ts

-- the reply to a command
abbrev pub reply_in : Exports → Command → List Track → Tree
reply_in o c ts = unwrap_or (reply_from o c None ts) (word "badarg")

-- the later of two replies
abbrev pub newer_of : Option Tree → Option Tree → Option Tree
newer_of (Some t) r = Some t
newer_of None r = r

-- the sessions after some events
abbrev pub with_events : List Event → List Track → List Track
with_events [] ts = ts
with_events (e ∷ es) ts = with_events es (map (with_event e) ts)

-- what the events add, by their order, and for one event by rising session number
abbrev pub items_of_tracks : List Event → List Track → List DefinedItem
items_of_tracks [] ts = []
items_of_tracks (e ∷ es) ts = flat_map (reported_to e) ts ++ items_of_tracks es (map (with_event e) ts)

-- the list of the value is that of the value before with one more
abbrev pub IsOneMore : {K X : Type 0} → (K → List X → Type 0) → X → K → K → Type 0
IsOneMore {K} {X} Of x old new = (xs : List X) → Of old xs → Of new (xs ++ x ∷ [])

-- the same, with several more
abbrev pub AreMore : {K X : Type 0} → (K → List X → Type 0) → List X → K → K → Type 0
AreMore {K} {X} Of more old new = (xs : List X) → Of old xs → Of new (xs ++ more)

-- a message of the session of this number is handed out, at the index after what was kept
abbrev pub IsHandedOut : {K G : Type 0} → (K → List Tree → Type 0) → (G → List DefinedItem → Type 0) → ℕ → Tree → K → G → G → Result (Unit {0}) AllocError → Type 0
IsHandedOut Keeps Gives n m kept given given' result =
    (ts : List Tree) → Keeps kept ts → IfOk result (λ _. IsOneMore Gives (item_at n (length ts) m) given given')

-- the command of this number, counted from 1
abbrev pub command_numbered : List Command → ℕ → Option Command
command_numbered cs zero = None
command_numbered cs (suc n) = slice_get cs n
