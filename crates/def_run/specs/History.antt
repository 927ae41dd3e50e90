-- The history of a run: each move with its events and commands, and all sessions before and after each of them (own).
-- Depends on runs, and on what one session makes of an event and of a command. Listings, replies, what a move adds and the account of a run are projections of it.
use Rattle.std.specs.Prelude.{ℕ, suc, if◌then◌else◌, List, [], ◌∷◌, ◌++◌, option_to_list, map, length, take, slice_get, flat_map}
use Rattle.std.specs.Str.{bytes_eq}
use Rattle.def_term.specs.Tree.{Tree}
use Rattle.def_term.specs.Names.{Name}
use Rattle.def_script.specs.Program.{Function, session_of, Program}
use Rattle.def_script.specs.Exports.{Exports, exports_of}
use Rattle.def_script.specs.Script.{creations}
use Rattle.def_outlook.specs.Outlook.{Outlook, outlook}
use Rattle.def_session.specs.State.{Session, absent_session}
use Rattle.def_session.specs.Session.{event_reported}
use Rattle.def_session.specs.Commands.{command_done}
use Rattle.def_run.specs.Run.{HistoryItem, event_item, command_item, RunState, PickStep, pick_step, start}
use Rattle.def_run.specs.Listing.{Item}

-- ---- the sessions side by side

-- a session by its name, and its state
abbrev pub NamedSession : Type 0
NamedSession = Name × Session

-- its state after an event or a command; a command to another session leaves it
abbrev pub session_state_after : Exports → NamedSession → HistoryItem → Session
session_state_after o s (event_item e) = (event_reported s.1 e).0
session_state_after o s (command_item c) = if bytes_eq s.0 (session_of c) then (command_done o s.1 c).0 else s.1

-- the session with that state
abbrev pub after : Exports → NamedSession → HistoryItem → NamedSession
after o s x = (s.0, session_state_after o s x)

-- all of them
abbrev pub all_after : Exports → List NamedSession → HistoryItem → List NamedSession
all_after o ss x = map (λ s. after o s x) ss

-- and after several events and commands
abbrev pub all_after_items : Exports → List NamedSession → List HistoryItem → List NamedSession
all_after_items o ss [] = ss
all_after_items o ss (x ∷ xs) = all_after_items o (all_after o ss x) xs

-- all sessions of a program, before they are created
abbrev pub named_sessions : Program → List NamedSession
named_sessions p = map (λ s. (s.0, absent_session (exports_of p))) (creations p.commands)

-- ---- the history

-- an event or a command in its place: the number and the pick of its move, and all sessions before and after it
pub record Moment : Type 0 where
  pub move : ℕ
  pub pick : ℕ
  pub item : HistoryItem
  pub before : List NamedSession
  pub after : List NamedSession

-- a move: its number, its pick, what is known of its step before it, and its moments in order, of which there can be none
pub record MoveHistory : Type 0 where
  pub number : ℕ
  pub pick : ℕ
  pub outlook : Outlook
  pub moments : List Moment

-- the moments of a move that shows these
abbrev pub moments_from : Exports → (move pick : ℕ) → List NamedSession → List HistoryItem → List Moment
moments_from o k pick ss [] = []
moments_from o k pick ss (x ∷ xs) = record { move = k; pick = pick; item = x; before = ss; after = all_after o ss x } ∷ moments_from o k pick (all_after o ss x) xs

-- the move
abbrev pub move_history : Exports → (move pick : ℕ) → Outlook → List NamedSession → List HistoryItem → MoveHistory
move_history o k pick l ss xs = record { number = k; pick = pick; outlook = l; moments = moments_from o k pick ss xs }

-- the picks that move, after so many moves
abbrev pub move_histories_from : Exports → List Function → RunState → ℕ → List NamedSession → List ℕ → List MoveHistory
move_histories_from o fs p k ss [] = []
move_histories_from o fs p k ss (pick ∷ picks) =
    let t : PickStep = pick_step fs p pick in
    if t.moved
    then move_history o (suc k) pick (outlook fs p.world pick) ss t.shown ∷ move_histories_from o fs t.after (suc k) (all_after_items o ss t.shown) picks
    else move_histories_from o fs t.after k ss picks

-- the moves of a run, numbered from 1
abbrev pub move_histories : Program → List ℕ → List MoveHistory
move_histories p picks = move_histories_from (exports_of p) p.functions (start p) 0 (named_sessions p) picks

-- the moments of some moves
abbrev pub moments_of : List MoveHistory → List Moment
moments_of hs = flat_map (λ h. h.moments) hs

-- the moments of a run
abbrev pub history : Program → List ℕ → List Moment
history p picks = moments_of (move_histories p picks)

-- ---- what is in a history

-- the state of the session of this name among these; one that no command creates is absent
abbrev pub session_in : Exports → Name → List NamedSession → Session
session_in o n [] = absent_session o
session_in o n (s ∷ ss) = if bytes_eq n s.0 then s.1 else session_in o n ss

-- the message that a session in this state reports
abbrev pub item_message : Session → HistoryItem → List Tree
item_message s (event_item e) = option_to_list (event_reported s e).1
item_message s (command_item c) = []

-- the messages of a session
abbrev pub history_messages : Exports → Name → List Moment → List Tree
history_messages o n ms = flat_map (λ m. item_message (session_in o n m.before) m.item) ms

-- the reply to a command, by its own session
abbrev pub item_reply : Exports → List NamedSession → HistoryItem → List Tree
item_reply o ss (event_item e) = []
item_reply o ss (command_item c) = (command_done o (session_in o (session_of c) ss) c).1 ∷ []

-- the replies to the commands
abbrev pub history_replies : Exports → List Moment → List Tree
history_replies o ms = flat_map (λ m. item_reply o m.before m.item) ms

-- what the sessions, numbered from n, add to their listings; each message has as index the number of the session's messages in the past
abbrev pub items_of_sessions : Exports → List Moment → ℕ → List NamedSession → HistoryItem → List Item
items_of_sessions o past n [] x = []
items_of_sessions o past n (s ∷ ss) x =
    map (λ m. record { session = n; index = length (history_messages o s.0 past); message = m }) (item_message s.1 x)
    ++ items_of_sessions o past (suc n) ss x

-- what is added by these moments, after those of the past
abbrev pub items_of_moments : Exports → List Moment → List Moment → List Item
items_of_moments o past [] = []
items_of_moments o past (m ∷ ms) = items_of_sessions o past 1 m.before m.item ++ items_of_moments o (past ++ m ∷ []) ms

-- what is added by the move k, counted from 0
abbrev pub items_of_move : Exports → List MoveHistory → ℕ → List Item
items_of_move o hs k = items_of_moments o (moments_of (take k hs)) (moments_of (option_to_list (slice_get hs k)))
