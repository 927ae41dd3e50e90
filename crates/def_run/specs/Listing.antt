-- A session's messages as a function of what it sees, the replies, what each move adds, and the text of an output (own).
-- Depends on runs and views, on what one session makes of an event and of a command, on the text of picks, and on the written text of terms (`~w` of `io_lib`).
use Rattle.std.specs.Prelude.{ℕ, suc, ◌==◌, List, [], ◌∷◌, ◌++◌, Option, Some, None, option_to_list, filter, map, length, take, slice_get, flat_map, codes}
use Rattle.def_term.specs.Tree.{Tree}
use Rattle.def_term.specs.Names.{Name}
use Rattle.def_term.specs.Text.{w, atom_text}
use Rattle.def_script.specs.Program.{session_of, Program}
use Rattle.def_script.specs.Exports.{Exports, exports_of}
use Rattle.def_script.specs.Script.{creations}
use Rattle.def_node.specs.Event.{Event}
use Rattle.def_session.specs.State.{Session, absent_session}
use Rattle.def_session.specs.Session.{event_reported}
use Rattle.def_session.specs.Commands.{command_done}
use Rattle.def_run.specs.Run.{HistoryItem, event_item, command_item, events, moves, pick_step, pick_step_after}
use Rattle.def_run.specs.View.{is_own, View, view}
use Rattle.def_run.specs.Picks.{picks_text}

-- ---- one session

-- the messages of a session, from its state, by what it sees
abbrev pub messages_from : Exports → Session → List HistoryItem → List Tree
messages_from o s [] = []
messages_from o s (event_item e ∷ items) = option_to_list (event_reported s e).1 ++ messages_from o (event_reported s e).0 items
messages_from o s (command_item c ∷ items) = messages_from o (command_done o s c).0 items

-- its state afterwards
abbrev pub session_after : Exports → Session → List HistoryItem → Session
session_after o s [] = s
session_after o s (event_item e ∷ items) = session_after o (event_reported s e).0 items
session_after o s (command_item c ∷ items) = session_after o (command_done o s c).0 items

-- the messages of a session as a function of its view alone
abbrev pub messages_of : View → List Tree
messages_of v = messages_from v.opening (absent_session v.opening) v.items

-- its state as a function of its view alone
abbrev pub state_of : View → Session
state_of v = session_after v.opening (absent_session v.opening) v.items

-- the messages of the session s
abbrev pub messages : Name → Program → List ℕ → List Tree
messages s p picks = messages_of (view s p picks)

-- ---- replies

-- the reply of each command, by its own session's fold over what came before it
abbrev pub replies_from : Exports → List HistoryItem → List HistoryItem → List Tree
replies_from o past [] = []
replies_from o past (event_item e ∷ items) = replies_from o (past ++ event_item e ∷ []) items
replies_from o past (command_item c ∷ items) =
    (command_done o (session_after o (absent_session o) (filter (is_own (session_of c)) past)) c).1
    ∷ replies_from o (past ++ command_item c ∷ []) items

-- in the order of the commands
abbrev pub replies : Program → List ℕ → List Tree
replies p picks = replies_from (exports_of p) [] (events p picks)

-- ---- what each move adds

-- a message of the session of this number, at this index in its listing
pub record Item : Type 0 where
  pub session : ℕ
  pub index : ℕ
  pub message : Tree

-- what an event adds to the session s of number n, after what was shown before
abbrev pub items_of_event : Exports → ℕ → Name → List HistoryItem → Event → List Item
items_of_event o n s past e =
    let own : List HistoryItem = filter (is_own s) past in
    map (λ m. record { session = n; index = length (messages_from o (absent_session o) own); message = m }) (option_to_list (event_reported (session_after o (absent_session o) own) e).1)

-- to each of these sessions, which are numbered from n
abbrev pub reported_by_all : Exports → ℕ → List (Name × Name) → List HistoryItem → Event → List Item
reported_by_all o n [] past e = []
reported_by_all o n (s ∷ ss) past e = items_of_event o n s.0 past e ++ reported_by_all o (suc n) ss past e

-- by order of the events
abbrev pub answers_from : Exports → List (Name × Name) → List HistoryItem → List HistoryItem → List Item
answers_from o ss past [] = []
answers_from o ss past (event_item e ∷ items) = reported_by_all o 1 ss past e ++ answers_from o ss (past ++ event_item e ∷ []) items
answers_from o ss past (command_item c ∷ items) = answers_from o ss (past ++ command_item c ∷ []) items

-- what a pick shows after these
abbrev pub history_by : Program → List ℕ → Option ℕ → List HistoryItem
history_by p before None = []
history_by p before (Some pick) = (pick_step_after p before pick).shown

-- the messages that the move k adds, by order of its events, and for one event by rising session number
abbrev pub answer : Program → List ℕ → ℕ → List Item
answer p picks k =
    let journal : List ℕ = moves p picks in
    let before : List ℕ = take k journal in
    answers_from (exports_of p) (creations p.commands) (events p before) (history_by p before (slice_get journal k))

-- what is reported to the session of this number
abbrev pub for_session : ℕ → List Item → List Tree
for_session n xs = map (λ x. x.message) (filter (λ x. x.session == n) xs)

-- ---- text

-- a term's text with a line feed
abbrev pub line_of : Tree → List ℕ
line_of t = w t ++ 10 ∷ []

-- each term's text with a line feed
abbrev pub lines_of : List Tree → List ℕ
lines_of ts = flat_map line_of ts

-- == session NAME tracer TRACER
abbrev pub header_line : Name → Name → List ℕ
header_line name tracer = codes "== session " ++ atom_text name ++ codes " tracer " ++ atom_text tracer ++ 10 ∷ []

-- the header of a session and its messages
abbrev pub listing_text : Name → Name → List Tree → List ℕ
listing_text name tracer ms = header_line name tracer ++ lines_of ms

-- those of all sessions, by rising number
abbrev pub listings_text : (Name → List Tree) → List (Name × Name) → List ℕ
listings_text ms [] = []
listings_text ms (s ∷ ss) = listing_text s.0 s.1 (ms s.0) ++ listings_text ms ss

-- the output of an accepted script: each session's listing, the replies, and the journal
abbrev pub program_output : Program → List ℕ → List ℕ
program_output p picks =
    listings_text (λ s. messages s p picks) (creations p.commands)
    ++ codes "== replies\n" ++ lines_of (replies p picks)
    ++ codes "== journal\n" ++ picks_text (moves p picks) ++ 10 ∷ []
