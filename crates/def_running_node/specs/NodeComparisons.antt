-- A run here and on a node side by side: of each move the lines of the sessions that a node doesn't have, and those that it has in their place (own).
-- Depends on the history of a run, on what sessions do, and on what the sessions of a node report.
use Rattle.std.specs.Prelude.{ℕ, Bool, true, false, not, ◌&&◌, if◌then◌else◌, List, [], ◌∷◌, ◌++◌, map, flat_map, filter, Option, Some, None, option_to_list, codes}
use Rattle.std.specs.List.{list_any}
use Rattle.std.specs.Str.{bytes_eq}
use Rattle.def_term.specs.Tree.{Tree}
use Rattle.def_term.specs.Names.{Name}
use Rattle.def_term.specs.Text.{w, atom_text}
use Rattle.def_script.specs.Program.{Command, session_of, Program}
use Rattle.def_script.specs.Exports.{Exports, exports_of}
use Rattle.def_script.specs.Script.{creations}
use Rattle.def_node.specs.Event.{Event, linked, unlinked}
use Rattle.def_outlook.specs.Outlook.{Outlook, OwnLink, links_itself, unlinks_itself}
use Rattle.def_session.specs.State.{Phase, absent, live, destroyed, Session, absent_session, alive_at_start}
use Rattle.def_session.specs.Session.{event_reported}
use Rattle.def_session.specs.Commands.{command_done}
use Rattle.def_run.specs.Run.{HistoryItem, event_item, command_item}
use Rattle.def_run.specs.History.{MoveHistory, move_histories}
use Rattle.def_explain.specs.RunTexts.{is_session}
use Rattle.def_running_node.specs.NodeSessions.{NodeSession, marks_after, reported_there}
use Rattle.def_running_node.specs.NodeRuns.{NodeRun, at_move, run_after, run_messages, opens, hides, NodeLine, lacks, adds, is_open, lines_by_openness}
use Rattle.def_running_node.specs.NodeReplies.{node_command}

-- a session here and on a node, and whether what it reports on a node is determined so far
pub record SessionPair : Type 0 where
  pub name : Name
  pub here : Session
  pub there : NodeSession
  pub is_determined : Bool

-- the processes of a node, and the sessions of the control list
pub record Comparison : Type 0 where
  pub run : NodeRun
  pub sessions : List SessionPair

-- lines of messages
abbrev pub texts : List Tree → List (List ℕ)
texts ts = map w ts

-- lines of replies
abbrev pub reply_texts : Tree → List (List ℕ)
reply_texts t = (codes "replies " ++ w t) ∷ []

-- ---- one session

-- whether what it reports is determined after an event, after which the processes are these: as long as the run is, and what a node makes of each event
abbrev pub pair_determined_after : NodeRun → Outlook → SessionPair → Event → Bool
pair_determined_after q l c e = c.is_determined && (q.is_determined && (not (opens c.there.session e) && not (hides c.there.session l e)))

-- and after a command of its own, or a link of a process with itself
abbrev pub determined_in : NodeRun → SessionPair → Bool
determined_in r c = c.is_determined && r.is_determined

-- what it makes of the event, and the lines between both
abbrev pub pair_after : (after : NodeRun) → Outlook → SessionPair → Event → SessionPair
pair_after q l c e =
    let there : Session × Option Tree = reported_there c.there.session e in
    record c {
      here = (event_reported c.here e).0;
      there = record { session = there.0; marks = marks_after there.0 c.there.marks e };
      is_determined = pair_determined_after q l c e;
    }

abbrev pub lines_of_event : (before after : NodeRun) → Outlook → SessionPair → Event → List NodeLine
lines_of_event r q l c e =
    let there : Session × Option Tree = reported_there c.there.session e in
    lines_by_openness c.is_determined (pair_determined_after q l c e)
    (texts (option_to_list (event_reported c.here e).1)) (texts (run_messages r l c.there there.0 e there.1))

-- one that isn't there knows who is alive, and has no lines
abbrev pub pair_elsewhere : SessionPair → Event → SessionPair
pair_elsewhere c e = record c { here = (event_reported c.here e).0; there = record c.there { session = (event_reported c.there.session e).0 } }

abbrev pub pair_after_in : Phase → (after : NodeRun) → Outlook → SessionPair → Event → SessionPair
pair_after_in absent q l c e = pair_elsewhere c e
pair_after_in destroyed q l c e = pair_elsewhere c e
pair_after_in live q l c e = pair_after q l c e

abbrev pub lines_of_event_in : Phase → (before after : NodeRun) → Outlook → SessionPair → Event → List NodeLine
lines_of_event_in absent r q l c e = []
lines_of_event_in destroyed r q l c e = []
lines_of_event_in live r q l c e = lines_of_event r q l c e

-- a command of its own
abbrev pub pair_after_command : Exports → NodeRun → SessionPair → Command → SessionPair
pair_after_command o r c k =
    if bytes_eq c.name (session_of k)
    then record c { here = (command_done o c.here k).0; there = record c.there { session = (node_command o c.there.session k).0 }; is_determined = determined_in r c }
    else c

abbrev pub lines_of_command : Exports → NodeRun → SessionPair → Command → List NodeLine
lines_of_command o r c k =
    if bytes_eq c.name (session_of k)
    then lines_by_openness c.is_determined (determined_in r c) (reply_texts (command_done o c.here k).1) (reply_texts (node_command o c.there.session k).1)
    else []

-- a link with itself, or an unlink, of the process that moves: the message that a session has on a node
abbrev pub own_link_event : ℕ → OwnLink → Event
own_link_event p links_itself = linked p p
own_link_event p unlinks_itself = unlinked p p

abbrev pub pair_after_own_link_in : Phase → NodeRun → SessionPair → SessionPair
pair_after_own_link_in absent r c = c
pair_after_own_link_in destroyed r c = c
pair_after_own_link_in live r c = record c { is_determined = determined_in r c }

abbrev pub pair_after_own_link : NodeRun → SessionPair → Option OwnLink → SessionPair
pair_after_own_link r c None = c
pair_after_own_link r c (Some x) = pair_after_own_link_in c.here.phase r c

abbrev pub lines_of_own_link_in : Phase → NodeRun → SessionPair → Event → List NodeLine
lines_of_own_link_in absent r c e = []
lines_of_own_link_in destroyed r c e = []
lines_of_own_link_in live r c e = lines_by_openness c.is_determined (determined_in r c) [] (texts (option_to_list (event_reported c.there.session e).1))

abbrev pub lines_of_own_link : NodeRun → SessionPair → ℕ → Option OwnLink → List NodeLine
lines_of_own_link r c p None = []
lines_of_own_link r c p (Some x) = lines_of_own_link_in c.here.phase r c (own_link_event p x)

-- ---- all sessions

-- a line after the name of its session
abbrev pub NamedLine : Type 0
NamedLine = Name × NodeLine

abbrev pub lines_with_name : Name → List NodeLine → List NamedLine
lines_with_name n ls = map (λ l. (n, l)) ls

-- after an event or a command
abbrev pub after_item : Exports → Outlook → Comparison → HistoryItem → Comparison
after_item o l c (event_item e) = record { run = run_after c.run l e; sessions = map (λ s. pair_after_in s.here.phase (run_after c.run l e) l s e) c.sessions }
after_item o l c (command_item k) = record c { sessions = map (λ s. pair_after_command o c.run s k) c.sessions }

-- and its lines
abbrev pub lines_of_item : Exports → Outlook → Comparison → HistoryItem → List NamedLine
lines_of_item o l c (event_item e) = flat_map (λ s. lines_with_name s.name (lines_of_event_in s.here.phase c.run (run_after c.run l e) l s e)) c.sessions
lines_of_item o l c (command_item k) = flat_map (λ s. lines_with_name s.name (lines_of_command o c.run s k)) c.sessions

-- after several, and their lines
abbrev pub after_items : Exports → Outlook → Comparison → List HistoryItem → Comparison
after_items o l c [] = c
after_items o l c (x ∷ xs) = after_items o l (after_item o l c x) xs

abbrev pub lines_of_items : Exports → Outlook → Comparison → List HistoryItem → List NamedLine
lines_of_items o l c [] = []
lines_of_items o l c (x ∷ xs) = lines_of_item o l c x ++ lines_of_items o l (after_item o l c x) xs

-- ---- moves

-- at a move of this pick
abbrev pub at_pick : ℕ → Comparison → Comparison
at_pick pick c = record c { run = at_move c.run pick }

-- a move that shows nothing can be a link of the process with itself
abbrev pub after_own_link : Outlook → Comparison → Comparison
after_own_link l c = record c { sessions = map (λ s. pair_after_own_link c.run s l.own_link) c.sessions }

abbrev pub after_pick : Exports → Outlook → ℕ → Comparison → List HistoryItem → Comparison
after_pick o l pick c [] = after_own_link l (at_pick pick c)
after_pick o l pick c (x ∷ xs) = after_items o l (at_pick pick c) (x ∷ xs)

abbrev pub lines_of_move : Exports → Outlook → ℕ → Comparison → List HistoryItem → List NamedLine
lines_of_move o l pick c [] = flat_map (λ s. lines_with_name s.name (lines_of_own_link (at_move c.run pick) s pick l.own_link)) c.sessions
lines_of_move o l pick c (x ∷ xs) = lines_of_items o l (at_pick pick c) (x ∷ xs)

-- what a move shows
abbrev pub items_of : MoveHistory → List HistoryItem
items_of h = map (λ m. m.item) h.moments

abbrev pub after_moves : Exports → Comparison → List MoveHistory → Comparison
after_moves o c [] = c
after_moves o c (h ∷ hs) = after_moves o (after_pick o h.outlook h.pick c (items_of h)) hs

-- the lines of each move
abbrev pub lines_of_moves : Exports → Comparison → List MoveHistory → List (List NamedLine)
lines_of_moves o c [] = []
lines_of_moves o c (h ∷ hs) = lines_of_move o h.outlook h.pick c (items_of h) ∷ lines_of_moves o (after_pick o h.outlook h.pick c (items_of h)) hs

-- ---- a run

-- before any move
abbrev pub pair_at_start : Exports → Name → SessionPair
pair_at_start o n = record { name = n; here = absent_session o; there = record { session = absent_session o; marks = [] }; is_determined = true }

-- of all sessions, or of that of a name alone, where one is given
abbrev pub comparison_at_start : Option Name → Program → Comparison
comparison_at_start n p = record {
  run = record { alive = alive_at_start (exports_of p).processes; signals = []; ended = None; is_determined = true };
  sessions = map (λ s. pair_at_start (exports_of p) s.0) (filter (λ s. is_session n s.0) (creations p.commands));
}

-- after the moves of a run
abbrev pub comparison_after : Option Name → Program → List ℕ → Comparison
comparison_after n p picks = after_moves (exports_of p) (comparison_at_start n p) (move_histories p picks)

-- the lines of each move of a run
abbrev pub lines_of_run : Option Name → Program → List ℕ → List (List NamedLine)
lines_of_run n p picks = lines_of_moves (exports_of p) (comparison_at_start n p) (move_histories p picks)

-- ---- its text

abbrev pub node_line_text : NodeLine → List ℕ
node_line_text (lacks text) = codes "- " ++ text
node_line_text (adds text) = codes "+ " ++ text
node_line_text is_open = codes "on a node: the messages aren't determined from here on"

-- after the name of the session, as what it makes of the move
abbrev pub named_line_text : NamedLine → List ℕ
named_line_text l = codes "  " ++ atom_text l.0 ++ codes ": " ++ node_line_text l.1 ++ 10 ∷ []

-- ---- which moves a node does otherwise

abbrev pub is_difference : NodeLine → Bool
is_difference (lacks text) = true
is_difference (adds text) = true
is_difference is_open = false

-- a session has other messages, or another reply
abbrev pub lines_differ : List NamedLine → Bool
lines_differ ls = list_any (λ l. is_difference l.1) ls

abbrev pub lines_are_open : List NamedLine → Bool
lines_are_open ls = list_any (λ l. not (is_difference l.1)) ls
