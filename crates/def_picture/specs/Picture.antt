-- The picture of a run: its rows, the life lines of its processes, and the messages that its sessions report (own).
-- Depends on the history of a run and on the text of terms. It knows nothing of where anything is drawn.
use Rattle.std.specs.Prelude.{ℕ, suc, ◌==◌, max, Bool, false, if◌then◌else◌, List, [], ◌∷◌, ◌++◌, map, fold, filter, flat_map, position, length, codes}
use Rattle.std.specs.Option.{unwrap_or}
use Rattle.def_term.specs.Alive.{FIRST_PID}
use Rattle.def_term.specs.Names.{Name}
use Rattle.def_term.specs.Text.{w, atom_text}
use Rattle.def_term.specs.Tree.{Tree, atom, tuple, of_elements}
use Rattle.def_script.specs.Program.{Command, create, destroy, set_processes, set_function, set_send, set_receive, Program}
use Rattle.def_script.specs.Script.{creations}
use Rattle.def_node.specs.Event.{Event, sent, received, called, returned, raised, spawning, spawned, exited, linked, unlinked, getting_linked, getting_unlinked}
use Rattle.def_session.specs.Messages.{elements_of}
use Rattle.def_run.specs.Run.{HistoryItem, event_item, command_item}
use Rattle.def_run.specs.Round.{pass_from}
use Rattle.def_run.specs.History.{NamedSession, Moment, history, item_message}

-- ---- rows

-- the shape of a row: an arrow between two processes, the start or the end of a call's frame at a depth, the birth or
-- the death of a process, another event of a process, or a command of the control list
pub data Shape : Type 0 where
  arrow : (source target : ℕ) → Shape
  frame_start : (p depth : ℕ) → Shape
  frame_end : (p depth : ℕ) → Shape
  birth : (p : ℕ) → Shape
  death : (p : ℕ) → Shape
  dot : (p : ℕ) → Shape
  command_line : Shape

-- a message that a session reports: the session's number, from 1, and the line of its listing
pub record Report : Type 0 where
  pub session : ℕ
  pub text : List ℕ

-- a row: the number of its move, its shape, what is written beside it, and who reports it
pub record PictureRow : Type 0 where
  pub move : ℕ
  pub shape : Shape
  pub label : List ℕ
  pub reports : List Report

-- what an event looks like
abbrev pub shape_of_event : Event → Shape
shape_of_event (sent p t to alive) = arrow p to
shape_of_event (received p sender t) = dot p
shape_of_event (called p c) = frame_start p c.depth
shape_of_event (returned p f t depth) = frame_end p depth
shape_of_event (raised p f c t depth) = frame_end p depth
shape_of_event (spawning p child f args) = arrow p child
shape_of_event (spawned p parent f args) = birth p
shape_of_event (exited p r) = death p
shape_of_event (linked p q) = arrow p q
shape_of_event (unlinked p q) = arrow p q
shape_of_event (getting_linked p q) = dot p
shape_of_event (getting_unlinked p q) = dot p

-- what a row looks like
abbrev pub shape_of : HistoryItem → Shape
shape_of (event_item e) = shape_of_event e
shape_of (command_item c) = command_line

-- the name of a function of the module `trace`, a session, and the other arguments
abbrev pub call_label : (function : List ℕ) → Name → (arguments : List Tree) → List ℕ
call_label function s ts = function ++ atom_text s ++ flat_map (λ t. 32 ∷ w t) ts

-- a command's name, its session, and what it sets
abbrev pub command_label : Command → List ℕ
command_label (create s t) = call_label (codes "session_create ") s (atom t ∷ [])
command_label (destroy s) = call_label (codes "session_destroy ") s []
command_label (set_processes s procs how flags) = call_label (codes "process ") s (procs ∷ how ∷ flags ∷ [])
command_label (set_function s mfa spec options) = call_label (codes "function ") s (mfa ∷ spec ∷ options ∷ [])
command_label (set_send s spec) = call_label (codes "send ") s (spec ∷ [])
command_label (set_receive s spec) = call_label (codes "recv ") s (spec ∷ [])

-- the trace message that an event has, whoever reports it
abbrev pub event_label : Event → List ℕ
event_label e = w (tuple (of_elements (elements_of false e)))

-- what is written beside a row
abbrev pub label_of : HistoryItem → List ℕ
label_of (event_item e) = event_label e
label_of (command_item c) = command_label c

-- the message of the session of this number
abbrev pub report_of : ℕ → Tree → Report
report_of n t = record { session = n; text = w t }

-- the messages of these sessions, which are numbered from n
abbrev pub reports_of : ℕ → List NamedSession → HistoryItem → List Report
reports_of n [] x = []
reports_of n (s ∷ ss) x = map (report_of n) (item_message s.1 x) ++ reports_of (suc n) ss x

-- the row of an event or a command of the move of this number, with the sessions in their states before it
abbrev pub row_at : (move : ℕ) → List NamedSession → HistoryItem → PictureRow
row_at move ss x = record { move = move; shape = shape_of x; label = label_of x; reports = reports_of 1 ss x }

-- a moment of the history is a row
abbrev pub moment_row : Moment → PictureRow
moment_row m = row_at m.move m.before m.item

-- ---- what a row shows

-- the message of the first session that reports it, else what the event or the command is
abbrev pub message_or : (label : List ℕ) → List Report → List ℕ
message_or label [] = label
message_or label (r ∷ rs) = r.text

-- of a row
abbrev pub row_text : PictureRow → List ℕ
row_text row = message_or row.label row.reports

-- ---- life lines

-- the life of a process: the rows of its birth and of its death, which are numbered from 0, and the depth of its deepest frame
pub record Life : Type 0 where
  pub pid : ℕ
  pub first : ℕ
  pub last : ℕ
  pub depth : ℕ

-- the shape is the birth of this process
abbrev pub is_birth : ℕ → Shape → Bool
is_birth p (birth q) = q == p
is_birth p _ = false

-- the shape is its death
abbrev pub is_death : ℕ → Shape → Bool
is_death p (death q) = q == p
is_death p _ = false

-- the depth of the frame of this process that the shape starts or ends, or 0
abbrev pub frame_depth : ℕ → Shape → ℕ
frame_depth p (frame_start q depth) = if q == p then depth else 0
frame_depth p (frame_end q depth) = if q == p then depth else 0
frame_depth p _ = 0

-- the depth of its deepest frame, 0 where it has none
abbrev pub deepest_frame : List PictureRow → ℕ → ℕ
deepest_frame rows p = fold (λ n r. max n (frame_depth p r.shape)) 0 rows

-- a process that no row gives birth to lives from the start, and one that no row ends lives until the end
abbrev pub life_of : List PictureRow → ℕ → Life
life_of rows p = record {
  pid = p;
  first = unwrap_or (position (λ r. is_birth p r.shape) rows) 0;
  last = unwrap_or (position (λ r. is_death p r.shape) rows) (length rows);
  depth = deepest_frame rows p;
}

-- the process that a row gives birth to
abbrev pub births : Shape → List ℕ
births (birth p) = p ∷ []
births _ = []

-- the processes in the order of their births: those of the entries, and those that are spawned
abbrev pub pids_of : ℕ → List PictureRow → List ℕ
pids_of entries rows = pass_from entries FIRST_PID ++ flat_map (λ r. births r.shape) rows

-- ---- the picture

-- the names of the sessions by their numbers, the lives in the order of the births, and the rows
pub record Picture : Type 0 where
  pub sessions : List Name
  pub lives : List Life
  pub rows : List PictureRow

-- the rows of a run
abbrev pub rows_of : Program → List ℕ → List PictureRow
rows_of p picks = map moment_row (history p picks)

-- the picture of a program with these rows
abbrev pub picture_of_rows : Program → List PictureRow → Picture
picture_of_rows p rows = record {
  sessions = map (λ s. s.0) (creations p.commands);
  lives = map (life_of rows) (pids_of (length p.entries) rows);
  rows = rows;
}

-- of the program's run by these picks
abbrev pub picture_of : Program → List ℕ → Picture
picture_of p picks = picture_of_rows p (rows_of p picks)

-- ---- columns and tooltips

-- the column of a process, in order of birth; that of a pid which no process has is the one after them
abbrev pub column_of : List Life → ℕ → ℕ
column_of lives p = unwrap_or (position (λ l. l.pid == p) lives) (length lives)

-- the lines among these messages that are of the session of this number
abbrev pub texts_by : ℕ → List Report → List (List ℕ)
texts_by n rs = map (λ r. r.text) (filter (λ r. r.session == n) rs)

-- the lines that it reports, in the order of the rows
abbrev pub texts_in_rows : ℕ → List PictureRow → List (List ℕ)
texts_in_rows n rows = flat_map (λ r. texts_by n r.reports) rows
