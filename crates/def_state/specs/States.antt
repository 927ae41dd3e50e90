-- The state of a run after so many of its moves, as a text: a section for each session and each process (own).
-- Depends on runs, and on the lines of sessions and processes.
use Rattle.std.specs.Prelude.{ℕ, Bool, true, if◌then◌else◌, List, [], ◌++◌, flat_map, take, Option, Some, None}
use Rattle.std.specs.Str.{bytes_eq}
use Rattle.def_term.specs.Names.{Name}
use Rattle.def_term.specs.Alive.{FIRST_PID}
use Rattle.def_script.specs.Program.{Program}
use Rattle.def_script.specs.Script.{creations}
use Rattle.def_run.specs.Run.{moves, run_state_of}
use Rattle.def_run.specs.View.{View, view}
use Rattle.def_run.specs.Listing.{header_line}
use Rattle.def_state.specs.SessionTexts.{text_by_view}
use Rattle.def_state.specs.ProcessTexts.{processes_text}

-- the header of a session and its text, as a function of its view alone
abbrev pub session_text : Name × Name → View → List ℕ
session_text s v = header_line s.0 s.1 ++ text_by_view v

-- no name is asked for, or this one
abbrev pub asks_for : Option Name → Name → Bool
asks_for None n = true
asks_for (Some m) n = bytes_eq m n

-- a session that is asked for
abbrev pub text_of_session : Option Name → Program → List ℕ → Name × Name → List ℕ
text_of_session asked p journal s = if asks_for asked s.0 then session_text s (view s.0 p journal) else []

-- the sessions that are asked for, in the order of the control list
abbrev pub sessions_text : Option Name → Program → List ℕ → List ℕ
sessions_text asked p journal = flat_map (text_of_session asked p journal) (creations p.commands)

-- the state after these picks: the sessions that are asked for, and all processes by rising pid
abbrev pub text_after : Option Name → Program → List ℕ → List ℕ
text_after asked p journal = sessions_text asked p journal ++ processes_text p.functions FIRST_PID (run_state_of p journal).world.slots

-- the state after the first n moves of a run
abbrev pub state_text : Option Name → Program → List ℕ → ℕ → List ℕ
state_text asked p picks n = text_after asked p (take n (moves p picks))
