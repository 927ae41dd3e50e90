-- The text of an account: what the sessions make of a run, in lines (own).
-- Depends on what the sessions make of a run, on the elements of messages and on the written text of terms.
use Rattle.std.specs.Prelude.{ℕ, ◌==◌, Bool, true, false, ◌&&◌, if◌then◌else◌, List, [], ◌∷◌, ◌++◌, flat_map, Option, Some, None, codes, decimal}
use Rattle.std.specs.Str.{bytes_eq}
use Rattle.def_term.specs.Tree.{Tree, atom, tuple, list, none, more}
use Rattle.def_term.specs.Names.{Name, word}
use Rattle.def_term.specs.Text.{w, atom_text}
use Rattle.def_script.specs.Program.{Command, create, destroy, set_processes, set_function, set_send, set_receive, Program}
use Rattle.def_session.specs.Messages.{elements_of}
use Rattle.def_run.specs.Run.{HistoryItem, event_item, command_item}
use Rattle.def_explain.specs.Differences.{on_node}
use Rattle.def_explain.specs.Accounts.{Line, said, tells, differs, differs_uncounted}
use Rattle.def_explain.specs.Runs.{AccountEntry, shows, shows_nothing, makes, entries}

-- the term that the command was given as
abbrev pub command_term : Command → Tree
command_term (create s t) = tuple (more (word "session_create") (more (atom s) (more (atom t) (more (list none) none))))
command_term (destroy s) = tuple (more (word "session_destroy") (more (atom s) none))
command_term (set_processes s procs how flags) = tuple (more (word "process") (more (atom s) (more procs (more how (more flags none)))))
command_term (set_function s mfa spec options) = tuple (more (word "function") (more (atom s) (more mfa (more spec (more options none)))))
command_term (set_send s spec) = tuple (more (word "send") (more (atom s) (more spec (more (list none) none))))
command_term (set_receive s spec) = tuple (more (word "recv") (more (atom s) (more spec (more (list none) none))))

-- the elements after the first, each after a blank
abbrev pub after_first : List Tree → List ℕ
after_first [] = []
after_first (t ∷ ts) = flat_map (λ u. 32 ∷ w u) ts

-- a command as it was given; of an event what its message has after `trace`
abbrev pub item_text : HistoryItem → List ℕ
item_text (command_item c) = 32 ∷ w (command_term c)
item_text (event_item e) = after_first (elements_of false e)

-- a move's number and its pick
abbrev pub move_text : ℕ → ℕ → List ℕ → List ℕ
move_text k pick rest = decimal k ++ 32 ∷ decimal pick ++ rest ++ 10 ∷ []

-- what is said, the line of the session's listing after an arrow, or what a node does otherwise
abbrev pub line_text : Line → List ℕ
line_text (said text) = text
line_text (tells t) = codes "=> " ++ w t
line_text (differs x) = on_node x
line_text (differs_uncounted x) = on_node x

-- a line for each entry; what a session makes of it is indented, after its name
abbrev pub entry_text : AccountEntry → List ℕ
entry_text (shows k pick x) = move_text k pick (item_text x)
entry_text (shows_nothing k pick) = move_text k pick (codes " nothing")
entry_text (makes n l) = codes "  " ++ atom_text n ++ codes ": " ++ line_text l ++ 10 ∷ []

-- ---- the filter

-- what is selected of a run: the session of a name alone, and the move of a number alone, where they are given
pub record Filter : Type 0 where
  pub session : Option Name
  pub move : Option ℕ

-- no name is given, or this one
abbrev pub is_session : Option Name → Name → Bool
is_session None n = true
is_session (Some m) n = bytes_eq m n

-- no number is given, or this one
abbrev pub is_move : Option ℕ → ℕ → Bool
is_move None k = true
is_move (Some m) k = m == k

-- the entries that are selected; those of a session belong to the move before them
abbrev pub filter_entries : Filter → ℕ → List AccountEntry → List AccountEntry
filter_entries a k [] = []
filter_entries a k (shows j pick x ∷ es) = if is_move a.move j then shows j pick x ∷ filter_entries a j es else filter_entries a j es
filter_entries a k (shows_nothing j pick ∷ es) = if is_move a.move j then shows_nothing j pick ∷ filter_entries a j es else filter_entries a j es
filter_entries a k (makes n l ∷ es) = if is_move a.move k && is_session a.session n then makes n l ∷ filter_entries a k es else filter_entries a k es

-- the account of a run, as far as the filter selects it
abbrev pub account_text : Filter → Program → List ℕ → List ℕ
account_text a p picks = flat_map entry_text (filter_entries a 0 (entries p picks))
