-- What the sessions make of a run, move by move (own).
-- Depends on the history of a run, and on what one session makes of an event and of a command.
use Rattle.std.specs.Prelude.{ℕ, if◌then◌else◌, List, [], ◌∷◌, ◌++◌, map, flat_map}
use Rattle.std.specs.Str.{bytes_eq}
use Rattle.def_term.specs.Tree.{Tree}
use Rattle.def_term.specs.Names.{Name}
use Rattle.def_script.specs.Program.{session_of, Program}
use Rattle.def_script.specs.Exports.{Exports, exports_of}
use Rattle.def_outlook.specs.Outlook.{Outlook}
use Rattle.def_run.specs.Run.{HistoryItem, event_item, command_item}
use Rattle.def_run.specs.History.{NamedSession, Moment, moments_from, move_histories}
use Rattle.def_explain.specs.Accounts.{Line, tells, event_lines, command_lines}

-- what a session makes of an event or of a command; of another session's command nothing
abbrev pub session_lines : Exports → Outlook → NamedSession → HistoryItem → List Line
session_lines o l s (event_item e) = event_lines s.1 l e
session_lines o l s (command_item c) = if bytes_eq s.0 (session_of c) then command_lines o s.1 c else []

-- ---- all sessions

-- what is written of a run: what is shown, a move that shows nothing, or what a session makes of it
pub data AccountEntry : Type 0 where
  shows : (move pick : ℕ) → HistoryItem → AccountEntry
  shows_nothing : (move pick : ℕ) → AccountEntry
  makes : Name → Line → AccountEntry

-- what each session makes of it
abbrev pub made_by_all : Exports → Outlook → List NamedSession → HistoryItem → List AccountEntry
made_by_all o l [] x = []
made_by_all o l (s ∷ ss) x = map (makes s.0) (session_lines o l s x) ++ made_by_all o l ss x

-- of a moment: what is shown, and what the sessions make of it in their states before it
abbrev pub entries_of_moment : Exports → Outlook → Moment → List AccountEntry
entries_of_moment o l m = shows m.move m.pick m.item ∷ made_by_all o l m.before m.item

-- of a move with these moments, where this was known of its step before it
abbrev pub entries_of_moments : Exports → Outlook → (move pick : ℕ) → List Moment → List AccountEntry
entries_of_moments o l k pick [] = shows_nothing k pick ∷ []
entries_of_moments o l k pick (m ∷ ms) = flat_map (entries_of_moment o l) (m ∷ ms)

-- of a run: of each move of its history
abbrev pub entries : Program → List ℕ → List AccountEntry
entries p picks = flat_map (λ h. entries_of_moments (exports_of p) h.outlook h.number h.pick h.moments) (move_histories p picks)

-- ---- one move of them

-- of what a move shows, with the sessions in these states
abbrev pub entries_over : Exports → Outlook → (move pick : ℕ) → List NamedSession → List HistoryItem → List AccountEntry
entries_over o l k pick ss xs = flat_map (entries_of_moment o l) (moments_from o k pick ss xs)

-- of a move that shows these
abbrev pub entries_of_move : Exports → Outlook → (move pick : ℕ) → List NamedSession → List HistoryItem → List AccountEntry
entries_of_move o l k pick ss xs = entries_of_moments o l k pick (moments_from o k pick ss xs)

-- ---- one session of them

-- the messages that a session reports among these
abbrev pub reported_by : Name → List AccountEntry → List Tree
reported_by n [] = []
reported_by n (makes m (tells t) ∷ es) = if bytes_eq n m then t ∷ reported_by n es else reported_by n es
reported_by n (e ∷ es) = reported_by n es
