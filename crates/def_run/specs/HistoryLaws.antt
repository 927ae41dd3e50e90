-- What is promised of the history of a run: what is listed, replied and added is a projection of it (own).
-- Depends on histories and on listings.
use Rattle.std.specs.Prelude.{◌≡◌, ℕ, suc, List, [], map, filter, take, slice_get, Some}
use Rattle.def_term.specs.Names.{Name}
use Rattle.def_script.specs.Program.{Program}
use Rattle.def_script.specs.Exports.{Exports, exports_of}
use Rattle.def_script.specs.Script.{creations}
use Rattle.def_session.specs.State.{absent_session}
use Rattle.def_run.specs.Run.{HistoryItem, events, moves}
use Rattle.def_run.specs.View.{is_own}
use Rattle.def_run.specs.Listing.{session_after, messages, replies, answer}
use Rattle.def_run.specs.Laws.{answers}
use Rattle.def_run.specs.History.{NamedSession, Moment, MoveHistory, move_histories, moments_of, history, history_messages, history_replies, items_of_moments, items_of_move}

-- the moments are the run's events and commands, in their order
abbrev pub HistoryShowsTheEvents : Type 0
HistoryShowsTheEvents = (p : Program) (picks : List ℕ) → map (λ m. m.item) (history p picks) ≡ events p picks

-- the moves are those of the journal
abbrev pub HistoryHasTheMoves : Type 0
HistoryHasTheMoves = (p : Program) (picks : List ℕ) → map (λ h. h.pick) (move_histories p picks) ≡ moves p picks

-- they are numbered from 1
abbrev pub HistoryIsNumbered : Type 0
HistoryIsNumbered = (p : Program) (picks : List ℕ) (k : ℕ) (h : MoveHistory) → slice_get (move_histories p picks) k ≡ Some h → h.number ≡ suc k

-- the sessions after these events and commands, each by what it sees of them alone
abbrev pub sessions_by_view : Exports → List (Name × Name) → List HistoryItem → List NamedSession
sessions_by_view o ss past = map (λ s. (s.0, session_after o (absent_session o) (filter (is_own s.0) past))) ss

-- at each moment the state of each session, before it and after it, is that of its own view
abbrev pub HistoryGoesByTheViews : Type 0
HistoryGoesByTheViews =
    (p : Program) (picks : List ℕ) (i : ℕ) (m : Moment) → slice_get (history p picks) i ≡ Some m →
    (m.before ≡ sessions_by_view (exports_of p) (creations p.commands) (take i (events p picks)))
    × (m.after ≡ sessions_by_view (exports_of p) (creations p.commands) (take (suc i) (events p picks)))

-- the messages of a session in the history are its listing
abbrev pub HistoryHasTheListing : Type 0
HistoryHasTheListing = (s : Name) (p : Program) (picks : List ℕ) → history_messages (exports_of p) s (history p picks) ≡ messages s p picks

-- the replies in the history are the replies of the run
abbrev pub HistoryHasTheReplies : Type 0
HistoryHasTheReplies = (p : Program) (picks : List ℕ) → history_replies (exports_of p) (history p picks) ≡ replies p picks

-- what a move of the history adds is its answer
abbrev pub HistoryHasTheAnswer : Type 0
HistoryHasTheAnswer = (p : Program) (picks : List ℕ) (k : ℕ) → items_of_move (exports_of p) (move_histories p picks) k ≡ answer p picks k

-- and what the first k moves add is their answers
abbrev pub HistoryHasTheAnswers : Type 0
HistoryHasTheAnswers = (p : Program) (picks : List ℕ) (k : ℕ) → items_of_moments (exports_of p) [] (moments_of (take k (move_histories p picks))) ≡ answers p picks k
