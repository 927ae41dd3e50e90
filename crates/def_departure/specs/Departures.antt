-- What is explained where no run shows a trace: the move by which the run that begins with the longest prefix departs from it (own).
-- Depends on comparisons of traces, and on the account of a run.
use Rattle.std.specs.Prelude.{ℕ, List, [], ◌∷◌, ◌++◌, length, Option, Some, None, codes, if◌then◌else◌}
use Rattle.def_term.specs.Names.{Name}
use Rattle.def_script.specs.Program.{Program}
use Rattle.def_explain.specs.RunTexts.{account_text}
use Rattle.def_explore.specs.Answers.{RestEntry}
use Rattle.def_compare.specs.Traces.{TraceQuestion, begins_trace}
use Rattle.def_compare.specs.Entries.{Match, Prefix, possible_by, longest_prefix}
use Rattle.def_compare.specs.Answers.{SearchQuestion, about_patterns, about_trace}
use Rattle.def_compare.specs.AnswerRows.{AnswerForm, json_answer}

-- the journal of a run, where what is kept of it doesn't begin the trace any more
abbrev pub departure_by : TraceQuestion → Option Prefix → Option (List ℕ)
departure_by a None = None
departure_by a (Some f) = if begins_trace a.messages f.by.entry.kept then None else Some f.by.entry.journal

-- that of the run that begins with the longest prefix, where none shows the trace
abbrev pub departure_unless : Option Match → TraceQuestion → List RestEntry → Option (List ℕ)
departure_unless (Some m) a es = None
departure_unless None a es = departure_by a (longest_prefix a.messages es (length a.messages))

-- that of what a search is asked; about patterns there is none
abbrev pub departure_of : SearchQuestion → List RestEntry → Option (List ℕ)
departure_of (about_patterns qs) es = None
departure_of (about_trace a) es = departure_unless (possible_by a es) a es

-- the name of the first of some sessions
abbrev pub first_name : List (Name × Name) → Option Name
first_name [] = None
first_name (s ∷ ss) = Some s.0

-- the lines of `explain` at the last move of a journal, about the session
abbrev pub last_move_text : Option Name → Program → List ℕ → List ℕ
last_move_text name p journal = account_text (record { session = name; move = Some (length journal) }) p journal

-- they come after the answer, as lines for a reader alone
abbrev pub departure_text : AnswerForm → List (Name × Name) → Program → Option (List ℕ) → List ℕ
departure_text form ss p None = []
departure_text json_answer ss p (Some journal) = []
departure_text form ss p (Some journal) = codes "== explained\n" ++ last_move_text (first_name ss) p journal
