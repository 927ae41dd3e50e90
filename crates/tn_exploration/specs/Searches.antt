-- What a search answers about the sessions at some places.
-- Depends on searches through all schedules, and on the texts of their answers.
use Rattle.std.specs.Prelude.{◌≡◌, ℕ, ◌+◌, ◌-◌, Bool, true, false, List, [], ◌∷◌, length, Option, Some, None}
use Rattle.std.specs.Option.{option_map}
use Rattle.std.specs.declared.vec.Vec.{Vec}
use Rattle.def_term.specs.Names.{Name}
use Rattle.def_script.specs.Program.{Program}
use Rattle.def_run.specs.Run.{moves}
use Rattle.def_explore.specs.Answers.{RestEntry}
use Rattle.def_compare.specs.Traces.{TraceQuestion, begins_trace}
use Rattle.def_compare.specs.Entries.{Match, possible_by}
use Rattle.def_compare.specs.Answers.{SearchQuestion, about_trace, admits_for, is_settled, is_unmet}
use Rattle.def_compare.specs.AnswerRows.{AnswerForm, answer_in}
use Rattle.def_departure.specs.Departures.{departure_of}
use Rattle.tn_answers.specs.declared.text.SearchAnswer.{SearchAnswer}
use Rattle.def_explore.specs.RunsToEnd.{AreSoundWithin, all_runs}
use Rattle.tn_explore.specs.Searches.{Explores, answer_entries}
use Rattle.tn_explore.specs.declared.search.Exploration.{Exploration}
use Rattle.tn_messages.specs.MessageViews.{kept_seen, question_of}
use Rattle.tn_messages.specs.declared.kept_listings.KeptListings.{KeptListings}
use Rattle.tn_search.specs.GreedyRuns.{greedy_entry}
use Rattle.tn_search.specs.RandomRuns.{random_entries_after, random_states_after}
use Rattle.tn_search.specs.Sessions.{names_at}
use Rattle.tn_search.specs.States.{query_of}
use Rattle.tn_exploration.specs.declared.in_order.RunInOrder.{RunInOrder}
use Rattle.tn_exploration.specs.declared.request.RandomRuns.{RandomRuns}

-- the text of an answer, whether more states could change nothing, and whether a demand is refuted or the trace is impossible
pub record SearchText : Type 0 where
  pub text : List ℕ
  pub settled : Bool
  pub unmet : Bool

abbrev pub search_text_seen : {A : Type 0} → SearchAnswer A → SearchText
search_text_seen a = record { text = a.text.items; settled = a.is_settled; unmet = a.is_unmet }

-- the journal of the run that departs from the trace, where one does
abbrev pub departure_seen : {A : Type 0} → Option (Vec ℕ A) → Option (List ℕ)
departure_seen o = option_map (λ v. v.items) o

-- an answer ends as a search about the question that finds these entries
pub record EndsAs {A : Type 0} (q : SearchQuestion) (es : List RestEntry) (whole : Bool) (a : SearchAnswer A) : Type 0 where
  pub settled : a.is_settled ≡ is_settled q es whole
  pub unmet : a.is_unmet ≡ is_unmet q es whole

-- the answer of these entries in a form, and how the search ends
abbrev pub search_text_of : AnswerForm → List (Name × Name) → SearchQuestion → List RestEntry → ℕ → Bool → SearchText
search_text_of form ss q es states whole = record { text = answer_in form ss q es states whole; settled = is_settled q es whole; unmet = is_unmet q es whole }

-- that of an exploration, and the run that departs from the trace
pub record IsTextOfExploration {A : Type 0} (form : AnswerForm) (ss : List (Name × Name)) (q : SearchQuestion) (e : Exploration A (KeptListings A)) (t : SearchText) (departure : Option (List ℕ)) : Type 0 where
  pub written : t ≡ search_text_of form ss q (answer_entries kept_seen e.answers.entries) e.states e.is_complete
  pub departs : departure ≡ departure_of q (answer_entries kept_seen e.answers.entries)

-- that of a search through all schedules that begin with a journal; `left` says whether it may leave out picks
pub record IsTextOfSearch (form : AnswerForm) (ss : List (Name × Name)) (q : SearchQuestion) (b left : Bool) (p : Program) (before places : List ℕ) (max_states : ℕ) (t : SearchText) (departure : Option (List ℕ)) : Type 0 where
  pub entries : List RestEntry
  pub states : ℕ
  pub whole : Bool
  pub search : Explores left (query_of (admits_for q) b p before places) entries max_states states whole
  pub written : t ≡ search_text_of form ss q entries states whole
  pub departs : departure ≡ departure_of q entries

-- ---- a run that shows a trace in its own order

-- a journal, and how many states were met
abbrev pub run_in_order_seen : {A : Type 0} → RunInOrder A → List ℕ × ℕ
run_in_order_seen r = (r.journal.items, r.states)

-- the journal of the entry that shows the trace, where there is one, and how many states were met
abbrev pub run_of_match : Option Match → ℕ → Option (List ℕ × ℕ)
run_of_match found states = option_map (λ m. (m.entry.journal, states)) found

-- that of the greedy run in total order
abbrev pub greedy_run_in_order : TraceQuestion → Program → (before places : List ℕ) → ℕ → Option (List ℕ × ℕ)
greedy_run_in_order a p before places max_states =
    let e = greedy_entry (begins_trace a.messages) false p before places (max_states - 1) in
    run_of_match (possible_by a (e ∷ [])) (length e.journal - length (moves p before) + 1)

-- that of the first entry of a search in total order
pub record IsRunBySearch (a : TraceQuestion) (p : Program) (before places : List ℕ) (max_states : ℕ) (o : Option (List ℕ × ℕ)) : Type 0 where
  pub entries : List RestEntry
  pub states : ℕ
  pub whole : Bool
  pub search : Explores false (query_of (begins_trace a.messages) false p before places) entries max_states states whole
  pub first : o ≡ run_of_match (possible_by a entries) states

-- where the greedy run doesn't show the trace, a search goes through all schedules
abbrev pub IsRunElse : TraceQuestion → Program → (before places : List ℕ) → ℕ → Option (List ℕ × ℕ) → Option (List ℕ × ℕ) → Type 0
IsRunElse a p before places max_states (Some run) o = o ≡ Some run
IsRunElse a p before places max_states None o = IsRunBySearch a p before places max_states o

abbrev pub IsRunInOrder : TraceQuestion → Program → (before places : List ℕ) → ℕ → Option (List ℕ × ℕ) → Type 0
IsRunInOrder a p before places max_states o = IsRunElse a p before places max_states (greedy_run_in_order a p before places max_states) o

-- the text, where there is an entry that shows the trace
abbrev pub text_by_match : List ℕ → Option Match → Option SearchText
text_by_match text None = None
text_by_match text (Some m) = Some (record { text = text; settled = true; unmet = false })

-- that of the entries
abbrev pub text_with_run : AnswerForm → List (Name × Name) → TraceQuestion → List RestEntry → ℕ → Bool → Option SearchText
text_with_run form ss a es states whole = text_by_match (answer_in form ss (about_trace a) es states whole) (possible_by a es)

-- the entries of a search by process that goes on from the journal, with their text
pub record IsTextAfter (form : AnswerForm) (ss : List (Name × Name)) (a : TraceQuestion) (p : Program) (places : List ℕ) (max_states : ℕ) (run : List ℕ × ℕ) (o : Option SearchText) : Type 0 where
  pub entries : List RestEntry
  pub states : ℕ
  pub whole : Bool
  pub search : Explores false (query_of (begins_trace a.messages) true p run.0 places) entries max_states states whole
  pub written : o ≡ text_with_run form ss a entries run.1 false

-- that after a run; without one there is none
abbrev pub IsTextAfterRun : AnswerForm → List (Name × Name) → TraceQuestion → Program → List ℕ → ℕ → Option (List ℕ × ℕ) → Option SearchText → Type 0
IsTextAfterRun form ss a p places max_states None o = o ≡ None
IsTextAfterRun form ss a p places max_states (Some run) o = IsTextAfter form ss a p places max_states run o

-- the text of a run that shows the trace by process, found by its own order
abbrev pub IsTextInOrder : AnswerForm → List (Name × Name) → TraceQuestion → Program → (before places : List ℕ) → ℕ → Option SearchText → Type 0
IsTextInOrder form ss a p before places max_states o =
    (run : Option (List ℕ × ℕ)) × IsRunInOrder a p before places max_states run × IsTextAfterRun form ss a p places max_states run o

-- ---- the answer

-- the trace of a question, where the messages of a process alone are in an order
abbrev pub trace_by_process : SearchQuestion → Bool → Option TraceQuestion
trace_by_process (about_trace a) true = Some a
trace_by_process q b = None

-- such a run is looked for first
abbrev pub IsTextBefore : AnswerForm → List (Name × Name) → Program → (before places : List ℕ) → ℕ → Option TraceQuestion → Option SearchText → Type 0
IsTextBefore form ss p before places max_states None o = o ≡ None
IsTextBefore form ss p before places max_states (Some a) o = IsTextInOrder form ss a p before places max_states o

-- where there is none, the search goes through all schedules in the order that is asked for
abbrev pub IsTextElse : AnswerForm → List (Name × Name) → SearchQuestion → (b left : Bool) → Program → (before places : List ℕ) → ℕ → Option SearchText → SearchText → Option (List ℕ) → Type 0
IsTextElse form ss q b left p before places max_states (Some u) t departure = (t ≡ u) × (departure ≡ None)
IsTextElse form ss q b left p before places max_states None t departure = IsTextOfSearch form ss q b left p before places max_states t departure

abbrev pub IsAnswerText : AnswerForm → List (Name × Name) → SearchQuestion → (b left : Bool) → Program → (before places : List ℕ) → ℕ → SearchText → Option (List ℕ) → Type 0
IsAnswerText form ss q b left p before places max_states t departure =
    (o : Option SearchText) × IsTextBefore form ss p before places max_states (trace_by_process q b) o × IsTextElse form ss q b left p before places max_states o t departure

-- ---- random runs

-- the answer of the entries of random runs, which are not all runs, and each of a run to rest
pub record IsTextOfRandomRuns (r : RandomRuns) (form : AnswerForm) (ss : List (Name × Name)) (q : SearchQuestion) (b : Bool) (p : Program) (before places : List ℕ) (max_states : ℕ) (t : SearchText) (departure : Option (List ℕ)) : Type 0 where
  pub sound : AreSoundWithin all_runs (question_of b) (names_at p places) p before (random_entries_after b p before places r.runs r.seed max_states)
  pub written : t ≡ search_text_of form ss q (random_entries_after b p before places r.runs r.seed max_states) (random_states_after p before r.runs r.seed max_states) false
  pub departs : departure ≡ departure_of q (random_entries_after b p before places r.runs r.seed max_states)

-- they answer where they are asked for, and all schedules else
abbrev pub IsAnswerBy : Option RandomRuns → AnswerForm → List (Name × Name) → SearchQuestion → (b left : Bool) → Program → (before places : List ℕ) → ℕ → SearchText → Option (List ℕ) → Type 0
IsAnswerBy None form ss q b left p before places max_states t departure = IsAnswerText form ss q b left p before places max_states t departure
IsAnswerBy (Some r) form ss q b left p before places max_states t departure = IsTextOfRandomRuns r form ss q b p before places max_states t departure
