-- What a search answers as JSON, a value a line (own).
-- Depends on entries, words and comparisons, and on the JSON rows of an output.
use Rattle.std.specs.Prelude.{◌-◌, ℕ, suc, Bool, true, List, [], ◌∷◌, ◌++◌, Option, Some, None, length, map, take, slice_get, codes}
use Rattle.std.specs.Option.{option_map_or}
use Rattle.json.specs.Json.{Json, null, boolean, array}
use Rattle.def_term.specs.Tree.{Tree, pid}
use Rattle.def_term.specs.Names.{Name}
use Rattle.def_term.specs.Text.{w, atom_text}
use Rattle.def_explore.specs.Answers.{RestEntry}
use Rattle.def_explore.specs.Output.{kept_listings, word_text, demand_text}
use Rattle.def_explore.specs.Words.{PatternQuestion, shown_by, missed_by, word_by, is_refuted}
use Rattle.def_formats.specs.JsonRows.{text_value, number_value, items_from, object_from, json_lines, session_row, message_row, numbered_rows}
use Rattle.def_compare.specs.Traces.{TraceQuestion, count_in}
use Rattle.def_compare.specs.Entries.{Match, Prefix, possible_by, longest_prefix}
use Rattle.def_compare.specs.Output.{message_there, no_match_word}
use Rattle.def_compare.specs.Answers.{SearchQuestion, about_patterns, about_trace, answer_text}
use Rattle.def_compare.specs.AnswerSummaries.{answer_text_in}

-- [PICK,..]
abbrev pub picks_value : List ℕ → Json
picks_value picks = array (items_from (map number_value picks))

-- the picks of a journal, where there is one
abbrev pub journal_value : Option (List ℕ) → Json
journal_value journal = option_map_or picks_value journal null

-- the text of a term, where there is one
abbrev pub term_value : Option Tree → Json
term_value term = option_map_or (λ t. text_value (w t)) term null

-- {"complete":BOOLEAN,"states":S,"listings":L}
abbrev pub explored_row : (states listings : ℕ) → Bool → Json
explored_row states listings whole =
    object_from ((codes "complete", boolean whole) ∷ (codes "states", number_value states) ∷ (codes "listings", number_value listings) ∷ [])

-- {"session":NAME,"tracer":TRACER}
abbrev pub asked_row : Name × Name → Json
asked_row s = object_from ((codes "session", text_value (atom_text s.0)) ∷ (codes "tracer", text_value (atom_text s.1)) ∷ [])

-- ---- listings

-- {"listing":N,"of":M,"journal":[PICK,..]}
abbrev pub listing_row : ℕ → ℕ → List ℕ → Json
listing_row n count journal =
    object_from ((codes "listing", number_value n) ∷ (codes "of", number_value count) ∷ (codes "journal", picks_value journal) ∷ [])

-- a session with its messages, as in the JSON of an output
abbrev pub listed_rows : Name × Name → List Tree → List Json
listed_rows s ms =
    session_row (atom_text s.0) (atom_text s.1) (length ms) ∷ numbered_rows (message_row (atom_text s.0) (atom_text s.1)) 1 (map w ms)

-- each of these sessions
abbrev pub sessions_rows : List (Name × Name) → List (List Tree) → List Json
sessions_rows [] mss = []
sessions_rows (s ∷ ss) [] = []
sessions_rows (s ∷ ss) (ms ∷ mss) = listed_rows s ms ++ sessions_rows ss mss

-- an entry of so many, with its number
abbrev pub entry_rows : List (Name × Name) → ℕ → ℕ → RestEntry → List Json
entry_rows ss count n e = listing_row n count e.journal ∷ sessions_rows ss (kept_listings e.kept)

-- entries, the first of them with this number
abbrev pub entries_rows : List (Name × Name) → ℕ → ℕ → List RestEntry → List Json
entries_rows ss count n [] = []
entries_rows ss count n (e ∷ es) = entry_rows ss count n e ++ entries_rows ss count (suc n) es

-- ---- words

-- {"pattern":TEXT,"word":WORD,"demand":WORD,"refuted":BOOLEAN,"shown_by":[PICK,..],"not_by":[PICK,..]}
abbrev pub word_row : PatternQuestion → (shown missed : Option (List ℕ)) → Bool → Json
word_row a shown missed whole =
    object_from ((codes "pattern", text_value (w a.term)) ∷ (codes "word", text_value (word_text (word_by shown missed whole)))
    ∷ (codes "demand", text_value (demand_text a.demand)) ∷ (codes "refuted", boolean (is_refuted a.demand shown missed whole))
    ∷ (codes "shown_by", journal_value shown) ∷ (codes "not_by", journal_value missed) ∷ [])

-- that of the entries
abbrev pub pattern_row : List RestEntry → Bool → PatternQuestion → Json
pattern_row es whole a = word_row a (shown_by a.pattern es) (missed_by a.pattern es) whole

-- ---- a trace

-- {"trace":PID,"run":PID}
abbrev pub pair_row : ℕ × ℕ → Json
pair_row p = object_from ((codes "trace", text_value (w (pid p.0))) ∷ (codes "run", text_value (w (pid p.1))) ∷ [])

abbrev pub pairs_value : List (ℕ × ℕ) → Json
pairs_value ps = array (items_from (map pair_row ps))

-- {"answer":"possible","journal":[PICK,..],"pids":[..]}
abbrev pub possible_row : Match → Json
possible_row m =
    object_from ((codes "answer", text_value (codes "possible")) ∷ (codes "journal", picks_value m.entry.journal) ∷ (codes "pids", pairs_value m.pairs) ∷ [])

-- the message that the run has in the place of one of the trace
abbrev pub there_value : TraceQuestion → Prefix → Option Tree → Json
there_value a f None = null
there_value a f (Some t) = term_value (message_there f.by.entry.kept f.by.pairs (take f.count a.messages) t)

-- how many messages the run has beside those of the trace, where it has all of these
abbrev pub more_value : Prefix → Option Tree → Json
more_value f None = number_value (count_in f.by.entry.kept - f.count)
more_value f (Some t) = null

-- {"answer":WORD,"prefix":N,"of":M,"journal":[PICK,..],"pids":[..],"not_there":TEXT,"there":TEXT,"more":K}
abbrev pub prefix_row : TraceQuestion → Bool → Prefix → Option Tree → Json
prefix_row a whole f message =
    object_from ((codes "answer", text_value (no_match_word whole)) ∷ (codes "prefix", number_value f.count) ∷ (codes "of", number_value (length a.messages))
    ∷ (codes "journal", picks_value f.by.entry.journal) ∷ (codes "pids", pairs_value f.by.pairs)
    ∷ (codes "not_there", term_value message) ∷ (codes "there", there_value a f message) ∷ (codes "more", more_value f message) ∷ [])

-- {"answer":WORD}
abbrev pub answer_row : List ℕ → Json
answer_row word = object_from ((codes "answer", text_value word) ∷ [])

-- the longest prefix; the answer alone, where no run was met
abbrev pub trace_prefix_row : TraceQuestion → Bool → Option Prefix → Json
trace_prefix_row a whole None = answer_row (no_match_word whole)
trace_prefix_row a whole (Some f) = prefix_row a whole f (slice_get a.messages f.count)

abbrev pub trace_row : TraceQuestion → List RestEntry → Bool → Option Match → Json
trace_row a es whole (Some m) = possible_row m
trace_row a es whole None = trace_prefix_row a whole (longest_prefix a.messages es (length a.messages))

-- ---- an answer

-- the sessions, then a row for each pattern; the entries, where there is no pattern
abbrev pub search_rows : List (Name × Name) → List PatternQuestion → List RestEntry → Bool → List Json
search_rows ss [] es whole = entries_rows ss (length es) 1 es
search_rows ss (a ∷ asked) es whole = map asked_row ss ++ map (pattern_row es whole) (a ∷ asked)

-- the answer to a question, and what was explored
abbrev pub answer_rows : List (Name × Name) → SearchQuestion → List RestEntry → ℕ → Bool → List Json
answer_rows ss (about_patterns qs) es states whole = search_rows ss qs es whole ++ explored_row states (length es) whole ∷ []
answer_rows ss (about_trace a) es states whole =
    map asked_row ss ++ trace_row a es whole (possible_by a es) ∷ explored_row states (length es) whole ∷ []

-- a line each
abbrev pub answer_json : List (Name × Name) → SearchQuestion → List RestEntry → ℕ → Bool → List ℕ
answer_json ss q es states whole = json_lines (answer_rows ss q es states whole)

-- ---- forms

-- lines for a reader, with the listings or with their summary; or JSON
pub data AnswerForm : Type 0 where
  plain_answer : AnswerForm
  summary_answer : AnswerForm
  json_answer : AnswerForm

-- the answer in a form
abbrev pub answer_in : AnswerForm → List (Name × Name) → SearchQuestion → List RestEntry → ℕ → Bool → List ℕ
answer_in plain_answer ss q es states whole = answer_text ss q es states whole
answer_in summary_answer ss q es states whole = answer_text_in true ss q es states whole
answer_in json_answer ss q es states whole = answer_json ss q es states whole
