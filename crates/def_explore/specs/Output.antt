-- The text of what an exploration answers (own).
-- Depends on entries and words, and on the text of terms, listings and picks.
use Rattle.std.specs.Prelude.{ℕ, suc, ◌==◌, Bool, true, false, if◌then◌else◌, List, [], ◌∷◌, ◌++◌, Option, Some, None, length, map, flat_map, codes, decimal}
use Rattle.def_term.specs.Tree.{Tree}
use Rattle.def_term.specs.Names.{Name}
use Rattle.def_term.specs.Text.{w}
use Rattle.def_run.specs.Listing.{header_line, listing_text}
use Rattle.def_explore.specs.Rests.{KeptMessages, kept_messages, kept_by_process}
use Rattle.def_explore.specs.Answers.{RestEntry}
use Rattle.def_explore.specs.Words.{Word, always, never, sometimes, shown_by, missed_by, word_by, Demand, any_word, only_always, only_never, only_sometimes, is_refuted, PatternQuestion}

-- a space and a number, for each pick
abbrev pub spaced_picks : List ℕ → List ℕ
spaced_picks picks = flat_map (λ pick. 32 ∷ decimal pick) picks

-- == listing N of M: journal PICKS
abbrev pub entry_line : ℕ → ℕ → List ℕ → List ℕ
entry_line n count journal =
    codes "== listing " ++ decimal n ++ codes " of " ++ decimal count ++ codes ": journal" ++ spaced_picks journal ++ 10 ∷ []

-- the messages of each session: in their order, or those of each process in theirs, by rising pid
abbrev pub kept_listings : KeptMessages → List (List Tree)
kept_listings (kept_messages mss) = mss
kept_listings (kept_by_process psss) = map (flat_map (λ ms. ms)) psss

-- the listing of each of these sessions, given as its name and its tracer
abbrev pub session_texts : List (Name × Name) → List (List Tree) → List ℕ
session_texts [] mss = []
session_texts (s ∷ ss) [] = []
session_texts (s ∷ ss) (ms ∷ mss) = listing_text s.0 s.1 ms ++ session_texts ss mss

-- an entry of so many, with its number
abbrev pub rest_entry_text : List (Name × Name) → ℕ → ℕ → RestEntry → List ℕ
rest_entry_text ss count n e = entry_line n count e.journal ++ session_texts ss (kept_listings e.kept)

-- entries, the first of them with this number
abbrev pub rest_entry_texts : List (Name × Name) → ℕ → ℕ → List RestEntry → List ℕ
rest_entry_texts ss count n [] = []
rest_entry_texts ss count n (e ∷ es) = rest_entry_text ss count n e ++ rest_entry_texts ss count (suc n) es

-- so many of them, with an s where they aren't one
abbrev pub exploration_end_text : ℕ → List ℕ → List ℕ
exploration_end_text n word = decimal n ++ 32 ∷ word ++ (if n == 1 then [] else codes "s")

-- whether all states were tried, how many were met, and how many listings there are
abbrev pub closing_line : (states listings : ℕ) → Bool → List ℕ
closing_line states listings true = codes "complete: " ++ exploration_end_text states (codes "state") ++ codes ", " ++ exploration_end_text listings (codes "listing") ++ 10 ∷ []
closing_line states listings false = codes "not complete: " ++ exploration_end_text states (codes "state") ++ (if states == 1 then codes " was met\n" else codes " were met\n")

-- the entries, and what was explored
abbrev pub exploration_text : List (Name × Name) → List RestEntry → ℕ → Bool → List ℕ
exploration_text ss es states whole = rest_entry_texts ss (length es) 1 es ++ codes "== explored\n" ++ closing_line states (length es) whole

-- ---- words

-- the word, where there is one
abbrev pub word_text : Option Word → List ℕ
word_text None = codes "unknown"
word_text (Some (always shown)) = codes "always"
word_text (Some (never missed)) = codes "never"
word_text (Some (sometimes shown missed)) = codes "sometimes"

-- the word that is demanded
abbrev pub demand_text : Demand → List ℕ
demand_text any_word = codes "any word"
demand_text only_always = codes "always"
demand_text only_never = codes "never"
demand_text only_sometimes = codes "sometimes"

-- the line of a journal, where there is one
abbrev pub journal_line : List ℕ → Option (List ℕ) → List ℕ
journal_line words None = []
journal_line words (Some journal) = words ++ spaced_picks journal ++ 10 ∷ []

-- the line of a demand that is refuted
abbrev pub refuted_line : Demand → Bool → List ℕ
refuted_line demand false = []
refuted_line demand true = codes "refuted: " ++ demand_text demand ++ 10 ∷ []

-- the word for a pattern, whether what is demanded of it is refuted, and the journals of a run that shows a match and of one that shows none
abbrev pub pattern_lines : PatternQuestion → (shown missed : Option (List ℕ)) → Bool → List ℕ
pattern_lines a shown missed whole =
    word_text (word_by shown missed whole) ++ codes ": " ++ w a.term ++ 10 ∷ refuted_line a.demand (is_refuted a.demand shown missed whole)
    ++ journal_line (codes "shown by") shown ++ journal_line (codes "not by") missed

-- those that the entries give
abbrev pub pattern_answer_text : List RestEntry → Bool → PatternQuestion → List ℕ
pattern_answer_text es whole a = pattern_lines a (shown_by a.pattern es) (missed_by a.pattern es) whole

-- the sessions, the patterns, and what was explored
abbrev pub words_text : List (Name × Name) → List PatternQuestion → List RestEntry → ℕ → Bool → List ℕ
words_text ss asked es states whole =
    flat_map (λ s. header_line s.0 s.1) ss ++ flat_map (pattern_answer_text es whole) asked ++ codes "== explored\n" ++ closing_line states (length es) whole

-- the words for patterns; where there are none, the entries
abbrev pub search_text : List (Name × Name) → List PatternQuestion → List RestEntry → ℕ → Bool → List ℕ
search_text ss [] es states whole = exploration_text ss es states whole
search_text ss (a ∷ asked) es states whole = words_text ss (a ∷ asked) es states whole
