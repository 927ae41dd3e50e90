-- What a search answers, with the summary of its listings where that is asked for (own).
-- Depends on what a search answers, and on the summary of an output.
use Rattle.std.specs.Prelude.{ℕ, suc, Bool, true, false, List, [], ◌∷◌, ◌++◌, length, codes}
use Rattle.def_term.specs.Tree.{Tree}
use Rattle.def_term.specs.Names.{Name}
use Rattle.def_formats.specs.Summaries.{summary_of}
use Rattle.def_explore.specs.Answers.{RestEntry}
use Rattle.def_explore.specs.Output.{entry_line, kept_listings, session_texts, closing_line, words_text}
use Rattle.def_explore.specs.Words.{PatternQuestion}
use Rattle.def_compare.specs.Output.{comparison_text}
use Rattle.def_compare.specs.Answers.{SearchQuestion, about_patterns, about_trace}

-- the listings of these sessions, or their summary, as that of an output
abbrev pub listings_in : (is_summary : Bool) → List (Name × Name) → List (List Tree) → List ℕ
listings_in false ss mss = session_texts ss mss
listings_in true ss mss = summary_of (session_texts ss mss)

-- an entry of so many, with its number
abbrev pub entry_text_in : (is_summary : Bool) → List (Name × Name) → ℕ → ℕ → RestEntry → List ℕ
entry_text_in b ss count n e = entry_line n count e.journal ++ listings_in b ss (kept_listings e.kept)

-- entries, the first of them with this number
abbrev pub entry_texts_in : (is_summary : Bool) → List (Name × Name) → ℕ → ℕ → List RestEntry → List ℕ
entry_texts_in b ss count n [] = []
entry_texts_in b ss count n (e ∷ es) = entry_text_in b ss count n e ++ entry_texts_in b ss count (suc n) es

-- the entries, and what was explored
abbrev pub exploration_text_in : (is_summary : Bool) → List (Name × Name) → List RestEntry → ℕ → Bool → List ℕ
exploration_text_in b ss es states whole = entry_texts_in b ss (length es) 1 es ++ codes "== explored\n" ++ closing_line states (length es) whole

-- the words for patterns, which have no listings; where there are none, the entries
abbrev pub search_text_in : (is_summary : Bool) → List (Name × Name) → List PatternQuestion → List RestEntry → ℕ → Bool → List ℕ
search_text_in b ss [] es states whole = exploration_text_in b ss es states whole
search_text_in b ss (a ∷ asked) es states whole = words_text ss (a ∷ asked) es states whole

-- that, or the answer about a trace, which has none either
abbrev pub answer_text_in : (is_summary : Bool) → List (Name × Name) → SearchQuestion → List RestEntry → ℕ → Bool → List ℕ
answer_text_in b ss (about_patterns qs) es states whole = search_text_in b ss qs es states whole
answer_text_in b ss (about_trace a) es states whole = comparison_text ss a es states whole
