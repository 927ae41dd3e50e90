-- What a search is asked, and how it ends (own).
-- Depends on the words for patterns, and on comparisons of traces.
use Rattle.std.specs.Prelude.{◌&&◌, ◌||◌, not, ℕ, Bool, List, is_some}
use Rattle.std.specs.List.{list_any}
use Rattle.def_term.specs.Names.{Name}
use Rattle.def_explore.specs.Rests.{KeptMessages}
use Rattle.def_explore.specs.RunsToEnd.{all_runs}
use Rattle.def_explore.specs.Answers.{RestEntry}
use Rattle.def_explore.specs.Output.{search_text}
use Rattle.def_explore.specs.Words.{PatternQuestion, refutes}
use Rattle.def_compare.specs.Traces.{TraceQuestion, begins_trace}
use Rattle.def_compare.specs.Entries.{possible_by}
use Rattle.def_compare.specs.Output.{comparison_text}

-- the words for patterns, or the listings where there are none; or whether a trace is possible
pub data SearchQuestion : Type 0 where
  about_patterns : List PatternQuestion → SearchQuestion
  about_trace : TraceQuestion → SearchQuestion

-- what is kept of the runs that are followed: those that begin the trace, or all
abbrev pub admits_for : SearchQuestion → KeptMessages → Bool
admits_for (about_patterns qs) = all_runs
admits_for (about_trace a) = begins_trace a.messages

-- what is written
abbrev pub answer_text : List (Name × Name) → SearchQuestion → List RestEntry → ℕ → Bool → List ℕ
answer_text ss (about_patterns qs) es states whole = search_text ss qs es states whole
answer_text ss (about_trace a) es states whole = comparison_text ss a es states whole

-- what is demanded of a pattern is refuted, or the trace is impossible
abbrev pub is_unmet : SearchQuestion → List RestEntry → (whole : Bool) → Bool
is_unmet (about_patterns qs) es whole = list_any (refutes es whole) qs
is_unmet (about_trace a) es whole = whole && not (is_some (possible_by a es))

-- all states were tried, or the trace is possible
abbrev pub is_settled : SearchQuestion → List RestEntry → (whole : Bool) → Bool
is_settled (about_patterns qs) es whole = whole
is_settled (about_trace a) es whole = whole || is_some (possible_by a es)
