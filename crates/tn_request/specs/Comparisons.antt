-- The trace that a request asks about.
-- Depends on texts of trace messages.
use Rattle.std.specs.Prelude.{◌≡◌, ℕ, List, ◌∷◌, ◌++◌, map, codes, decimal}
use Rattle.std.specs.declared.alloc.Global.{Global}
use Rattle.def_trace_text.specs.TraceTexts.{SpellsTrace}
use Rattle.tn_comparison.specs.declared.trace_question.TraceQuestion.{TraceQuestion}
use Rattle.tn_term.specs.Views.{tree_of}
use Rattle.tn_request.specs.declared.request.ExploreArgs.{ExploreArgs}

-- its messages are those that the text spells, and a run may have more where the words say so
pub record IsTraceAsked (args : ExploreArgs) (read : List ℕ) (q : TraceQuestion Global) : Type 0 where
  pub spelled : SpellsTrace read (map tree_of q.messages.items)
  pub goes_on : q.goes_on ≡ args.goes_on

-- the file, the line and why it is refused
abbrev pub trace_fault_text : (name : List ℕ) → ℕ → (words : List ℕ) → List ℕ
trace_fault_text name line words = name ++ 58 ∷ decimal line ++ codes ": " ++ words
