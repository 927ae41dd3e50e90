-- What is read of a line, and of a text.
-- Depends on what lines and texts spell, and on how they are refused.
use Rattle.std.specs.Prelude.{◌≡◌, ℕ, List, [], ◌∷◌, ◌++◌, true, false, map, Result, Ok, Err, IsSomeAnd}
use Rattle.std.specs.declared.vec.Vec.{Vec}
use Rattle.def_term.specs.Tree.{Tree}
use Rattle.def_trace_text.specs.Lines.{is_passed_over}
use Rattle.def_trace_text.specs.DbgLines.{dbg_text}
use Rattle.def_trace_text.specs.ErrorMaps.{without_error_maps, trace_message_text}
use Rattle.def_trace_text.specs.Messages.{is_trace_message}
use Rattle.def_trace_text.specs.StackTraces.{without_stacks}
use Rattle.def_trace_text.specs.TraceTexts.{IsTraceText, LinesSpell, SpellsTrace, no_message, HasTextFault, IsTraceRefusal}
use Rattle.tn_term.specs.declared.term.Term.{Term}
use Rattle.tn_term.specs.Views.{tree_of}
use Rattle.tn_trace_text.specs.Faults.{line_fault_seen}
use Rattle.tn_trace_text.specs.declared.fault.TraceFault.{TraceFault}
use Rattle.tn_trace_text.specs.declared.fault.TraceFault.TheVariants.{NoTerm, NoMessage, OutOfMemory}

-- ---- a line

-- the fault of the text of the line of this number; refused memory says nothing of it
abbrev pub IsTextFault : List ℕ → ℕ → TraceFault → Type 0
IsTextFault text n (NoTerm m fault) = (m ≡ n) × IsSomeAnd (line_fault_seen fault) (HasTextFault text)
IsTextFault text n (NoMessage m) = (m ≡ n) × HasTextFault text no_message
IsTextFault text n OutOfMemory = Unit {0}

-- the fault of this line, which has this number
abbrev pub IsLineFault : List ℕ → ℕ → TraceFault → Type 0
IsLineFault line n fault = IsTextFault (trace_message_text line) n fault

-- the message that a term of the line of this number is, or that it is none; refused memory says nothing of it
abbrev pub IsMessageOfLine : {A : Type 0} → Tree → ℕ → Result (Term A) TraceFault → Type 0
IsMessageOfLine u n (Ok t) = (is_trace_message u ≡ true) × (tree_of t ≡ without_stacks u)
IsMessageOfLine u n (Err (NoTerm m fault)) = ⊥
IsMessageOfLine u n (Err (NoMessage m)) = (m ≡ n) × (is_trace_message u ≡ false)
IsMessageOfLine u n (Err OutOfMemory) = Unit {0}

-- the message that the text of the line of this number spells, or its fault
abbrev pub IsTextRead : {A : Type 0} → List ℕ → ℕ → Result (Term A) TraceFault → Type 0
IsTextRead text n (Ok t) = IsTraceText text (tree_of t)
IsTextRead text n (Err fault) = IsTextFault text n fault

-- the same of the text without the maps of errors
abbrev pub IsTextReadWithout : {A : Type 0} → List ℕ → ℕ → Result (Term A) TraceFault → Type 0
IsTextReadWithout text n r = IsTextRead (without_error_maps text) n r

-- the message that the line of `dbg` stands for, or its fault
abbrev pub IsDbgLineRead : {A : Type 0} → List ℕ → ℕ → Result (Term A) TraceFault → Type 0
IsDbgLineRead line n r = IsTextReadWithout (dbg_text line) n r

-- the message that the line stands for, or its fault
abbrev pub IsLineRead : {A : Type 0} → List ℕ → ℕ → Result (Term A) TraceFault → Type 0
IsLineRead line n r = IsTextRead (trace_message_text line) n r

-- the message that the line spells comes after these, and where the line is passed over none does
pub record AddsLine {A : Type 0} (line : List ℕ) (old new : List (Term A)) : Type 0 where
  pub message : List Tree
  pub spelled : LinesSpell (line ∷ []) message
  pub added : map tree_of new ≡ map tree_of old ++ message

-- the fault of a line that isn't passed over
abbrev pub IsContentFault : List ℕ → ℕ → TraceFault → Type 0
IsContentFault line n fault = (is_passed_over line ≡ false) × IsLineFault line n fault

-- ---- a text

-- the refusal of the text; refused memory says nothing of it
abbrev pub IsTraceFault : List ℕ → TraceFault → Type 0
IsTraceFault text (NoTerm n fault) = IsSomeAnd (line_fault_seen fault) (λ f. IsTraceRefusal text (record { line = n; fault = f }))
IsTraceFault text (NoMessage n) = IsTraceRefusal text (record { line = n; fault = no_message })
IsTraceFault text OutOfMemory = Unit {0}

-- the messages that the text spells, or its refusal
abbrev pub IsTraceRead : {A : Type 0} → List ℕ → Result (Vec (Term A) A) TraceFault → Type 0
IsTraceRead text (Ok v) = SpellsTrace text (map tree_of v.items)
IsTraceRead text (Err fault) = IsTraceFault text fault
