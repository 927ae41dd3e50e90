-- Which trace messages a text spells, one on a line, and how a text that spells none is refused (own).
-- Depends on the lines of such a text, of terms and of `dbg`, on the maps of errors, on trace messages, on stack traces and on the terms that texts spell.
use Rattle.std.specs.Prelude.{◌≡◌, ℕ, ◌+◌, ◌<◌, true, false, not, List, ◌∷◌, ◌++◌, length}
use Rattle.std.specs.List.{AllZip, filter}
use Rattle.def_term.specs.Tree.{Tree}
use Rattle.def_text.specs.Faults.{FaultKind}
use Rattle.def_text.specs.Spelling.{LENGTH, Spells, IsRefusedAt}
use Rattle.def_trace_text.specs.Lines.{is_passed_over}
use Rattle.def_trace_text.specs.DbgLines.{whole_text_lines}
use Rattle.def_trace_text.specs.ErrorMaps.{trace_message_text}
use Rattle.def_trace_text.specs.Messages.{is_trace_message}
use Rattle.def_trace_text.specs.StackTraces.{without_stacks}

-- ---- messages

-- the text spells a term that is a trace message, and this is the message; a stack trace in the term is the empty list
pub record IsTraceText (text : List ℕ) (t : Tree) : Type 0 where
  pub term : Tree
  pub spelled : Spells text term
  pub is_message : is_trace_message term ≡ true
  pub value : t ≡ without_stacks term

-- the line stands for this trace message: it is its text, with a full stop or without, or what `dbg` prints of it
abbrev pub IsTraceLine : List ℕ → Tree → Type 0
IsTraceLine line t = IsTraceText (trace_message_text line) t

-- the lines that aren't passed over
abbrev pub lines_with_messages : List (List ℕ) → List (List ℕ)
lines_with_messages lines = filter (λ line. not (is_passed_over line)) lines

-- each of them spells one message, and these are the messages in their order
abbrev pub LinesSpell : List (List ℕ) → List Tree → Type 0
LinesSpell lines ts = AllZip IsTraceLine (lines_with_messages lines) ts

-- the text spells these trace messages
abbrev pub SpellsTrace : List ℕ → List Tree → Type 0
SpellsTrace text ts = LinesSpell (whole_text_lines text) ts

-- ---- refusals

-- why a line stands for no trace message: the text of its message is too long for a text, or spells no term, with the kind of its refusal and the offset in that text; or the term is no trace message
pub data LineFault : Type 0 where
  too_long : LineFault
  no_term : FaultKind → ℕ → LineFault
  no_message : LineFault

-- the text has this fault
abbrev pub HasTextFault : List ℕ → LineFault → Type 0
HasTextFault text too_long = LENGTH < length text
HasTextFault text (no_term kind at) = IsRefusedAt text kind at
HasTextFault text no_message = (t : Tree) × Spells text t × (is_trace_message t ≡ false)

-- the text of the line's message has it
abbrev pub HasFault : List ℕ → LineFault → Type 0
HasFault line fault = HasTextFault (trace_message_text line) fault

-- a line by its number from 1, and its fault
pub record TraceRefusal : Type 0 where
  pub line : ℕ
  pub fault : LineFault

-- the first line that is neither passed over nor a trace message's, and its fault
pub record LinesHaveFault (lines : List (List ℕ)) (r : TraceRefusal) : Type 0 where
  pub before : List (List ℕ)
  pub line : List ℕ
  pub after : List (List ℕ)
  pub split : lines ≡ before ++ line ∷ after
  pub messages : List Tree
  pub spelled : LinesSpell before messages
  pub number : r.line ≡ length before + 1
  pub content : is_passed_over line ≡ false
  pub fault : HasFault line r.fault

-- the text has this refusal
abbrev pub IsTraceRefusal : List ℕ → TraceRefusal → Type 0
IsTraceRefusal text r = LinesHaveFault (whole_text_lines text) r
