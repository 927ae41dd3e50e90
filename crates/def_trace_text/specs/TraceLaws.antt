-- What is promised of texts of trace messages (own).
-- Depends on their lines, on the lines of `dbg`, and on what they spell and how they are refused.
use Rattle.std.specs.Prelude.{◌≡◌, ◌↔◌, ◌⊎◌, ℕ, true, false, List, ◌∷◌, ◌++◌, length, ◌-◌, ◌<◌, slice_index, None, codes}
use Rattle.std.specs.List.{All}
use Rattle.def_term.specs.Tree.{Tree, Trees, count}
use Rattle.def_term.specs.Text.{is_digit, comma_list, pid_text}
use Rattle.def_text.specs.Spelling.{Spells}
use Rattle.def_text.specs.Tokens.{is_blank, all_are}
use Rattle.def_text.specs.Writable.{are_writable}
use Rattle.def_trace_text.specs.Lines.{AreTextLines, trace_text_lines, IsTermText, term_text}
use Rattle.def_trace_text.specs.DbgFormats.{DbgFormat, word_formats, send_format, pair_format, single_format, dbg_formats, other_kinds, part_length, has_format, with_parts, with_term_texts}
use Rattle.def_trace_text.specs.DbgLines.{is_dbg_line, whole_text_lines}
use Rattle.def_trace_text.specs.ErrorMaps.{has_sign, without_error_maps, trace_message_text}
use Rattle.def_trace_text.specs.Messages.{IsTraceMessage, is_trace_message}
use Rattle.def_trace_text.specs.TraceTexts.{SpellsTrace, TraceRefusal, IsTraceRefusal}

-- ---- lines

-- each text has its lines
abbrev pub LinesAreThere : Type 0
LinesAreThere = (text : List ℕ) → AreTextLines text (trace_text_lines text)

-- each line has a text of a term
abbrev pub TermTextIsThere : Type 0
TermTextIsThere = (line : List ℕ) → IsTermText line (term_text line)

-- a line of `dbg` spells no term, so that no line is of both kinds
abbrev pub DbgLineIsNoTerm : Type 0
DbgLineIsNoTerm = (line : List ℕ) (t : Tree) → is_dbg_line line ≡ true → Spells (term_text line) t → ⊥

-- a line that has a format of `dbg` is what `dbg` prints by it, with the line's parts in the places of the digits
abbrev pub DbgLineHasParts : Type 0
DbgLineHasParts = All (λ f. (line : List ℕ) → has_format f.printed line ≡ true → with_parts f.printed f.printed line ≡ line) dbg_formats

-- where a format ends with a digit, there is a term in its place
abbrev pub HasLastTerm : List ℕ → (ℕ → Trees) → Type 0
HasLastTerm format terms = is_digit (slice_index format (length format - 1)) ≡ true → 0 < count (terms (slice_index format (length format - 1)))

-- what `dbg` prints of these terms by a format is read as the text of the message with them
abbrev pub IsReadAs : (ℕ → Trees) → DbgFormat → Type 0
IsReadAs terms f = HasLastTerm f.printed terms → trace_message_text (with_term_texts f.printed terms) ≡ with_term_texts f.message terms

-- so it is by a format with a word of its own; by that of a send, where the digit 2, the byte 50, is a pid; and by those of two terms or one, where it is one of the other kinds
abbrev pub DbgMessageIsRead : Type 0
DbgMessageIsRead =
    (terms : ℕ → Trees) → ((digit : ℕ) → are_writable (terms digit) ≡ true)
    → All (IsReadAs terms) word_formats
    × ((n : ℕ) → comma_list (terms 50) ≡ pid_text n → IsReadAs terms send_format)
    × All (λ kind. comma_list (terms 50) ≡ kind → IsReadAs terms pair_format × IsReadAs terms single_format) other_kinds

-- there are as many whole lines as lines, so that the number of each is that of its line
abbrev pub WholeLinesAreAsMany : Type 0
WholeLinesAreAsMany = (text : List ℕ) → length (whole_text_lines text) ≡ length (trace_text_lines text)

-- where no line is of `dbg`, the whole lines are the lines
abbrev pub OtherLinesAreWhole : Type 0
OtherLinesAreWhole = (text : List ℕ) → All (λ line. is_dbg_line line ≡ false) (trace_text_lines text) → whole_text_lines text ≡ trace_text_lines text

-- the map of an error is the empty list, with what is inside of it up to its bracket; the rest of the text comes after it
abbrev pub ErrorMapIsEmpty : Type 0
ErrorMapIsEmpty =
    (blanks inside rest : List ℕ) → all_are is_blank blanks ≡ true → part_length 125 None false 0 (inside ++ 125 ∷ rest) ≡ length inside
    → without_error_maps (codes "{error_info," ++ (blanks ++ (codes "#{" ++ (inside ++ 125 ∷ rest)))) ≡ codes "{error_info,[]" ++ without_error_maps rest

-- a text whose number signs are all between quotes stays as it is
abbrev pub OtherTextIsLeft : Type 0
OtherTextIsLeft = (text : List ℕ) → has_sign None false text ≡ false → without_error_maps text ≡ text

-- the messages are those tuples
abbrev pub MessagesAreTuples : Type 0
MessagesAreTuples = (t : Tree) → IsTraceMessage t ↔ (is_trace_message t ≡ true)

-- ---- texts

-- a text spells at most one list of messages
abbrev pub SpelledTraceIsOne : Type 0
SpelledTraceIsOne = (text : List ℕ) (ts us : List Tree) → SpellsTrace text ts → SpellsTrace text us → ts ≡ us

-- a text that spells messages is not refused
abbrev pub SpelledTraceIsNotRefused : Type 0
SpelledTraceIsNotRefused = (text : List ℕ) (ts : List Tree) (r : TraceRefusal) → SpellsTrace text ts → IsTraceRefusal text r → ⊥

-- a text is refused in one way at most
abbrev pub TraceRefusalIsOne : Type 0
TraceRefusalIsOne = (text : List ℕ) (r s : TraceRefusal) → IsTraceRefusal text r → IsTraceRefusal text s → r ≡ s

-- each text spells messages or is refused
abbrev pub TraceOrRefusal : Type 0
TraceOrRefusal = (text : List ℕ) → ((ts : List Tree) × SpellsTrace text ts) ⊎ ((r : TraceRefusal) × IsTraceRefusal text r)
