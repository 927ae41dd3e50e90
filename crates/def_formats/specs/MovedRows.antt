-- An output as JSON, with the number of the move of each message (own).
-- Depends on the moves of messages, on the sections of an output and on JSON rows.
use Rattle.std.specs.Prelude.{◌≡◌, ◌⊎◌, ℕ, suc, ◌-◌, if◌then◌else◌, List, [], ◌∷◌, ◌++◌, length, get_or, slice_get, Option, Some, None, codes}
use Rattle.std.specs.Str.{bytes_eq}
use Rattle.json.specs.Json.{Json, null}
use Rattle.def_script.specs.Program.{Program}
use Rattle.def_run.specs.Picks.{SpellsPicks}
use Rattle.def_formats.specs.Lines.{text_lines, message_pid, message_kind}
use Rattle.def_formats.specs.Sections.{is_section_head, before_section, by_sections, Section, section_of, session_section, replies_section, journal_section}
use Rattle.def_formats.specs.JsonRows.{text_value, number_value, object_from, json_lines, numbered_rows, session_row, rows_by}
use Rattle.def_formats.specs.MessageMoves.{moves_of_messages}

-- ---- rows

-- a number, where there is one
abbrev pub number_or_null : Option ℕ → Json
number_or_null None = null
number_or_null (Some n) = number_value n

-- the move of the message of this number, from 1
abbrev pub move_value : List ℕ → ℕ → Json
move_value moves n = number_or_null (slice_get moves (n - 1))

-- {"session":NAME,"tracer":TRACER,"message":N,"move":K,"kind":KIND,"pid":PID,"text":TEXT}
abbrev pub moved_row : (name tracer moves : List ℕ) → ℕ → List ℕ → Json
moved_row name tracer moves n line =
    object_from ((codes "session", text_value name) ∷ (codes "tracer", text_value tracer) ∷ (codes "message", number_value n) ∷ (codes "move", move_value moves n)
    ∷ (codes "kind", text_value (message_kind line)) ∷ (codes "pid", text_value (message_pid line)) ∷ (codes "text", text_value line) ∷ [])

-- the rows of a session whose messages have these moves; those of any other section are as they were
abbrev pub moved_rows_by : (moves : List ℕ) → Section → List (List ℕ) → List Json
moved_rows_by moves (session_section name tracer) lines = session_row name tracer (length lines) ∷ numbered_rows (moved_row name tracer moves) 1 lines
moved_rows_by moves replies_section lines = rows_by replies_section lines
moved_rows_by moves journal_section lines = rows_by journal_section lines

abbrev pub moved_section : (moves head : List ℕ) → List (List ℕ) → List ℕ
moved_section moves head lines = json_lines (moved_rows_by moves (section_of head) lines)

-- ---- an output

-- the sections, with the moves of the sections from the n-th on
abbrev pub moved_sections : (moves : List (List ℕ)) → ℕ → List (List ℕ) → List ℕ
moved_sections moves n [] = []
moved_sections moves n (l ∷ ls) =
    if is_section_head l then moved_section (get_or moves n []) l (before_section ls) ++ moved_sections moves (suc n) ls
    else moved_sections moves n ls

-- the output of a run, whose messages have these moves, session by session
abbrev pub moved_json : (moves : List (List ℕ)) → List ℕ → List ℕ
moved_json moves output = moved_sections moves 0 (text_lines output)

-- ---- the journal of an output

abbrev pub first_of : List (List ℕ) → List ℕ
first_of [] = []
first_of (l ∷ ls) = l

abbrev pub journal_part : List ℕ → List (List ℕ) → List ℕ
journal_part head lines = if bytes_eq head (codes "== journal") then first_of lines else []

-- the line of the journal
abbrev pub journal_text : List ℕ → List ℕ
journal_text output = by_sections journal_part (text_lines output)

-- the picks that a text spells; none where it spells none
abbrev pub IsSpelledOrNone : (text picks : List ℕ) → Type 0
IsSpelledOrNone text picks = SpellsPicks text picks ⊎ (((others : List ℕ) → SpellsPicks text others → ⊥) × (picks ≡ []))

-- the JSON of an output of this program, with the move of each message in its run by the journal that the output has
pub record IsMovedJson (p : Program) (output json : List ℕ) : Type 0 where
  pub picks : List ℕ
  pub journal : IsSpelledOrNone (journal_text output) picks
  pub text : json ≡ moved_json (moves_of_messages p picks) output
