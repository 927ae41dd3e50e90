-- The summary of an output as JSON, a value a line (own).
-- Depends on summaries, on the sections of an output and on JSON rows.
use Rattle.std.specs.Prelude.{ℕ, ◌==◌, if◌then◌else◌, List, [], ◌∷◌, ◌++◌, length, flat_map, Some, None, codes}
use Rattle.json.specs.Json.{Json}
use Rattle.def_formats.specs.Lines.{text_lines}
use Rattle.def_formats.specs.Sections.{by_sections, Section, section_of, session_section, replies_section, journal_section}
use Rattle.def_formats.specs.Summaries.{Load, load_of, NumberedLine, longest, kinds_of_signals, kinds_of_calls, kinds_of_processes, kinds_of_links, journal_picks}
use Rattle.def_formats.specs.JsonRows.{text_value, number_value, object_from, json_lines}

-- ---- rows

-- {"session":NAME,"tracer":TRACER,"kind":KIND,"messages":N,"bytes":N}
abbrev pub kind_row : (name tracer kind : List ℕ) → Load → Json
kind_row name tracer kind l =
    object_from ((codes "session", text_value name) ∷ (codes "tracer", text_value tracer) ∷ (codes "kind", text_value kind)
    ∷ (codes "messages", number_value l.messages) ∷ (codes "bytes", number_value l.bytes) ∷ [])

-- {"session":NAME,"tracer":TRACER,"messages":N,"bytes":N}
abbrev pub total_row : (name tracer : List ℕ) → Load → Json
total_row name tracer l =
    object_from ((codes "session", text_value name) ∷ (codes "tracer", text_value tracer) ∷ (codes "messages", number_value l.messages) ∷ (codes "bytes", number_value l.bytes) ∷ [])

-- {"session":NAME,"tracer":TRACER,"greatest":N,"bytes":N,"text":TEXT}
abbrev pub greatest_row : (name tracer : List ℕ) → NumberedLine → Json
greatest_row name tracer m =
    object_from ((codes "session", text_value name) ∷ (codes "tracer", text_value tracer) ∷ (codes "greatest", number_value m.number)
    ∷ (codes "bytes", number_value (length m.line)) ∷ (codes "text", text_value m.line) ∷ [])

-- {"commands":N}
abbrev pub commands_row : ℕ → Json
commands_row n = object_from ((codes "commands", number_value n) ∷ [])

-- {"moves":N}
abbrev pub moves_row : ℕ → Json
moves_row n = object_from ((codes "moves", number_value n) ∷ [])

-- ---- sections

-- of a kind of which there is no message, nothing
abbrev pub rows_of_kind : (name tracer : List ℕ) → List (List ℕ) → List ℕ → List Json
rows_of_kind name tracer lines kind =
    let l : Load = load_of (Some kind) lines in if l.messages == 0 then [] else kind_row name tracer kind l ∷ []

-- a row for each of these kinds of which there are messages
abbrev pub rows_of_kinds : (name tracer : List ℕ) → List (List ℕ) → List (List ℕ) → List Json
rows_of_kinds name tracer kinds lines = flat_map (rows_of_kind name tracer lines) kinds

-- the greatest message, where there is one
abbrev pub greatest_rows : (name tracer : List ℕ) → NumberedLine → List Json
greatest_rows name tracer m = if m.number == 0 then [] else greatest_row name tracer m ∷ []

-- the load of a session's messages by kind and in total, and the greatest of them
abbrev pub session_load_rows : (name tracer : List ℕ) → List (List ℕ) → List Json
session_load_rows name tracer lines =
    rows_of_kinds name tracer kinds_of_signals lines ++ rows_of_kinds name tracer kinds_of_calls lines ++ rows_of_kinds name tracer kinds_of_processes lines
    ++ rows_of_kinds name tracer kinds_of_links lines ++ (total_row name tracer (load_of None lines) ∷ []) ++ greatest_rows name tracer (longest lines)

-- of a session; the number of commands; the number of moves
abbrev pub load_rows_by : Section → List (List ℕ) → List Json
load_rows_by (session_section name tracer) lines = session_load_rows name tracer lines
load_rows_by replies_section lines = commands_row (length lines) ∷ []
load_rows_by journal_section lines = moves_row (length (journal_picks lines)) ∷ []

abbrev pub section_loads : List ℕ → List (List ℕ) → List ℕ
section_loads head lines = json_lines (load_rows_by (section_of head) lines)

-- the summary of an output as JSON, section by section
abbrev pub summary_json : List ℕ → List ℕ
summary_json output = by_sections section_loads (text_lines output)
