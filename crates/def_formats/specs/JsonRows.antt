-- An output, an account and the answer of a trial as JSON, a value a line (own).
-- Depends on the sections of an output, on the parts of a trace message's text and on the JSON of RFC 8259, by the kit's `json`.
use Rattle.std.specs.Prelude.{ℕ, suc, ◌+◌, ◌==◌, nat_eq, nat_lt, Bool, true, false, ◌&&◌, ◌||◌, if◌then◌else◌, List, [], ◌∷◌, ◌++◌, length, map, flat_map, take, drop, Option, Some, None, codes, decimal}
use Rattle.std.specs.List.{list_all, starts_with, before_first, position_or_len}
use Rattle.std.specs.Str.{bytes_eq}
use Rattle.json.specs.Json.{Json, null, boolean, number, string, array, object, Items, no_items, item, Members, no_members, member}
use Rattle.json.specs.Word.{after_number}
use Rattle.json.specs.Print.{print}
use Rattle.json.specs.Tree.{json_tokens}
use Rattle.def_formats.specs.Lines.{text_lines, message_pid, message_kind, before_byte, past_byte, atom_length, value_length}
use Rattle.def_formats.specs.Sections.{by_sections, Section, section_of, session_section, replies_section, journal_section}
use Rattle.def_formats.specs.Summaries.{journal_picks}

-- ---- values

abbrev pub are_ascii : List ℕ → Bool
are_ascii text = list_all (λ b. nat_lt b 128) text

-- the text as a string; null for one that isn't ASCII, which no output has
abbrev pub text_value : List ℕ → Json
text_value text = if are_ascii text then string text else null

abbrev pub number_value : ℕ → Json
number_value n = number (decimal n)

-- nothing is after the number
abbrev pub is_whole : Option (List ℕ) → Bool
is_whole None = false
is_whole (Some []) = true
is_whole (Some (c ∷ cs)) = false

-- the text of a number as that number, and any other as a string
abbrev pub numeral_value : List ℕ → Json
numeral_value text = if are_ascii text && is_whole (after_number text) then number text else text_value text

abbrev pub items_from : List Json → Items
items_from [] = no_items
items_from (v ∷ vs) = item v (items_from vs)

abbrev pub members_from : List (List ℕ × Json) → Members
members_from [] = no_members
members_from (m ∷ ms) = member m.0 m.1 (members_from ms)

abbrev pub object_from : List (List ℕ × Json) → Json
object_from ms = object (members_from ms)

-- the value on a line of its own
abbrev pub json_line : Json → List ℕ
json_line v = print (json_tokens v) ++ 10 ∷ []

abbrev pub json_lines : List Json → List ℕ
json_lines vs = flat_map json_line vs

-- ---- an output

-- {"session":NAME,"tracer":TRACER,"messages":N}
abbrev pub session_row : (name tracer : List ℕ) → ℕ → Json
session_row name tracer count =
    object_from ((codes "session", text_value name) ∷ (codes "tracer", text_value tracer) ∷ (codes "messages", number_value count) ∷ [])

-- {"session":NAME,"tracer":TRACER,"message":N,"kind":KIND,"pid":PID,"text":TEXT}
abbrev pub message_row : (name tracer : List ℕ) → ℕ → List ℕ → Json
message_row name tracer n line =
    object_from ((codes "session", text_value name) ∷ (codes "tracer", text_value tracer) ∷ (codes "message", number_value n)
    ∷ (codes "kind", text_value (message_kind line)) ∷ (codes "pid", text_value (message_pid line)) ∷ (codes "text", text_value line) ∷ [])

-- {"reply":N,"text":TEXT}
abbrev pub reply_row : ℕ → List ℕ → Json
reply_row n line = object_from ((codes "reply", number_value n) ∷ (codes "text", text_value line) ∷ [])

-- {"journal":[PICK,..]}
abbrev pub journal_row : List (List ℕ) → Json
journal_row picks = object_from ((codes "journal", array (items_from (map numeral_value picks))) ∷ [])

-- a row for each line, with its number, from n
abbrev pub numbered_rows : (ℕ → List ℕ → Json) → ℕ → List (List ℕ) → List Json
numbered_rows row n [] = []
numbered_rows row n (l ∷ ls) = row n l ∷ numbered_rows row (suc n) ls

abbrev pub rows_by : Section → List (List ℕ) → List Json
rows_by (session_section name tracer) lines = session_row name tracer (length lines) ∷ numbered_rows (message_row name tracer) 1 lines
rows_by replies_section lines = numbered_rows reply_row 1 lines
rows_by journal_section lines = journal_row (journal_picks lines) ∷ []

abbrev pub section_json : List ℕ → List (List ℕ) → List ℕ
section_json head lines = json_lines (rows_by (section_of head) lines)

-- the output of a run
abbrev pub output_json : List ℕ → List ℕ
output_json output = by_sections section_json (text_lines output)

-- ---- a line that explains

-- a colon or a blank is after a number
abbrev pub ends_number : ℕ → Bool
ends_number b = (b == 58) || (b == 32)

-- the number at the front of a text, and what is after it
abbrev pub front_number : List ℕ → List ℕ
front_number text = before_first ends_number text

abbrev pub past_number : List ℕ → List ℕ
past_number text = drop (position_or_len ends_number text) text

-- the effects of a clause that fires, where it has some: after a colon
abbrev pub effects_members : List ℕ → List (List ℕ × Json)
effects_members text = if starts_with nat_eq text (codes ": ") then (codes "effects", text_value (drop 2 text)) ∷ [] else []

-- what the variables of a condition are bound to, where it has some: after a colon
abbrev pub bound_members : List ℕ → List (List ℕ × Json)
bound_members text = if starts_with nat_eq text (codes ": ") then (codes "bound", text_value (drop 2 text)) ∷ [] else []

-- the value of a condition up to the first colon outside of quotes, and its variables
abbrev pub value_and_bound : List ℕ → List (List ℕ × Json)
value_and_bound text = (codes "value", text_value (take (value_length false false text) text)) ∷ bound_members (drop (value_length false false text) text)

-- the value of a condition, or the part of it that has none
abbrev pub value_members : List ℕ → List (List ℕ × Json)
value_members text =
    if starts_with nat_eq text (codes " is ") then value_and_bound (drop 4 text)
    else (if starts_with nat_eq text (codes " faults at ") then (codes "faults_at", text_value (drop 11 text)) ∷ [] else [])

-- the number of a condition, and its value
abbrev pub condition_value : List ℕ → List (List ℕ × Json)
condition_value text = (codes "condition", numeral_value (front_number text)) ∷ value_members (past_number text)

-- the condition by which a clause doesn't fire, where it is one
abbrev pub condition_members : List ℕ → List (List ℕ × Json)
condition_members text = if starts_with nat_eq text (codes ": condition ") then condition_value (drop 12 text) else []

-- whether a clause fires, with its effects or its condition
abbrev pub fires_members : List ℕ → List (List ℕ × Json)
fires_members text =
    if starts_with nat_eq text (codes " fires") then (codes "fires", boolean true) ∷ effects_members (drop 6 text)
    else (codes "fires", boolean false) ∷ condition_members text

-- what is after the line of a clause of a fun, where that is said
abbrev pub past_place : List ℕ → List ℕ
past_place text = if starts_with nat_eq text (codes " (line ") then past_byte 41 text else text

-- the number of a clause, and whether it fires
abbrev pub clause_members : List ℕ → List (List ℕ × Json)
clause_members text = (codes "clause", numeral_value (front_number text)) ∷ fires_members (past_place (past_number text))

-- no trace message, and why
abbrev pub why_members : List ℕ → List (List ℕ × Json)
why_members text = (codes "trace_message", null) ∷ (codes "why", text_value text) ∷ []

-- the trace message, or why there is none
abbrev pub arrow_members : List ℕ → List (List ℕ × Json)
arrow_members text = if starts_with nat_eq text (codes "no message: ") then why_members (drop 12 text) else (codes "trace_message", text_value text) ∷ []

-- what a running node does otherwise, where the line says it
abbrev pub node_members : List ℕ → List (List ℕ × Json)
node_members line = if starts_with nat_eq line (codes "on a node: ") then (codes "on_a_node", text_value (drop 11 line)) ∷ [] else []

-- what the line says, by its first words; nothing where it has others
abbrev pub line_members : List ℕ → List (List ℕ × Json)
line_members line =
    if starts_with nat_eq line (codes "clause ") then clause_members (drop 7 line)
    else (if starts_with nat_eq line (codes "=> ") then arrow_members (drop 3 line) else node_members line)

-- ---- a line of an account

-- the reason of a reply, where there is one: after a colon and a blank
abbrev pub why_after : List ℕ → List (List ℕ × Json)
why_after text = if starts_with nat_eq text (codes " ") then (codes "why", text_value (drop 1 text)) ∷ [] else []

-- a reply with its reason; a tuple has none
abbrev pub reply_members : List ℕ → List (List ℕ × Json)
reply_members text =
    if starts_with nat_eq text (codes "{") then (codes "reply", text_value text) ∷ []
    else (codes "reply", text_value (before_byte 58 text)) ∷ why_after (past_byte 58 text)

-- the mark that a call gets, has or loses; of any other line what its first words say
abbrev pub mark_members : List ℕ → List (List ℕ × Json)
mark_members line =
    if bytes_eq line (codes "the call is marked") then (codes "mark", text_value (codes "set")) ∷ []
    else (if bytes_eq line (codes "the call is marked for exceptions") then (codes "mark", text_value (codes "set for exceptions")) ∷ []
    else (if bytes_eq line (codes "the call has no mark") then (codes "mark", text_value (codes "none")) ∷ []
    else (if bytes_eq line (codes "the call is marked for returns alone") then (codes "mark", text_value (codes "for returns alone")) ∷ []
    else (if bytes_eq line (codes "the mark is gone") then (codes "mark", text_value (codes "gone")) ∷ []
    else line_members line))))

-- why there is no trace message, where the line is the reason as a whole
abbrev pub cause_members : List ℕ → List (List ℕ × Json)
cause_members line =
    if bytes_eq line (codes "no clause fires") then (codes "fires", boolean false) ∷ []
    else (if bytes_eq line (codes "silent") then (codes "silent", boolean true) ∷ []
    else (if bytes_eq line (codes "message false") then (codes "message", boolean false) ∷ []
    else (if bytes_eq line (codes "the setting is false") then (codes "setting", text_value (codes "false")) ∷ []
    else (if bytes_eq line (codes "the setting is global, and the call doesn't name the module") then (codes "setting", text_value (codes "global")) ∷ []
    else mark_members line))))

-- a line that a running node lacks or has, or the limit that a step goes past
abbrev pub outside_members : List ℕ → List (List ℕ × Json)
outside_members line =
    if starts_with nat_eq line (codes "- ") then (codes "node_lacks", text_value (drop 2 line)) ∷ []
    else (if starts_with nat_eq line (codes "+ ") then (codes "node_has", text_value (drop 2 line)) ∷ []
    else (if starts_with nat_eq line (codes "past a limit: ") then (codes "past_limit", text_value (drop 14 line)) ∷ []
    else cause_members line))

-- what a session makes of an event or a command: its reply, the flag or the setting that isn't there, or any other
abbrev pub account_members : List ℕ → List (List ℕ × Json)
account_members line =
    if starts_with nat_eq line (codes "replies ") then reply_members (drop 8 line)
    else (if starts_with nat_eq line (codes "no flag ") then (codes "no_flag", text_value (drop 8 line)) ∷ []
    else (if starts_with nat_eq line (codes "no setting for ") then (codes "no_setting", text_value (drop 15 line)) ∷ []
    else outside_members line))

-- ---- an account

-- what a session makes of a move is indented
abbrev pub is_indented : List ℕ → Bool
is_indented line = starts_with nat_eq line (codes "  ")

-- the line of a move: its number, its pick, and what it shows
abbrev pub move_members : List ℕ → List (List ℕ × Json)
move_members line =
    (codes "move", numeral_value (before_byte 32 line)) ∷ (codes "pick", numeral_value (before_byte 32 (past_byte 32 line)))
    ∷ (codes "event", text_value (past_byte 32 (past_byte 32 line))) ∷ []

-- {"move":N,"pick":PICK,"event":EVENT}
abbrev pub move_row : List ℕ → Json
move_row line = object_from (move_members line)

-- the name of a session is at the front of its line, and what it makes of the move after the name and `: `
abbrev pub front_name : List ℕ → List ℕ
front_name text = take (atom_length text) text

abbrev pub past_name : List ℕ → List ℕ
past_name text = drop (atom_length text + 2) text

-- {"move":N,"pick":PICK,"event":EVENT,"session":NAME,"line":LINE,..}
abbrev pub made_row : (move line : List ℕ) → Json
made_row move line =
    let rest : List ℕ = drop 2 line in
    object_from (move_members move ++ (codes "session", text_value (front_name rest)) ∷ (codes "line", text_value (past_name rest)) ∷ account_members (past_name rest))

-- a row for each line, with the move before it
abbrev pub account_rows : List ℕ → List (List ℕ) → List Json
account_rows move [] = []
account_rows move (l ∷ ls) = if is_indented l then made_row move l ∷ account_rows move ls else move_row l ∷ account_rows l ls

abbrev pub account_json : List ℕ → List ℕ
account_json text = json_lines (account_rows [] (text_lines text))

-- ---- any other text

-- {"line":N,"text":TEXT,..}
abbrev pub line_row : ℕ → List ℕ → Json
line_row n line = object_from ((codes "line", number_value n) ∷ (codes "text", text_value line) ∷ line_members line)

abbrev pub text_json : List ℕ → List ℕ
text_json text = json_lines (numbered_rows line_row 1 (text_lines text))
