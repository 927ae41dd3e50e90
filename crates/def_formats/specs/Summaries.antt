-- The summary of an output: the messages of each session and their bytes, by kind (own).
-- Depends on the sections of an output and on the kinds of trace messages.
use Rattle.std.specs.Prelude.{ℕ, suc, nat_lt, ◌==◌, Bool, true, if◌then◌else◌, List, [], ◌∷◌, ◌++◌, length, map, filter, flat_map, sum, Option, Some, None, codes, decimal}
use Rattle.std.specs.List.{slice_split}
use Rattle.std.specs.Str.{bytes_eq}
use Rattle.def_formats.specs.Lines.{text_lines, message_kind}
use Rattle.def_formats.specs.Sections.{by_sections, Section, section_of, session_section, replies_section, journal_section}

-- the kinds of trace messages, as a message's text has them: of messages that are sent and that arrive, of calls, and of processes
abbrev pub kinds_of_signals : List (List ℕ)
kinds_of_signals = codes "send" ∷ codes "send_to_non_existing_process" ∷ codes "'receive'" ∷ []

abbrev pub kinds_of_calls : List (List ℕ)
kinds_of_calls = codes "call" ∷ codes "return_from" ∷ codes "exception_from" ∷ []

abbrev pub kinds_of_processes : List (List ℕ)
kinds_of_processes = codes "spawn" ∷ codes "spawned" ∷ codes "exit" ∷ []

abbrev pub kinds_of_links : List (List ℕ)
kinds_of_links = codes "link" ∷ codes "unlink" ∷ codes "getting_linked" ∷ codes "getting_unlinked" ∷ []

-- ---- load

-- how many messages, and how many bytes their texts have, without line feeds
pub record Load : Type 0 where
  pub messages : ℕ
  pub bytes : ℕ

-- the message is of this kind, where one is given
abbrev pub is_message_of_kind : Option (List ℕ) → List ℕ → Bool
is_message_of_kind None line = true
is_message_of_kind (Some kind) line = bytes_eq (message_kind line) kind

-- that of the messages of this kind, or of all where none is given
abbrev pub load_of : Option (List ℕ) → List (List ℕ) → Load
load_of kind lines = let own : List (List ℕ) = filter (is_message_of_kind kind) lines in record { messages = length own; bytes = sum (map length own) }

-- LABEL: messages N, bytes N
abbrev pub load_line : List ℕ → Load → List ℕ
load_line label l = label ++ codes ": messages " ++ decimal l.messages ++ codes ", bytes " ++ decimal l.bytes ++ 10 ∷ []

-- of a kind of which there is no message, nothing
abbrev pub kind_line : List (List ℕ) → List ℕ → List ℕ
kind_line lines kind = let l : Load = load_of (Some kind) lines in if l.messages == 0 then [] else load_line kind l

-- ---- the greatest message

-- a message with its number in the listing, from 1; 0 where there is none
pub record NumberedLine : Type 0 where
  pub number : ℕ
  pub line : List ℕ

-- of this message and those after it, which are numbered from n, the first that is as long as any
abbrev pub longest_from : ℕ → NumberedLine → List (List ℕ) → NumberedLine
longest_from n best [] = best
longest_from n best (l ∷ ls) = longest_from (suc n) (if nat_lt (length best.line) (length l) then record { number = n; line = l } else best) ls

abbrev pub longest : List (List ℕ) → NumberedLine
longest lines = longest_from 1 (record { number = 0; line = [] }) lines

-- greatest: bytes N, line N, TEXT
abbrev pub longest_line : NumberedLine → List ℕ
longest_line m =
    if m.number == 0 then [] else
    codes "greatest: bytes " ++ decimal (length m.line) ++ codes ", line " ++ decimal m.number ++ codes ", " ++ m.line ++ 10 ∷ []

-- ---- sections

-- a line for each of these kinds of which there are messages
abbrev pub kind_lines : List (List ℕ) → List (List ℕ) → List ℕ
kind_lines kinds lines = flat_map (kind_line lines) kinds

-- the load of a session's messages by kind and in total, and the greatest of them
abbrev pub session_summary : List (List ℕ) → List ℕ
session_summary lines =
    kind_lines kinds_of_signals lines ++ kind_lines kinds_of_calls lines ++ kind_lines kinds_of_processes lines ++ kind_lines kinds_of_links lines
    ++ load_line (codes "total") (load_of None lines) ++ longest_line (longest lines)

-- the picks of a journal's line
abbrev pub picks_in : List ℕ → List (List ℕ)
picks_in [] = []
picks_in (c ∷ cs) = slice_split (λ b. b == 32) (c ∷ cs)

-- those of its one line
abbrev pub journal_picks : List (List ℕ) → List (List ℕ)
journal_picks [] = []
journal_picks (l ∷ ls) = picks_in l

-- of a session, after its first line; the number of commands and of moves
abbrev pub summary_by : Section → List ℕ → List (List ℕ) → List ℕ
summary_by (session_section name tracer) head lines = head ++ 10 ∷ session_summary lines
summary_by replies_section head lines = codes "== run\ncommands: " ++ decimal (length lines) ++ 10 ∷ []
summary_by journal_section head lines = codes "moves: " ++ decimal (length (journal_picks lines)) ++ 10 ∷ []

abbrev pub section_summary : List ℕ → List (List ℕ) → List ℕ
section_summary head lines = summary_by (section_of head) head lines

-- the summary of an output, section by section
abbrev pub summary_of : List ℕ → List ℕ
summary_of output = by_sections section_summary (text_lines output)
