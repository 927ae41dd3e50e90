-- The text of a comparison of a trace with all runs to rest (own).
-- Depends on entries that show a trace, and on the text of terms, listings and picks.
use Rattle.std.specs.Prelude.{◌==◌, ◌-◌, ℕ, Bool, true, false, if◌then◌else◌, List, [], ◌∷◌, ◌++◌, Option, Some, None, length, take, slice_get, filter, flat_map, codes, decimal}
use Rattle.def_term.specs.Tree.{Tree, pid}
use Rattle.def_term.specs.Names.{Name}
use Rattle.def_term.specs.Text.{w}
use Rattle.def_run.specs.Listing.{header_line}
use Rattle.def_explore.specs.Rests.{KeptMessages, kept_messages, kept_by_process, message_process, is_of_process}
use Rattle.def_explore.specs.Answers.{RestEntry}
use Rattle.def_explore.specs.Output.{spaced_picks, closing_line, exploration_end_text}
use Rattle.def_compare.specs.Traces.{TraceQuestion, lists_in, count_in}
use Rattle.def_compare.specs.Entries.{Match, Prefix, possible_by, longest_prefix}

-- ---- what the run has in the place of a message

-- the partner of a pid
abbrev pub partner_of : List (ℕ × ℕ) → ℕ → Option ℕ
partner_of [] n = None
partner_of (p ∷ ps) n = if p.0 == n then Some p.1 else partner_of ps n

-- the messages that are kept of a process
abbrev pub messages_of_process : KeptMessages → ℕ → List Tree
messages_of_process kept n = filter (is_of_process n) (flat_map (λ ms. ms) (lists_in kept))

-- the message that the partner of a process has after so many
abbrev pub message_of_partner_after : KeptMessages → Option ℕ → ℕ → Option Tree
message_of_partner_after kept None n = None
message_of_partner_after kept (Some m) n = slice_get (messages_of_process kept m) n

-- the partner of the process that a message is of
abbrev pub partner_in : List (ℕ × ℕ) → Option ℕ → Option ℕ
partner_in ps None = None
partner_in ps (Some n) = partner_of ps n

-- how many of these messages are of the process that a message is of
abbrev pub count_with : List Tree → Option ℕ → ℕ
count_with ms None = 0
count_with ms (Some n) = length (filter (is_of_process n) ms)

-- what is kept in the place of a message that comes after these
abbrev pub message_there : KeptMessages → List (ℕ × ℕ) → List Tree → Tree → Option Tree
message_there (kept_messages mss) ps before m = slice_get (flat_map (λ ms. ms) mss) (length before)
message_there (kept_by_process psss) ps before m = message_of_partner_after (kept_by_process psss) (partner_in ps (message_process m)) (count_with before (message_process m))

-- ---- lines

-- <0.84.0> is <0.100.0>
abbrev pub pair_line : ℕ × ℕ → List ℕ
pair_line p = w (pid p.0) ++ codes " is " ++ w (pid p.1) ++ 10 ∷ []

-- the run that shows the trace, and which pids are which
abbrev pub possible_text : Match → List ℕ
possible_text m = codes "possible: journal" ++ spaced_picks m.entry.journal ++ 10 ∷ flat_map pair_line m.pairs

-- the message, or that there is none
abbrev pub there_line : Option Tree → List ℕ
there_line (Some t) = codes "there: " ++ w t ++ 10 ∷ []
there_line None = codes "there: no message\n"

-- how many messages the run has beside those of the trace
abbrev pub more_line : Prefix → List ℕ
more_line f = codes "not in the trace: " ++ decimal (count_in f.by.entry.kept - f.count) ++ codes " more\n"

-- the first message that the run doesn't have, and what it has there; where it has all, how many it has beside them
abbrev pub trace_difference_text : TraceQuestion → Prefix → Option Tree → List ℕ
trace_difference_text a f (Some t) = codes "not there: " ++ w t ++ 10 ∷ there_line (message_there f.by.entry.kept f.by.pairs (take f.count a.messages) t)
trace_difference_text a f None = more_line f

-- whether all states were tried
abbrev pub no_match_word : Bool → List ℕ
no_match_word true = codes "impossible"
no_match_word false = codes "unknown"

-- the longest prefix, the run that begins with it, and where the two differ
abbrev pub longest_prefix_text : TraceQuestion → Prefix → List ℕ
longest_prefix_text a f =
    codes ": the longest prefix is " ++ decimal f.count ++ codes " of " ++ exploration_end_text (length a.messages) (codes "message") ++ codes ": journal"
    ++ spaced_picks f.by.entry.journal ++ 10 ∷ flat_map pair_line f.by.pairs ++ trace_difference_text a f (slice_get a.messages f.count)

-- those of a prefix, where some run was met
abbrev pub trace_prefix_text : TraceQuestion → Bool → Option Prefix → List ℕ
trace_prefix_text a whole None = no_match_word whole ++ codes ": no run to rest was met\n"
trace_prefix_text a whole (Some f) = no_match_word whole ++ longest_prefix_text a f

-- the run that shows the trace, or the longest prefix
abbrev pub match_text : TraceQuestion → List RestEntry → Bool → Option Match → List ℕ
match_text a es whole (Some m) = possible_text m
match_text a es whole None = trace_prefix_text a whole (longest_prefix a.messages es (length a.messages))

-- the sessions, the answer, and what was explored
abbrev pub comparison_text : List (Name × Name) → TraceQuestion → List RestEntry → ℕ → Bool → List ℕ
comparison_text ss a es states whole =
    flat_map (λ s. header_line s.0 s.1) ss ++ match_text a es whole (possible_by a es) ++ codes "== explored\n" ++ closing_line states (length es) whole
