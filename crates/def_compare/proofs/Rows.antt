-- Worked rows, computed: two workers whose trace a node printed in another order, with pids of its own.
use Rattle.std.proofs.Common.{◌≡◌, ℕ, List, [], ◌∷◌, true, false, codes, refl}
use Rattle.std.specs.Prelude.{Some, None}
use Rattle.std.specs.Fmt.{digits}
use Rattle.def_term.specs.Tree.{Tree, pid}
use Rattle.def_term.specs.Text.{is_written_bare}
use Rattle.def_term.specs.Names.{Name, word}
use Rattle.def_run.proofs.Samples.{number, braces}
use Rattle.def_explore.specs.Rests.{KeptMessages, kept_messages, kept_by_process}
use Rattle.def_explore.specs.Answers.{RestEntry}
use Rattle.def_compare.specs.Traces.{TraceQuestion, trace_processes, orders_in, prefix_pairs, shown_pairs}
use Rattle.def_compare.specs.Entries.{possible_by}
use Rattle.def_compare.specs.Output.{comparison_text, message_there}
use Rattle.def_compare.specs.Answers.{about_patterns}
use Rattle.def_compare.specs.AnswerRows.{answer_in, summary_answer}

-- {trace,Pid,'receive',N}
abbrev message : ℕ → ℕ → Tree
message p n = braces (word "trace" ∷ pid p ∷ word "receive" ∷ number n ∷ [])

-- 84 and 85 are the node's; the first message that it printed is of 85
abbrev printed : List Tree
printed = message 85 2 ∷ message 84 1 ∷ message 85 3 ∷ []

two_processes : trace_processes printed ≡ 85 ∷ 84 ∷ []
two_processes = refl

-- 100 receives 1, and 101 receives 2 and 3
abbrev shown : KeptMessages
shown = kept_by_process (((message 100 1 ∷ []) ∷ (message 101 2 ∷ message 101 3 ∷ []) ∷ []) ∷ [])

by_process : orders_in shown printed ≡ (message 85 2 ∷ message 85 3 ∷ []) ∷ (message 84 1 ∷ []) ∷ []
by_process = refl

partners : prefix_pairs printed shown ≡ Some ((85, 101) ∷ (84, 100) ∷ [])
partners = refl

-- in total order the run would have to begin with what 85 receives
abbrev in_order : KeptMessages
in_order = kept_messages ((message 100 1 ∷ message 101 2 ∷ message 101 3 ∷ []) ∷ [])

other_order : prefix_pairs printed in_order ≡ None
other_order = refl

-- ---- traces

abbrev trace : List Tree → TraceQuestion
trace ms = record { messages = ms; goes_on = false }

abbrev beginning : List Tree → TraceQuestion
beginning ms = record { messages = ms; goes_on = true }

-- the run shows one message more
one_more : shown_pairs (trace (message 85 2 ∷ message 84 1 ∷ [])) shown ≡ None
one_more = refl

as_beginning : shown_pairs (beginning (message 85 2 ∷ message 84 1 ∷ [])) shown ≡ Some ((85, 101) ∷ (84, 100) ∷ [])
as_beginning = refl

-- one pid has one partner: 84 isn't both
two_partners : shown_pairs (trace (message 84 2 ∷ message 84 1 ∷ message 84 3 ∷ [])) shown ≡ None
two_partners = refl

-- ---- entries

abbrev entries : List RestEntry
entries = record { kept = kept_by_process ((((message 100 1 ∷ []) ∷ (message 101 3 ∷ message 101 2 ∷ []) ∷ [])) ∷ []); journal = 100 ∷ 101 ∷ [] } ∷ record { kept = shown; journal = 101 ∷ 100 ∷ [] } ∷ []

possible_by_second : possible_by (trace printed) entries ≡ Some (record { entry = record { kept = shown; journal = 101 ∷ 100 ∷ [] }; pairs = (85, 101) ∷ (84, 100) ∷ [] })
possible_by_second = refl

-- 4 is received nowhere: two messages are the longest prefix, and the run has 3 there
abbrev changed : List Tree
changed = message 85 2 ∷ message 84 1 ∷ message 85 4 ∷ []

not_possible : possible_by (trace changed) entries ≡ None
not_possible = refl

received_there : message_there shown ((85, 101) ∷ (84, 100) ∷ []) (message 85 2 ∷ message 84 1 ∷ []) (message 85 4) ≡ Some (message 101 3)
received_there = refl

-- ---- text

abbrev with_tracer : List (Name × Name)
with_tracer = (codes "s", codes "t") ∷ []

text_of_possible : comparison_text with_tracer (trace printed) entries 9 true ≡ codes "== session s tracer t\npossible: journal 101 100\n<0.85.0> is <0.101.0>\n<0.84.0> is <0.100.0>\n== explored\ncomplete: 9 states, 2 listings\n"
unfolding is_written_bare digits
text_of_possible = refl

text_of_impossible : comparison_text with_tracer (trace changed) entries 9 true ≡ codes "== session s tracer t\nimpossible: the longest prefix is 2 of 3 messages: journal 101 100\n<0.85.0> is <0.101.0>\n<0.84.0> is <0.100.0>\nnot there: {trace,<0.85.0>,'receive',4}\nthere: {trace,<0.101.0>,'receive',3}\n== explored\ncomplete: 9 states, 2 listings\n"
unfolding is_written_bare digits
text_of_impossible = refl

-- the trace ends, and the run doesn't; not all states were tried
text_of_unknown : comparison_text with_tracer (trace (message 85 2 ∷ [])) entries 9 false ≡ codes "== session s tracer t\nunknown: the longest prefix is 1 of 1 message: journal 101 100\n<0.85.0> is <0.101.0>\nnot in the trace: 2 more\n== explored\nnot complete: 9 states were met\n"
unfolding is_written_bare digits
text_of_unknown = refl

text_of_none : comparison_text with_tracer (trace printed) [] 1 false ≡ codes "== session s tracer t\nunknown: no run to rest was met\n== explored\nnot complete: 1 state was met\n"
unfolding is_written_bare digits
text_of_none = refl

-- three messages of 29 bytes
text_of_summary : answer_in summary_answer with_tracer (about_patterns []) (record { kept = shown; journal = 101 ∷ 100 ∷ [] } ∷ []) 9 true ≡ codes "== listing 1 of 1: journal 101 100\n== session s tracer t\n'receive': messages 3, bytes 87\ntotal: messages 3, bytes 87\ngreatest: bytes 29, line 1, {trace,<0.100.0>,'receive',1}\n== explored\ncomplete: 9 states, 1 listing\n"
unfolding is_written_bare digits
text_of_summary = refl
