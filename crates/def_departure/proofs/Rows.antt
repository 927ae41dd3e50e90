-- Worked rows, computed: a trace that has another message than the run, and one that the run shows.
use Rattle.std.proofs.Common.{◌≡◌, ℕ, List, [], ◌∷◌, false, codes, refl}
use Rattle.std.specs.Prelude.{Some, None}
use Rattle.std.specs.Fmt.{digits}
use Rattle.def_term.specs.Tree.{Tree, pid}
use Rattle.def_term.specs.Text.{is_written_bare}
use Rattle.def_term.specs.Names.{Name, word}
use Rattle.def_script.specs.Program.{Program, send}
use Rattle.def_run.proofs.Samples.{braces, function, entry, program, creates, sets, lines}
use Rattle.def_explore.specs.Rests.{kept_by_process}
use Rattle.def_explore.specs.Answers.{RestEntry}
use Rattle.def_compare.specs.Traces.{TraceQuestion}
use Rattle.def_compare.specs.Answers.{about_patterns, about_trace}
use Rattle.def_compare.specs.AnswerRows.{plain_answer, json_answer}
use Rattle.def_departure.specs.Departures.{departure_of, departure_text}

-- 100 calls go and sends hi to 101; the two commands trace its sends
abbrev sender : Program
sender = program (function "go" [] (send (pid 101) (word "hi") ∷ []) ∷ function "peer" [] [] ∷ []) (entry "go" [] ∷ entry "peer" [] ∷ [])
    (creates "s" "t" ∷ sets "s" (word "all") ("send" ∷ []) ∷ [])

-- {trace,P,send,Message,To}
abbrev sent : ℕ → Tree → ℕ → Tree
sent p m to = braces (word "trace" ∷ pid p ∷ word "send" ∷ m ∷ pid to ∷ [])

abbrev asked : Tree → TraceQuestion
asked m = record { messages = sent 84 m 85 ∷ []; goes_on = false }

-- the run up to the send
abbrev run : RestEntry
run = record { kept = kept_by_process (((sent 100 (word "hi") 101 ∷ []) ∷ []) ∷ []); journal = 0 ∷ 0 ∷ 100 ∷ 100 ∷ [] }

abbrev tracers : List (Name × Name)
tracers = (codes "s", codes "t") ∷ []

-- another message was sent: the run departs from the trace by its send
pub another_message : departure_of (about_trace (asked (word "bye"))) (run ∷ []) ≡ Some (0 ∷ 0 ∷ 100 ∷ 100 ∷ [])
another_message = refl

pub same_message : departure_of (about_trace (asked (word "hi"))) (run ∷ []) ≡ None
same_message = refl

-- a run at rest that has no message where the trace has one doesn't depart from it
abbrev silent_run : RestEntry
silent_run = record { kept = kept_by_process ([] ∷ []); journal = 0 ∷ 100 ∷ [] }

pub no_message : departure_of (about_trace (asked (word "hi"))) (silent_run ∷ []) ≡ None
no_message = refl

-- patterns have no trace
pub of_patterns : departure_of (about_patterns []) (run ∷ []) ≡ None
of_patterns = refl

-- what the session made of the send
pub text_of_send : departure_text plain_answer tracers sender (Some (0 ∷ 0 ∷ 100 ∷ 100 ∷ []))
    ≡ lines ("== explained" ∷ "4 100 <0.100.0> send hi <0.101.0>" ∷ "  s: => {trace,<0.100.0>,send,hi,<0.101.0>}" ∷ "4 100 <0.101.0> 'receive' hi" ∷ "  s: no flag 'receive'" ∷ [])
unfolding is_written_bare digits
text_of_send = refl

pub no_text_in_json : departure_text json_answer tracers sender (Some (0 ∷ 0 ∷ 100 ∷ 100 ∷ [])) ≡ []
no_text_in_json = refl

pub no_text_without_run : departure_text plain_answer tracers sender None ≡ []
no_text_without_run = refl
