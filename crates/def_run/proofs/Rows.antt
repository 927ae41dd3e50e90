-- Worked rows, computed: sends, spawns, links, exits and rounds. Each is the whole output of a script for some picks.
use Rattle.std.proofs.Common.{◌≡◌, [], ◌∷◌, refl, None}
use Rattle.std.specs.Fmt.{digits}
use Rattle.def_term.specs.Tree.{pid}
use Rattle.def_term.specs.Names.{word}
use Rattle.def_term.specs.Text.{is_written_bare}
use Rattle.def_script.specs.Program.{exit, Program, send, receive, link, raise}
use Rattle.def_run.specs.Round.{round}
use Rattle.def_run.specs.Listing.{program_output}
use Rattle.def_run.proofs.Samples.{number, brackets, function, entry, call_unnamed, program, creates, sets, lines, script_a}

-- a send to a process gives its message
send_hi : program_output (script_a (pid 101) (creates "s1" "t1" ∷ sets "s1" (word "all") ("send" ∷ []) ∷ []))
    (0 ∷ 0 ∷ 100 ∷ 100 ∷ [])
    ≡ lines ("== session s1 tracer t1" ∷ "{trace,<0.100.0>,send,{hi,1},<0.101.0>}" ∷ "== replies" ∷ "{session,s1}" ∷ "2" ∷ "== journal" ∷ "0 0 100 100" ∷ [])
unfolding is_written_bare digits
send_hi = refl

-- idle picks are not journaled
send_hi_with_idle_picks : program_output (script_a (pid 101) (creates "s1" "t1" ∷ sets "s1" (word "all") ("send" ∷ []) ∷ []))
    (0 ∷ 0 ∷ 100 ∷ 100 ∷ 999 ∷ 100 ∷ [])
    ≡ lines ("== session s1 tracer t1" ∷ "{trace,<0.100.0>,send,{hi,1},<0.101.0>}" ∷ "== replies" ∷ "{session,s1}" ∷ "2" ∷ "== journal" ∷ "0 0 100 100 100" ∷ [])
unfolding is_written_bare digits
send_hi_with_idle_picks = refl

-- a send to a pid that was never given
no_such_receiver : program_output (script_a (pid 199) (creates "s1" "t1" ∷ sets "s1" (word "all") ("send" ∷ "receive" ∷ []) ∷ []))
    (0 ∷ 0 ∷ 100 ∷ 100 ∷ [])
    ≡ lines ("== session s1 tracer t1" ∷ "{trace,<0.100.0>,send_to_non_existing_process,{hi,1},<0.199.0>}" ∷ "== replies" ∷ "{session,s1}" ∷ "2" ∷ "== journal" ∷ "0 0 100 100" ∷ [])
unfolding is_written_bare digits
no_such_receiver = refl

-- messages arrive in the order of the sends
senders_in_order : program_output (program
    (function "go" ("N" ∷ []) (send (pid 102) (word "N") ∷ []) ∷ function "sink" [] (receive None ∷ receive None ∷ []) ∷ [])
    (entry "go" (number 1 ∷ []) ∷ entry "go" (number 2 ∷ []) ∷ entry "sink" [] ∷ [])
    (creates "s1" "t1" ∷ sets "s1" (pid 102) ("receive" ∷ []) ∷ []))
    (0 ∷ 0 ∷ 100 ∷ 101 ∷ 100 ∷ 101 ∷ [])
    ≡ lines ("== session s1 tracer t1" ∷ "{trace,<0.102.0>,'receive',1}" ∷ "{trace,<0.102.0>,'receive',2}" ∷ "== replies" ∷ "{session,s1}" ∷ "1" ∷ "== journal" ∷ "0 0 100 101 100 101" ∷ [])
unfolding is_written_bare digits
senders_in_order = refl

-- and in the other order where the sends are so
senders_the_other_way : program_output (program
    (function "go" ("N" ∷ []) (send (pid 102) (word "N") ∷ []) ∷ function "sink" [] (receive None ∷ receive None ∷ []) ∷ [])
    (entry "go" (number 1 ∷ []) ∷ entry "go" (number 2 ∷ []) ∷ entry "sink" [] ∷ [])
    (creates "s1" "t1" ∷ sets "s1" (pid 102) ("receive" ∷ []) ∷ []))
    (0 ∷ 0 ∷ 100 ∷ 101 ∷ 101 ∷ 100 ∷ [])
    ≡ lines ("== session s1 tracer t1" ∷ "{trace,<0.102.0>,'receive',2}" ∷ "{trace,<0.102.0>,'receive',1}" ∷ "== replies" ∷ "{session,s1}" ∷ "1" ∷ "== journal" ∷ "0 0 100 101 101 100" ∷ [])
unfolding is_written_bare digits
senders_the_other_way = refl

-- with idle picks between them
idle_picks_leave_no_trace : program_output (program
    (function "go" ("N" ∷ []) (send (pid 102) (word "N") ∷ []) ∷ function "sink" [] (receive None ∷ receive None ∷ []) ∷ [])
    (entry "go" (number 1 ∷ []) ∷ entry "go" (number 2 ∷ []) ∷ entry "sink" [] ∷ [])
    (creates "s1" "t1" ∷ sets "s1" (pid 102) ("receive" ∷ []) ∷ []))
    (0 ∷ 0 ∷ 0 ∷ 999 ∷ 100 ∷ 101 ∷ 100 ∷ 101 ∷ [])
    ≡ lines ("== session s1 tracer t1" ∷ "{trace,<0.102.0>,'receive',1}" ∷ "{trace,<0.102.0>,'receive',2}" ∷ "== replies" ∷ "{session,s1}" ∷ "1" ∷ "== journal" ∷ "0 0 100 101 100 101" ∷ [])
unfolding is_written_bare digits
idle_picks_leave_no_trace = refl

-- an exit reports the linked partner, which exits with the same reason
exit_signal : program_output (program
    (function "go" [] (link (pid 101) ∷ raise exit (word "boom") ∷ []) ∷ function "peer" [] (receive None ∷ []) ∷ [])
    (entry "go" [] ∷ entry "peer" [] ∷ [])
    (creates "s1" "t1" ∷ sets "s1" (word "all") ("procs" ∷ []) ∷ []))
    (0 ∷ 0 ∷ 100 ∷ 101 ∷ 100 ∷ 100 ∷ 101 ∷ [])
    ≡ lines ("== session s1 tracer t1" ∷ "{trace,<0.100.0>,link,<0.101.0>}" ∷ "{trace,<0.101.0>,getting_linked,<0.100.0>}" ∷ "{trace,<0.100.0>,exit,boom}" ∷ "{trace,<0.101.0>,getting_unlinked,<0.100.0>}" ∷ "{trace,<0.101.0>,exit,boom}" ∷ "== replies" ∷ "{session,s1}" ∷ "2" ∷ "== journal" ∷ "0 0 100 101 100 100 101" ∷ [])
unfolding is_written_bare digits
exit_signal = refl

-- a built term of depth 32 is sent
built_term_of_depth_32 : program_output (program
    (function "go" ("X" ∷ []) (send (word "Self") (brackets (brackets (word "X" ∷ []) ∷ [])) ∷ []) ∷ [])
    (entry "go" (brackets (brackets (brackets (brackets (brackets (brackets (brackets (brackets (brackets (brackets (brackets (brackets (brackets (brackets (brackets (brackets (brackets (brackets (brackets (brackets (brackets (brackets (brackets (brackets (brackets (brackets (brackets (brackets (brackets (brackets [] ∷ []) ∷ []) ∷ []) ∷ []) ∷ []) ∷ []) ∷ []) ∷ []) ∷ []) ∷ []) ∷ []) ∷ []) ∷ []) ∷ []) ∷ []) ∷ []) ∷ []) ∷ []) ∷ []) ∷ []) ∷ []) ∷ []) ∷ []) ∷ []) ∷ []) ∷ []) ∷ []) ∷ []) ∷ []) ∷ []) ∷ [])
    (creates "s1" "t1" ∷ sets "s1" (word "all") ("procs" ∷ []) ∷ []))
    (0 ∷ 0 ∷ 100 ∷ 100 ∷ [])
    ≡ lines ("== session s1 tracer t1" ∷ "== replies" ∷ "{session,s1}" ∷ "1" ∷ "== journal" ∷ "0 0 100 100" ∷ [])
unfolding is_written_bare digits
built_term_of_depth_32 = refl

-- one of depth 33 ends the process
built_term_too_deep : program_output (program
    (function "go" ("X" ∷ []) (send (word "Self") (brackets (brackets (brackets (word "X" ∷ []) ∷ []) ∷ [])) ∷ []) ∷ [])
    (entry "go" (brackets (brackets (brackets (brackets (brackets (brackets (brackets (brackets (brackets (brackets (brackets (brackets (brackets (brackets (brackets (brackets (brackets (brackets (brackets (brackets (brackets (brackets (brackets (brackets (brackets (brackets (brackets (brackets (brackets (brackets [] ∷ []) ∷ []) ∷ []) ∷ []) ∷ []) ∷ []) ∷ []) ∷ []) ∷ []) ∷ []) ∷ []) ∷ []) ∷ []) ∷ []) ∷ []) ∷ []) ∷ []) ∷ []) ∷ []) ∷ []) ∷ []) ∷ []) ∷ []) ∷ []) ∷ []) ∷ []) ∷ []) ∷ []) ∷ []) ∷ []) ∷ [])
    (creates "s1" "t1" ∷ sets "s1" (word "all") ("procs" ∷ []) ∷ []))
    (0 ∷ 0 ∷ 100 ∷ 100 ∷ [])
    ≡ lines ("== session s1 tracer t1" ∷ "{trace,<0.100.0>,exit,system_limit}" ∷ "== replies" ∷ "{session,s1}" ∷ "1" ∷ "== journal" ∷ "0 0 100 100" ∷ [])
unfolding is_written_bare digits
built_term_too_deep = refl

-- a round
abbrev round_of_send_hi_program : Program
round_of_send_hi_program = script_a (pid 101) (creates "s1" "t1" ∷ sets "s1" (word "all") ("send" ∷ []) ∷ [])

round_of_send_hi : program_output round_of_send_hi_program (round round_of_send_hi_program 1000)
    ≡ lines ("== session s1 tracer t1" ∷ "{trace,<0.100.0>,send,{hi,1},<0.101.0>}" ∷ "== replies" ∷ "{session,s1}" ∷ "2" ∷ "== journal" ∷ "0 100 101 0 100 101 100 101" ∷ [])
unfolding is_written_bare digits
round_of_send_hi = refl

-- a call at depth 64 ends the process
abbrev recursion_to_the_limit_program : Program
recursion_to_the_limit_program = program
    (function "go" [] (call_unnamed "go" [] ∷ []) ∷ [])
    (entry "go" [] ∷ [])
    (creates "s1" "t1" ∷ sets "s1" (word "all") ("procs" ∷ []) ∷ [])

recursion_to_the_limit : program_output recursion_to_the_limit_program (round recursion_to_the_limit_program 1000)
    ≡ lines ("== session s1 tracer t1" ∷ "{trace,<0.100.0>,exit,system_limit}" ∷ "== replies" ∷ "{session,s1}" ∷ "1" ∷ "== journal" ∷ "0 100 0 100 100 100 100 100 100 100 100 100 100 100 100 100 100 100 100 100 100 100 100 100 100 100 100 100 100 100 100 100 100 100 100 100 100 100 100 100 100 100 100 100 100 100 100 100 100 100 100 100 100 100 100 100 100 100 100 100 100 100 100 100 100 100 100" ∷ [])
unfolding is_written_bare digits
recursion_to_the_limit = refl

-- no form
empty : program_output (program
    []
    []
    [])
    []
    ≡ lines ("== replies" ∷ "== journal" ∷ "" ∷ [])
unfolding is_written_bare digits
empty = refl
