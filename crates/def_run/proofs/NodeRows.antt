-- Worked rows, computed: the node.
use Rattle.std.proofs.Common.{◌≡◌, [], ◌∷◌, refl, Some, None}
use Rattle.std.specs.Prelude.{codes}
use Rattle.std.specs.Fmt.{digits}
use Rattle.def_term.specs.Tree.{pid}
use Rattle.def_term.specs.Names.{word}
use Rattle.def_term.specs.Text.{is_written_bare}
use Rattle.def_script.specs.Program.{exit, Program, send, receive, call_remote, spawn, link, unlink, give_back, raise}
use Rattle.def_run.specs.Round.{round}
use Rattle.def_run.specs.Listing.{program_output}
use Rattle.def_run.proofs.Samples.{number, braces, brackets, function, internal, entry, call_unnamed, program, creates, sets, sets_function, lines, script_a}

-- partners are reported of an exit by rising pid
partners_by_rising_pid : program_output (program
    (function "go" [] (link (pid 102) ∷ link (pid 101) ∷ raise exit (word "boom") ∷ []) ∷ function "peer" [] (receive None ∷ []) ∷ [])
    (entry "go" [] ∷ entry "peer" [] ∷ entry "peer" [] ∷ [])
    (creates "s1" "t1" ∷ sets "s1" (word "all") ("procs" ∷ []) ∷ []))
    (0 ∷ 0 ∷ 100 ∷ 100 ∷ 100 ∷ 100 ∷ [])
    ≡ lines ("== session s1 tracer t1" ∷ "{trace,<0.100.0>,link,<0.102.0>}" ∷ "{trace,<0.102.0>,getting_linked,<0.100.0>}" ∷ "{trace,<0.100.0>,link,<0.101.0>}" ∷ "{trace,<0.101.0>,getting_linked,<0.100.0>}" ∷ "{trace,<0.100.0>,exit,boom}" ∷ "{trace,<0.101.0>,getting_unlinked,<0.100.0>}" ∷ "{trace,<0.102.0>,getting_unlinked,<0.100.0>}" ∷ "== replies" ∷ "{session,s1}" ∷ "3" ∷ "== journal" ∷ "0 0 100 100 100 100" ∷ [])
unfolding is_written_bare digits
partners_by_rising_pid = refl

-- an exit removes the links; the reason `normal` is no signal; a link to a dead process is the signal `noproc`
links_are_cut : program_output (program
    (function "go" [] (link (pid 101) ∷ []) ∷ function "peer" [] (link (pid 100) ∷ []) ∷ [])
    (entry "go" [] ∷ entry "peer" [] ∷ [])
    (creates "s1" "t1" ∷ sets "s1" (word "all") ("procs" ∷ []) ∷ []))
    (0 ∷ 0 ∷ 100 ∷ 100 ∷ 100 ∷ 101 ∷ 101 ∷ 101 ∷ [])
    ≡ lines ("== session s1 tracer t1" ∷ "{trace,<0.100.0>,link,<0.101.0>}" ∷ "{trace,<0.101.0>,getting_linked,<0.100.0>}" ∷ "{trace,<0.100.0>,exit,normal}" ∷ "{trace,<0.101.0>,getting_unlinked,<0.100.0>}" ∷ "{trace,<0.101.0>,link,<0.100.0>}" ∷ "{trace,<0.101.0>,exit,noproc}" ∷ "== replies" ∷ "{session,s1}" ∷ "2" ∷ "== journal" ∷ "0 0 100 100 100 101 101 101" ∷ [])
unfolding is_written_bare digits
links_are_cut = refl

-- the oldest signal is taken
oldest_signal : program_output (program
    (function "go" [] (link (pid 101) ∷ link (pid 199) ∷ []) ∷ function "peer" [] (raise exit (word "boom") ∷ []) ∷ [])
    (entry "go" [] ∷ entry "peer" [] ∷ [])
    (creates "s1" "t1" ∷ sets "s1" (word "all") ("procs" ∷ []) ∷ []))
    (0 ∷ 0 ∷ 100 ∷ 100 ∷ 100 ∷ 101 ∷ 101 ∷ 100 ∷ [])
    ≡ lines ("== session s1 tracer t1" ∷ "{trace,<0.100.0>,link,<0.101.0>}" ∷ "{trace,<0.101.0>,getting_linked,<0.100.0>}" ∷ "{trace,<0.100.0>,link,<0.199.0>}" ∷ "{trace,<0.101.0>,exit,boom}" ∷ "{trace,<0.100.0>,getting_unlinked,<0.101.0>}" ∷ "{trace,<0.100.0>,exit,noproc}" ∷ "== replies" ∷ "{session,s1}" ∷ "2" ∷ "== journal" ∷ "0 0 100 100 100 101 101 100" ∷ [])
unfolding is_written_bare digits
oldest_signal = refl

-- a later exit with the reason `noproc` does not overtake an older signal
older_signal_than_noproc : program_output (program
    (function "go" [] (link (pid 101) ∷ link (pid 102) ∷ []) ∷ function "peer" [] (raise exit (word "boom") ∷ []) ∷ function "other" [] (link (pid 199) ∷ []) ∷ [])
    (entry "go" [] ∷ entry "peer" [] ∷ entry "other" [] ∷ [])
    (creates "s1" "t1" ∷ sets "s1" (pid 100) ("procs" ∷ []) ∷ []))
    (0 ∷ 0 ∷ 100 ∷ 100 ∷ 100 ∷ 101 ∷ 101 ∷ 102 ∷ 102 ∷ 102 ∷ 100 ∷ [])
    ≡ lines ("== session s1 tracer t1" ∷ "{trace,<0.100.0>,link,<0.101.0>}" ∷ "{trace,<0.100.0>,link,<0.102.0>}" ∷ "{trace,<0.100.0>,getting_unlinked,<0.101.0>}" ∷ "{trace,<0.100.0>,getting_unlinked,<0.102.0>}" ∷ "{trace,<0.100.0>,exit,boom}" ∷ "== replies" ∷ "{session,s1}" ∷ "1" ∷ "== journal" ∷ "0 0 100 100 100 101 101 102 102 102 100" ∷ [])
unfolding is_written_bare digits
older_signal_than_noproc = refl

-- a pending signal is taken before anything else
signal_before_steps : program_output (program
    (function "go" [] (link (pid 101) ∷ send (word "Self") (word "x") ∷ []) ∷ function "peer" [] (raise exit (word "boom") ∷ []) ∷ [])
    (entry "go" [] ∷ entry "peer" [] ∷ [])
    (creates "s1" "t1" ∷ sets "s1" (word "all") ("procs" ∷ "send" ∷ []) ∷ []))
    (0 ∷ 0 ∷ 100 ∷ 100 ∷ 101 ∷ 101 ∷ 100 ∷ [])
    ≡ lines ("== session s1 tracer t1" ∷ "{trace,<0.100.0>,link,<0.101.0>}" ∷ "{trace,<0.101.0>,getting_linked,<0.100.0>}" ∷ "{trace,<0.101.0>,exit,boom}" ∷ "{trace,<0.100.0>,getting_unlinked,<0.101.0>}" ∷ "{trace,<0.100.0>,exit,boom}" ∷ "== replies" ∷ "{session,s1}" ∷ "2" ∷ "== journal" ∷ "0 0 100 100 101 101 100" ∷ [])
unfolding is_written_bare digits
signal_before_steps = refl

-- a link to itself, a second link, unlink where no link is
links_and_unlinks : program_output (program
    (function "go" [] (link (word "Self") ∷ link (pid 101) ∷ link (pid 101) ∷ unlink (pid 101) ∷ unlink (pid 101) ∷ unlink (word "Self") ∷ raise exit (word "bye") ∷ []) ∷ function "peer" [] (receive None ∷ []) ∷ [])
    (entry "go" [] ∷ entry "peer" [] ∷ [])
    (creates "s1" "t1" ∷ sets "s1" (word "all") ("procs" ∷ []) ∷ []))
    (0 ∷ 0 ∷ 100 ∷ 100 ∷ 100 ∷ 100 ∷ 100 ∷ 100 ∷ 100 ∷ 100 ∷ [])
    ≡ lines ("== session s1 tracer t1" ∷ "{trace,<0.100.0>,link,<0.101.0>}" ∷ "{trace,<0.101.0>,getting_linked,<0.100.0>}" ∷ "{trace,<0.100.0>,link,<0.101.0>}" ∷ "{trace,<0.100.0>,unlink,<0.101.0>}" ∷ "{trace,<0.101.0>,getting_unlinked,<0.100.0>}" ∷ "{trace,<0.100.0>,unlink,<0.101.0>}" ∷ "{trace,<0.100.0>,exit,bye}" ∷ "== replies" ∷ "{session,s1}" ∷ "2" ∷ "== journal" ∷ "0 0 100 100 100 100 100 100 100 100" ∷ [])
unfolding is_written_bare digits
links_and_unlinks = refl

-- returned values, messages, `Self`, and a variable bound again
values_of_variables : program_output (program
    (function "go" [] (call_remote (Some (codes "X")) (codes "m") (codes "id") (number 1 ∷ []) ∷ send (word "Self") (word "X") ∷ receive (Some (codes "Y")) ∷ call_remote (Some (codes "X")) (codes "m") (codes "id") (braces (word "X" ∷ word "Y" ∷ word "Self" ∷ []) ∷ []) ∷ raise exit (word "X") ∷ []) ∷ function "id" ("X" ∷ []) (give_back (word "X") ∷ []) ∷ [])
    (entry "go" [] ∷ [])
    (creates "s1" "t1" ∷ sets "s1" (word "all") ("procs" ∷ []) ∷ []))
    (0 ∷ 0 ∷ 100 ∷ 100 ∷ 100 ∷ 100 ∷ 100 ∷ 100 ∷ 100 ∷ 100 ∷ [])
    ≡ lines ("== session s1 tracer t1" ∷ "{trace,<0.100.0>,exit,{1,1,<0.100.0>}}" ∷ "== replies" ∷ "{session,s1}" ∷ "1" ∷ "== journal" ∷ "0 0 100 100 100 100 100 100 100 100" ∷ [])
unfolding is_written_bare digits
values_of_variables = refl

-- after the last step a return of `ok`
steps_used_up : program_output (program
    (function "go" [] (call_remote (Some (codes "X")) (codes "m") (codes "noop") [] ∷ spawn (Some (codes "Y")) (codes "m") (codes "noop") [] ∷ raise exit (brackets (word "X" ∷ word "Y" ∷ [])) ∷ []) ∷ function "noop" [] [] ∷ [])
    (entry "go" [] ∷ [])
    (creates "s1" "t1" ∷ sets "s1" (word "all") ("procs" ∷ []) ∷ []))
    (0 ∷ 0 ∷ 100 ∷ 100 ∷ 100 ∷ 100 ∷ 100 ∷ [])
    ≡ lines ("== session s1 tracer t1" ∷ "{trace,<0.100.0>,spawn,<0.101.0>,{m,noop,[]}}" ∷ "{trace,<0.101.0>,spawned,<0.100.0>,{m,noop,[]}}" ∷ "{trace,<0.100.0>,exit,[ok,<0.101.0>]}" ∷ "== replies" ∷ "{session,s1}" ∷ "1" ∷ "== journal" ∷ "0 0 100 100 100 100 100" ∷ [])
unfolding is_written_bare digits
steps_used_up = refl

-- the first message is taken first
messages_in_order : program_output (program
    (function "go" [] (send (word "Self") (word "a") ∷ send (word "Self") (word "b") ∷ receive (Some (codes "X")) ∷ receive (Some (codes "Y")) ∷ raise exit (braces (word "X" ∷ word "Y" ∷ [])) ∷ []) ∷ [])
    (entry "go" [] ∷ [])
    (creates "s1" "t1" ∷ sets "s1" (word "all") ("procs" ∷ []) ∷ []))
    (0 ∷ 0 ∷ 100 ∷ 100 ∷ 100 ∷ 100 ∷ 100 ∷ 100 ∷ [])
    ≡ lines ("== session s1 tracer t1" ∷ "{trace,<0.100.0>,exit,{a,b}}" ∷ "== replies" ∷ "{session,s1}" ∷ "1" ∷ "== journal" ∷ "0 0 100 100 100 100 100 100" ∷ [])
unfolding is_written_bare digits
messages_in_order = refl

-- a send to what is no pid, a link to it, and an unlink
send_to_no_pid : program_output (program
    (function "a" [] (send (word "a") (word "x") ∷ []) ∷ function "b" [] (link (number 1) ∷ []) ∷ function "c" [] (unlink (brackets []) ∷ []) ∷ [])
    (entry "a" [] ∷ entry "b" [] ∷ entry "c" [] ∷ [])
    (creates "s1" "t1" ∷ sets "s1" (word "all") ("procs" ∷ []) ∷ []))
    (0 ∷ 0 ∷ 100 ∷ 100 ∷ 101 ∷ 101 ∷ 102 ∷ 102 ∷ [])
    ≡ lines ("== session s1 tracer t1" ∷ "{trace,<0.100.0>,exit,badarg}" ∷ "{trace,<0.101.0>,exit,badarg}" ∷ "{trace,<0.102.0>,exit,badarg}" ∷ "== replies" ∷ "{session,s1}" ∷ "3" ∷ "== journal" ∷ "0 0 100 100 101 101 102 102" ∷ [])
unfolding is_written_bare digits
send_to_no_pid = refl

-- the limits on a built term come before its kind
limits_before_kinds : program_output (program
    (function "go" ("X" ∷ []) (send (word "a") (brackets (brackets (brackets (word "X" ∷ []) ∷ []) ∷ [])) ∷ []) ∷ [])
    (entry "go" (brackets (brackets (brackets (brackets (brackets (brackets (brackets (brackets (brackets (brackets (brackets (brackets (brackets (brackets (brackets (brackets (brackets (brackets (brackets (brackets (brackets (brackets (brackets (brackets (brackets (brackets (brackets (brackets (brackets (brackets [] ∷ []) ∷ []) ∷ []) ∷ []) ∷ []) ∷ []) ∷ []) ∷ []) ∷ []) ∷ []) ∷ []) ∷ []) ∷ []) ∷ []) ∷ []) ∷ []) ∷ []) ∷ []) ∷ []) ∷ []) ∷ []) ∷ []) ∷ []) ∷ []) ∷ []) ∷ []) ∷ []) ∷ []) ∷ []) ∷ []) ∷ [])
    (creates "s1" "t1" ∷ sets "s1" (word "all") ("procs" ∷ []) ∷ []))
    (0 ∷ 0 ∷ 100 ∷ 100 ∷ [])
    ≡ lines ("== session s1 tracer t1" ∷ "{trace,<0.100.0>,exit,system_limit}" ∷ "== replies" ∷ "{session,s1}" ∷ "1" ∷ "== journal" ∷ "0 0 100 100" ∷ [])
unfolding is_written_bare digits
limits_before_kinds = refl

-- a call that does not name the module is of an internal function too, which a local setting alone concerns
unnamed_calls : program_output (program
    (function "go" [] (call_unnamed "h" (number 1 ∷ []) ∷ call_unnamed "f" (number 2 ∷ []) ∷ []) ∷ internal "h" ("X" ∷ []) (give_back (word "X") ∷ []) ∷ function "f" ("X" ∷ []) (give_back (word "X") ∷ []) ∷ [])
    (entry "go" [] ∷ [])
    (creates "s1" "t1" ∷ creates "s2" "t2" ∷ sets "s1" (word "all") ("call" ∷ []) ∷ sets "s2" (word "all") ("call" ∷ []) ∷ sets_function "s1" (braces (word "m" ∷ word "_" ∷ word "_" ∷ [])) (word "true") ("local" ∷ []) ∷ sets_function "s2" (braces (word "m" ∷ word "_" ∷ word "_" ∷ [])) (word "true") ("global" ∷ []) ∷ []))
    (0 ∷ 0 ∷ 0 ∷ 0 ∷ 0 ∷ 0 ∷ 100 ∷ 100 ∷ 100 ∷ 100 ∷ 100 ∷ [])
    ≡ lines ("== session s1 tracer t1" ∷ "{trace,<0.100.0>,call,{m,go,[]}}" ∷ "{trace,<0.100.0>,call,{m,h,[1]}}" ∷ "{trace,<0.100.0>,call,{m,f,[2]}}" ∷ "== session s2 tracer t2" ∷ "{trace,<0.100.0>,call,{m,go,[]}}" ∷ "== replies" ∷ "{session,s1}" ∷ "{session,s2}" ∷ "1" ∷ "1" ∷ "3" ∷ "2" ∷ "== journal" ∷ "0 0 0 0 0 0 100 100 100 100 100" ∷ [])
unfolding is_written_bare digits
unnamed_calls = refl

-- a round of at most three picks
abbrev round_of_three_program : Program
round_of_three_program = script_a (pid 101) (creates "s1" "t1" ∷ sets "s1" (word "all") ("send" ∷ []) ∷ [])

round_of_three : program_output round_of_three_program (round round_of_three_program 3)
    ≡ lines ("== session s1 tracer t1" ∷ "== replies" ∷ "{session,s1}" ∷ "== journal" ∷ "0 100 101" ∷ [])
unfolding is_written_bare digits
round_of_three = refl

-- and of none
abbrev round_of_none_program : Program
round_of_none_program = script_a (pid 101) (creates "s1" "t1" ∷ sets "s1" (word "all") ("send" ∷ []) ∷ [])

round_of_none : program_output round_of_none_program (round round_of_none_program 0)
    ≡ lines ("== session s1 tracer t1" ∷ "== replies" ∷ "== journal" ∷ "" ∷ [])
unfolding is_written_bare digits
round_of_none = refl
