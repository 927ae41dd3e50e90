-- Worked rows, computed: settings of sends and receives, flags and inheritance.
use Rattle.std.proofs.Common.{◌≡◌, [], ◌∷◌, refl, None}
use Rattle.std.specs.Fmt.{digits}
use Rattle.def_term.specs.Tree.{pid}
use Rattle.def_term.specs.Names.{word}
use Rattle.def_term.specs.Text.{is_written_bare}
use Rattle.def_script.specs.Program.{send, receive, link}
use Rattle.def_run.specs.Listing.{program_output}
use Rattle.def_run.proofs.Samples.{number, braces, brackets, function, entry, spawns, program, creates, sets, sets_send, sets_receive, lines, script_a}

-- `silent` inhibits no send
silent_sends : program_output (script_a (pid 101) (creates "s1" "t1" ∷ sets "s1" (word "all") ("send" ∷ "silent" ∷ []) ∷ []))
    (0 ∷ 0 ∷ 100 ∷ 100 ∷ [])
    ≡ lines ("== session s1 tracer t1" ∷ "{trace,<0.100.0>,send,{hi,1},<0.101.0>}" ∷ "== replies" ∷ "{session,s1}" ∷ "2" ∷ "== journal" ∷ "0 0 100 100" ∷ [])
unfolding is_written_bare digits
silent_sends = refl

-- `false` for sends, and for receives
send_and_receive_disabled : program_output (script_a (pid 101) (creates "s1" "t1" ∷ creates "s2" "t2" ∷ sets "s1" (word "all") ("send" ∷ "receive" ∷ []) ∷ sets "s2" (word "all") ("send" ∷ "receive" ∷ []) ∷ sets_send "s1" (word "false") ∷ sets_receive "s2" (word "false") ∷ []))
    (0 ∷ 0 ∷ 0 ∷ 0 ∷ 0 ∷ 0 ∷ 100 ∷ 100 ∷ [])
    ≡ lines ("== session s1 tracer t1" ∷ "{trace,<0.101.0>,'receive',{hi,1}}" ∷ "== session s2 tracer t2" ∷ "{trace,<0.100.0>,send,{hi,1},<0.101.0>}" ∷ "== replies" ∷ "{session,s1}" ∷ "{session,s2}" ∷ "2" ∷ "2" ∷ "1" ∷ "1" ∷ "== journal" ∷ "0 0 0 0 0 0 100 100" ∷ [])
unfolding is_written_bare digits
send_and_receive_disabled = refl

-- `[]` and `true` for both
send_and_receive_again : program_output (script_a (pid 101) (creates "s1" "t1" ∷ sets "s1" (word "all") ("send" ∷ "receive" ∷ []) ∷ sets_send "s1" (word "false") ∷ sets_receive "s1" (word "false") ∷ sets_send "s1" (brackets []) ∷ sets_receive "s1" (word "true") ∷ []))
    (0 ∷ 0 ∷ 0 ∷ 0 ∷ 0 ∷ 0 ∷ 100 ∷ 100 ∷ [])
    ≡ lines ("== session s1 tracer t1" ∷ "{trace,<0.100.0>,send,{hi,1},<0.101.0>}" ∷ "{trace,<0.101.0>,'receive',{hi,1}}" ∷ "== replies" ∷ "{session,s1}" ∷ "2" ∷ "1" ∷ "1" ∷ "1" ∷ "1" ∷ "== journal" ∷ "0 0 0 0 0 0 100 100" ∷ [])
unfolding is_written_bare digits
send_and_receive_again = refl

-- the lists of a send and of a receive
lists_that_are_matched : program_output (script_a (pid 101) (creates "s1" "t1" ∷ sets "s1" (word "all") ("send" ∷ "receive" ∷ []) ∷ sets_send "s1" (brackets (braces (brackets (word "$1" ∷ word "$2" ∷ []) ∷ brackets [] ∷ brackets (braces (word "message" ∷ brackets (braces (word "self" ∷ []) ∷ word "$1" ∷ word "$2" ∷ []) ∷ []) ∷ []) ∷ []) ∷ [])) ∷ sets_receive "s1" (brackets (braces (brackets (word "$1" ∷ word "$2" ∷ word "$3" ∷ []) ∷ brackets [] ∷ brackets (braces (word "message" ∷ brackets (braces (word "self" ∷ []) ∷ word "$1" ∷ word "$2" ∷ word "$3" ∷ []) ∷ []) ∷ []) ∷ []) ∷ [])) ∷ []))
    (0 ∷ 0 ∷ 0 ∷ 0 ∷ 100 ∷ 100 ∷ [])
    ≡ lines ("== session s1 tracer t1" ∷ "{trace,<0.100.0>,send,{hi,1},<0.101.0>,[<0.100.0>,<0.101.0>,{hi,1}]}" ∷ "{trace,<0.101.0>,'receive',{hi,1},[<0.101.0>,nonode@nohost,<0.100.0>,{hi,1}]}" ∷ "== replies" ∷ "{session,s1}" ∷ "2" ∷ "1" ∷ "1" ∷ "== journal" ∷ "0 0 0 0 100 100" ∷ [])
unfolding is_written_bare digits
lists_that_are_matched = refl

-- no clause, no message
send_that_does_not_match : program_output (script_a (pid 101) (creates "s1" "t1" ∷ sets "s1" (word "all") ("send" ∷ []) ∷ sets_send "s1" (brackets (braces (brackets (word "_" ∷ braces (word "hi" ∷ number 2 ∷ []) ∷ []) ∷ brackets [] ∷ brackets [] ∷ []) ∷ [])) ∷ []))
    (0 ∷ 0 ∷ 0 ∷ 100 ∷ 100 ∷ [])
    ≡ lines ("== session s1 tracer t1" ∷ "== replies" ∷ "{session,s1}" ∷ "2" ∷ "1" ∷ "== journal" ∷ "0 0 0 100 100" ∷ [])
unfolding is_written_bare digits
send_that_does_not_match = refl

-- flags for `existing`, `new` and `all` processes
existing_new_and_all : program_output (program
    (function "go" [] (spawns "kid" [] ∷ []) ∷ function "kid" [] [] ∷ [])
    (entry "go" [] ∷ [])
    (creates "s1" "t1" ∷ creates "s2" "t2" ∷ creates "s3" "t3" ∷ sets "s1" (word "existing") ("procs" ∷ []) ∷ sets "s2" (word "new") ("procs" ∷ []) ∷ sets "s3" (word "all") ("procs" ∷ []) ∷ []))
    (0 ∷ 0 ∷ 0 ∷ 0 ∷ 0 ∷ 0 ∷ 100 ∷ 100 ∷ 100 ∷ 101 ∷ 101 ∷ [])
    ≡ lines ("== session s1 tracer t1" ∷ "{trace,<0.100.0>,spawn,<0.101.0>,{m,kid,[]}}" ∷ "{trace,<0.100.0>,exit,normal}" ∷ "== session s2 tracer t2" ∷ "{trace,<0.101.0>,spawned,<0.100.0>,{m,kid,[]}}" ∷ "{trace,<0.101.0>,exit,normal}" ∷ "== session s3 tracer t3" ∷ "{trace,<0.100.0>,spawn,<0.101.0>,{m,kid,[]}}" ∷ "{trace,<0.101.0>,spawned,<0.100.0>,{m,kid,[]}}" ∷ "{trace,<0.100.0>,exit,normal}" ∷ "{trace,<0.101.0>,exit,normal}" ∷ "== replies" ∷ "{session,s1}" ∷ "{session,s2}" ∷ "{session,s3}" ∷ "1" ∷ "0" ∷ "1" ∷ "== journal" ∷ "0 0 0 0 0 0 100 100 100 101 101" ∷ [])
unfolding is_written_bare digits
existing_new_and_all = refl

-- `set_on_spawn` is inherited with the others, beside the flags for new processes
set_on_spawn : program_output (program
    (function "go" [] (spawns "kid" [] ∷ []) ∷ function "kid" [] (spawns "leaf" [] ∷ send (pid 100) (word "x") ∷ []) ∷ function "leaf" [] [] ∷ [])
    (entry "go" [] ∷ [])
    (creates "s1" "t1" ∷ sets "s1" (pid 100) ("procs" ∷ "set_on_spawn" ∷ []) ∷ sets "s1" (word "new") ("send" ∷ []) ∷ []))
    (0 ∷ 0 ∷ 0 ∷ 100 ∷ 100 ∷ 101 ∷ 101 ∷ 101 ∷ 102 ∷ 102 ∷ [])
    ≡ lines ("== session s1 tracer t1" ∷ "{trace,<0.100.0>,spawn,<0.101.0>,{m,kid,[]}}" ∷ "{trace,<0.101.0>,spawned,<0.100.0>,{m,kid,[]}}" ∷ "{trace,<0.101.0>,spawn,<0.102.0>,{m,leaf,[]}}" ∷ "{trace,<0.102.0>,spawned,<0.101.0>,{m,leaf,[]}}" ∷ "{trace,<0.101.0>,send,x,<0.100.0>}" ∷ "{trace,<0.102.0>,exit,normal}" ∷ "== replies" ∷ "{session,s1}" ∷ "1" ∷ "0" ∷ "== journal" ∷ "0 0 0 100 100 101 101 101 102 102" ∷ [])
unfolding is_written_bare digits
set_on_spawn = refl

-- with both flags neither is inherited, and both are lost
set_on_spawn_and_first_spawn : program_output (program
    (function "go" [] (spawns "kid" [] ∷ spawns "kid" [] ∷ []) ∷ function "kid" [] (spawns "leaf" [] ∷ []) ∷ function "leaf" [] [] ∷ [])
    (entry "go" [] ∷ [])
    (creates "s1" "t1" ∷ sets "s1" (pid 100) ("procs" ∷ "set_on_spawn" ∷ "set_on_first_spawn" ∷ []) ∷ []))
    (0 ∷ 0 ∷ 100 ∷ 100 ∷ 100 ∷ 101 ∷ 101 ∷ [])
    ≡ lines ("== session s1 tracer t1" ∷ "{trace,<0.100.0>,spawn,<0.101.0>,{m,kid,[]}}" ∷ "{trace,<0.101.0>,spawned,<0.100.0>,{m,kid,[]}}" ∷ "{trace,<0.100.0>,spawn,<0.102.0>,{m,kid,[]}}" ∷ "{trace,<0.101.0>,spawn,<0.103.0>,{m,leaf,[]}}" ∷ "== replies" ∷ "{session,s1}" ∷ "1" ∷ "== journal" ∷ "0 0 100 100 100 101 101" ∷ [])
unfolding is_written_bare digits
set_on_spawn_and_first_spawn = refl

-- `arity` shortens no message but a call
arity_of_calls_alone : program_output (program
    (function "go" [] (spawns "kid" (number 7 ∷ []) ∷ []) ∷ function "kid" ("X" ∷ []) [] ∷ [])
    (entry "go" [] ∷ [])
    (creates "s1" "t1" ∷ sets "s1" (word "all") ("procs" ∷ "arity" ∷ []) ∷ []))
    (0 ∷ 0 ∷ 100 ∷ 100 ∷ [])
    ≡ lines ("== session s1 tracer t1" ∷ "{trace,<0.100.0>,spawn,<0.101.0>,{m,kid,[7]}}" ∷ "{trace,<0.101.0>,spawned,<0.100.0>,{m,kid,[7]}}" ∷ "== replies" ∷ "{session,s1}" ∷ "1" ∷ "== journal" ∷ "0 0 100 100" ∷ [])
unfolding is_written_bare digits
arity_of_calls_alone = refl

-- `set_on_first_link` concerns the first link alone
set_on_first_link : program_output (program
    (function "go" [] (link (pid 101) ∷ link (pid 102) ∷ []) ∷ function "peer" [] (receive None ∷ []) ∷ [])
    (entry "go" [] ∷ entry "peer" [] ∷ entry "peer" [] ∷ [])
    (creates "s1" "t1" ∷ sets "s1" (pid 100) ("procs" ∷ "set_on_first_link" ∷ []) ∷ []))
    (0 ∷ 0 ∷ 100 ∷ 100 ∷ 100 ∷ [])
    ≡ lines ("== session s1 tracer t1" ∷ "{trace,<0.100.0>,link,<0.101.0>}" ∷ "{trace,<0.101.0>,getting_linked,<0.100.0>}" ∷ "{trace,<0.100.0>,link,<0.102.0>}" ∷ "== replies" ∷ "{session,s1}" ∷ "1" ∷ "== journal" ∷ "0 0 100 100 100" ∷ [])
unfolding is_written_bare digits
set_on_first_link = refl
