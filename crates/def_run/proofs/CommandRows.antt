-- Worked rows, computed: commands and their replies.
use Rattle.std.proofs.Common.{◌≡◌, [], ◌∷◌, refl, negsuc}
use Rattle.std.specs.Prelude.{codes}
use Rattle.std.specs.Fmt.{digits}
use Rattle.def_term.specs.Tree.{int, pid}
use Rattle.def_term.specs.Names.{word}
use Rattle.def_term.specs.Text.{is_written_bare}
use Rattle.def_script.specs.Program.{set_processes}
use Rattle.def_run.specs.Listing.{program_output}
use Rattle.def_run.proofs.Samples.{number, braces, brackets, function, internal, entry, program, creates, destroys, sets, clears, mfa_of, sets_function, sets_send, sets_receive, lines}

-- the functions that a command covers, and its options
functions_that_are_covered : program_output (program
    (function "go" [] [] ∷ function "f" ("X" ∷ []) [] ∷ internal "f" ("X" ∷ "Y" ∷ []) [] ∷ [])
    (entry "go" [] ∷ [])
    (creates "s1" "t1" ∷ sets_function "s1" (mfa_of "f" 1) (word "true") [] ∷ sets_function "s1" (mfa_of "f" 2) (word "true") [] ∷ sets_function "s1" (mfa_of "f" 2) (word "true") ("local" ∷ []) ∷ sets_function "s1" (braces (word "m" ∷ word "f" ∷ word "_" ∷ [])) (word "true") ("global" ∷ []) ∷ sets_function "s1" (braces (word "m" ∷ word "f" ∷ word "_" ∷ [])) (word "false") ("local" ∷ []) ∷ sets_function "s1" (braces (word "m" ∷ word "_" ∷ word "_" ∷ [])) (brackets []) [] ∷ sets_function "s1" (braces (word "m" ∷ word "_" ∷ word "_" ∷ [])) (word "true") ("local" ∷ []) ∷ sets_function "s1" (braces (word "_" ∷ word "_" ∷ word "_" ∷ [])) (word "true") ("local" ∷ []) ∷ sets_function "s1" (braces (word "n" ∷ word "_" ∷ word "_" ∷ [])) (word "true") [] ∷ sets_function "s1" (mfa_of "_" 1) (word "true") [] ∷ sets_function "s1" (braces (word "_" ∷ word "f" ∷ number 1 ∷ [])) (word "true") [] ∷ sets_function "s1" (mfa_of "f" 255) (word "true") [] ∷ sets_function "s1" (mfa_of "f" 256) (word "true") [] ∷ sets_function "s1" (braces (word "m" ∷ word "f" ∷ int (negsuc 0) ∷ [])) (word "true") [] ∷ sets_function "s1" (braces (word "m" ∷ word "f" ∷ [])) (word "true") [] ∷ sets_function "s1" (braces (word "m" ∷ number 1 ∷ number 1 ∷ [])) (word "true") [] ∷ sets_function "s1" (mfa_of "f" 1) (word "true") ("nope" ∷ []) ∷ sets_function "s1" (mfa_of "f" 1) (word "true") ("local" ∷ "global" ∷ []) ∷ sets_function "s1" (mfa_of "f" 1) (brackets (braces (word "_" ∷ brackets [] ∷ brackets (braces (word "is_record" ∷ word "a" ∷ []) ∷ []) ∷ []) ∷ [])) ("nope" ∷ []) ∷ sets_function "s1" (mfa_of "f" 1) (word "yes") [] ∷ []))
    (0 ∷ 0 ∷ 0 ∷ 0 ∷ 0 ∷ 0 ∷ 0 ∷ 0 ∷ 0 ∷ 0 ∷ 0 ∷ 0 ∷ 0 ∷ 0 ∷ 0 ∷ 0 ∷ 0 ∷ 0 ∷ 0 ∷ 0 ∷ 0 ∷ [])
    ≡ lines ("== session s1 tracer t1" ∷ "== replies" ∷ "{session,s1}" ∷ "1" ∷ "0" ∷ "1" ∷ "1" ∷ "2" ∷ "2" ∷ "3" ∷ "3" ∷ "0" ∷ "badarg" ∷ "badarg" ∷ "0" ∷ "badarg" ∷ "badarg" ∷ "badarg" ∷ "badarg" ∷ "badarg" ∷ "badarg" ∷ "badarg" ∷ "badarg" ∷ "== journal" ∷ "0 0 0 0 0 0 0 0 0 0 0 0 0 0 0 0 0 0 0 0 0" ∷ [])
unfolding is_written_bare digits
functions_that_are_covered = refl

-- flags of processes, and what is refused
flags_of_processes : program_output (program
    (function "go" [] [] ∷ [])
    (entry "go" [] ∷ entry "go" [] ∷ [])
    (creates "s1" "t1" ∷ sets "s1" (pid 100) ("send" ∷ []) ∷ sets "s1" (pid 102) ("send" ∷ []) ∷ sets "s1" (pid 99) ("send" ∷ []) ∷ sets "s1" (word "existing") ("send" ∷ []) ∷ sets "s1" (word "new") ("send" ∷ []) ∷ clears "s1" (word "all") ("send" ∷ "receive" ∷ "call" ∷ "procs" ∷ "silent" ∷ "arity" ∷ "set_on_spawn" ∷ "set_on_first_spawn" ∷ "set_on_link" ∷ "set_on_first_link" ∷ []) ∷ sets "s1" (word "none") ("send" ∷ []) ∷ set_processes (codes "s1") (word "all") (word "maybe") (brackets (word "send" ∷ [])) ∷ sets "s1" (word "all") ("send" ∷ "nope" ∷ []) ∷ set_processes (codes "s1") (word "all") (word "true") (word "send") ∷ sets "s1" (word "all") [] ∷ destroys "s1" ∷ sets "s1" (word "all") ("send" ∷ []) ∷ sets_function "s1" (mfa_of "go" 0) (word "true") [] ∷ sets_send "s1" (word "true") ∷ sets_receive "s1" (word "true") ∷ destroys "s1" ∷ []))
    (0 ∷ 0 ∷ 0 ∷ 0 ∷ 0 ∷ 0 ∷ 0 ∷ 0 ∷ 0 ∷ 0 ∷ 0 ∷ 0 ∷ 0 ∷ 0 ∷ 0 ∷ 0 ∷ 0 ∷ 0 ∷ [])
    ≡ lines ("== session s1 tracer t1" ∷ "== replies" ∷ "{session,s1}" ∷ "1" ∷ "badarg" ∷ "badarg" ∷ "2" ∷ "0" ∷ "2" ∷ "badarg" ∷ "badarg" ∷ "badarg" ∷ "badarg" ∷ "2" ∷ "true" ∷ "badarg" ∷ "badarg" ∷ "badarg" ∷ "badarg" ∷ "false" ∷ "== journal" ∷ "0 0 0 0 0 0 0 0 0 0 0 0 0 0 0 0 0 0" ∷ [])
unfolding is_written_bare digits
flags_of_processes = refl

-- the first fault of a specification
specifications_that_are_refused : program_output (program
    (function "go" [] [] ∷ [])
    (entry "go" [] ∷ [])
    (creates "s1" "t1" ∷ sets_function "s1" (mfa_of "go" 0) (brackets (braces (word "foo" ∷ brackets [] ∷ brackets [] ∷ []) ∷ [])) [] ∷ sets_function "s1" (mfa_of "go" 0) (brackets (braces (brackets (word "$1000" ∷ []) ∷ brackets [] ∷ brackets [] ∷ []) ∷ [])) [] ∷ sets_function "s1" (mfa_of "go" 0) (brackets (braces (brackets (word "$01" ∷ []) ∷ brackets [] ∷ brackets [] ∷ []) ∷ [])) [] ∷ sets_function "s1" (mfa_of "go" 0) (brackets (braces (brackets (word "$999" ∷ []) ∷ brackets [] ∷ brackets [] ∷ []) ∷ [])) [] ∷ sets_function "s1" (mfa_of "go" 0) (brackets (braces (word "$0" ∷ brackets [] ∷ brackets (word "$0" ∷ []) ∷ []) ∷ [])) [] ∷ sets_function "s1" (mfa_of "go" 0) (brackets (braces (word "_" ∷ brackets [] ∷ brackets (braces (word "message" ∷ number 1 ∷ number 2 ∷ []) ∷ []) ∷ []) ∷ [])) [] ∷ sets_function "s1" (mfa_of "go" 0) (brackets (braces (word "_" ∷ brackets (braces (word "message" ∷ number 1 ∷ []) ∷ []) ∷ brackets [] ∷ []) ∷ [])) [] ∷ sets_function "s1" (mfa_of "go" 0) (brackets (braces (word "_" ∷ brackets (braces (word "andalso" ∷ braces (word "message" ∷ number 1 ∷ []) ∷ []) ∷ []) ∷ brackets [] ∷ []) ∷ [])) [] ∷ sets_function "s1" (mfa_of "go" 0) (brackets (braces (word "_" ∷ brackets [] ∷ brackets (braces [] ∷ []) ∷ []) ∷ [])) [] ∷ sets_function "s1" (mfa_of "go" 0) (brackets (braces (word "_" ∷ brackets [] ∷ brackets (braces (number 1 ∷ []) ∷ []) ∷ []) ∷ [])) [] ∷ sets_function "s1" (mfa_of "go" 0) (brackets (braces (word "_" ∷ brackets [] ∷ brackets (braces (word "nope" ∷ []) ∷ []) ∷ []) ∷ [])) [] ∷ sets_function "s1" (mfa_of "go" 0) (brackets (braces (word "_" ∷ brackets [] ∷ brackets (braces (word "is_record" ∷ braces (word "nope" ∷ []) ∷ []) ∷ []) ∷ []) ∷ [])) [] ∷ sets_function "s1" (mfa_of "go" 0) (brackets (braces (word "_" ∷ brackets (braces (word "nope" ∷ []) ∷ []) ∷ brackets (braces (word "is_record" ∷ word "a" ∷ word "b" ∷ []) ∷ []) ∷ []) ∷ [])) [] ∷ sets_function "s1" (mfa_of "go" 0) (brackets (braces (word "foo" ∷ brackets [] ∷ brackets (braces (word "is_record" ∷ word "a" ∷ []) ∷ []) ∷ []) ∷ [])) [] ∷ sets_function "s1" (mfa_of "go" 0) (brackets (braces (word "_" ∷ brackets [] ∷ brackets (braces (word "is_record" ∷ number 1 ∷ []) ∷ braces (word "nope" ∷ []) ∷ []) ∷ []) ∷ [])) [] ∷ sets_function "s1" (mfa_of "go" 0) (brackets (braces (word "_" ∷ brackets [] ∷ brackets (braces (word "hd" ∷ braces (word "is_record" ∷ number 1 ∷ []) ∷ []) ∷ []) ∷ []) ∷ [])) [] ∷ sets_function "s1" (mfa_of "go" 0) (brackets (braces (word "_" ∷ brackets [] ∷ brackets (braces (word "hd" ∷ braces (word "is_record" ∷ number 1 ∷ []) ∷ number 2 ∷ []) ∷ []) ∷ []) ∷ [])) [] ∷ sets_function "s1" (mfa_of "go" 0) (brackets (braces (word "_" ∷ brackets [] ∷ brackets [] ∷ []) ∷ braces (word "foo" ∷ brackets [] ∷ brackets [] ∷ []) ∷ [])) [] ∷ []))
    (0 ∷ 0 ∷ 0 ∷ 0 ∷ 0 ∷ 0 ∷ 0 ∷ 0 ∷ 0 ∷ 0 ∷ 0 ∷ 0 ∷ 0 ∷ 0 ∷ 0 ∷ 0 ∷ 0 ∷ 0 ∷ 0 ∷ [])
    ≡ lines ("== session s1 tracer t1" ∷ "== replies" ∷ "{session,s1}" ∷ "badarg" ∷ "badarg" ∷ "badarg" ∷ "1" ∷ "1" ∷ "badarg" ∷ "badarg" ∷ "badarg" ∷ "badarg" ∷ "badarg" ∷ "badarg" ∷ "{unsupported,is_record}" ∷ "badarg" ∷ "badarg" ∷ "{unsupported,is_record}" ∷ "{unsupported,is_record}" ∷ "badarg" ∷ "badarg" ∷ "== journal" ∷ "0 0 0 0 0 0 0 0 0 0 0 0 0 0 0 0 0 0 0" ∷ [])
unfolding is_written_bare digits
specifications_that_are_refused = refl

-- shapes, variables and numbers of arguments
more_specifications_that_are_refused : program_output (program
    (function "go" [] [] ∷ [])
    (entry "go" [] ∷ [])
    (creates "s1" "t1" ∷ sets_function "s1" (mfa_of "go" 0) (brackets (braces (word "_" ∷ brackets [] ∷ brackets (word "$1" ∷ []) ∷ []) ∷ [])) [] ∷ sets_function "s1" (mfa_of "go" 0) (brackets (braces (brackets (word "$1" ∷ []) ∷ brackets [] ∷ brackets (word "$01" ∷ []) ∷ []) ∷ [])) [] ∷ sets_function "s1" (mfa_of "go" 0) (brackets (braces (brackets (word "$1" ∷ []) ∷ brackets [] ∷ brackets (braces (word "const" ∷ word "$01" ∷ []) ∷ []) ∷ []) ∷ [])) [] ∷ sets_function "s1" (mfa_of "go" 0) (brackets (braces (brackets (word "$1" ∷ []) ∷ brackets [] ∷ brackets (braces (word "const" ∷ number 1 ∷ number 2 ∷ []) ∷ []) ∷ []) ∷ [])) [] ∷ sets_function "s1" (mfa_of "go" 0) (brackets (braces (word "_" ∷ brackets [] ∷ []) ∷ [])) [] ∷ sets_function "s1" (mfa_of "go" 0) (brackets (braces (word "_" ∷ brackets [] ∷ word "x" ∷ []) ∷ [])) [] ∷ sets_function "s1" (mfa_of "go" 0) (brackets (braces (word "_" ∷ word "x" ∷ brackets [] ∷ []) ∷ [])) [] ∷ sets_function "s1" (mfa_of "go" 0) (brackets (word "x" ∷ [])) [] ∷ sets_function "s1" (mfa_of "go" 0) (braces (word "x" ∷ [])) [] ∷ sets_function "s1" (mfa_of "go" 0) (brackets (braces (word "_" ∷ brackets [] ∷ brackets (braces (word "self" ∷ number 1 ∷ []) ∷ []) ∷ []) ∷ [])) [] ∷ sets_function "s1" (mfa_of "go" 0) (brackets (braces (word "_" ∷ brackets [] ∷ brackets (braces (word "node" ∷ word "a" ∷ word "b" ∷ []) ∷ []) ∷ []) ∷ [])) [] ∷ sets_function "s1" (mfa_of "go" 0) (brackets (braces (word "_" ∷ brackets (braces (word "and" ∷ []) ∷ []) ∷ brackets [] ∷ []) ∷ [])) [] ∷ sets_function "s1" (mfa_of "go" 0) (brackets (braces (word "_" ∷ brackets (braces (word "andalso" ∷ []) ∷ []) ∷ brackets [] ∷ []) ∷ [])) [] ∷ sets_function "s1" (mfa_of "go" 0) (brackets (braces (word "_" ∷ brackets (braces (word "or" ∷ word "true" ∷ []) ∷ []) ∷ brackets [] ∷ []) ∷ [])) [] ∷ sets_function "s1" (mfa_of "go" 0) (brackets (braces (word "_" ∷ brackets (braces (word "not" ∷ []) ∷ []) ∷ brackets [] ∷ []) ∷ [])) [] ∷ sets_function "s1" (mfa_of "go" 0) (brackets (braces (word "_" ∷ brackets [] ∷ brackets (braces (word "enable_trace" ∷ []) ∷ []) ∷ []) ∷ [])) [] ∷ sets_function "s1" (mfa_of "go" 0) (brackets (braces (word "_" ∷ brackets [] ∷ brackets (braces (word "enable_trace" ∷ word "a" ∷ word "b" ∷ []) ∷ []) ∷ []) ∷ [])) [] ∷ sets_function "s1" (mfa_of "go" 0) (brackets (braces (word "_" ∷ brackets [] ∷ brackets (braces (word "trace" ∷ brackets [] ∷ []) ∷ []) ∷ []) ∷ [])) [] ∷ []))
    (0 ∷ 0 ∷ 0 ∷ 0 ∷ 0 ∷ 0 ∷ 0 ∷ 0 ∷ 0 ∷ 0 ∷ 0 ∷ 0 ∷ 0 ∷ 0 ∷ 0 ∷ 0 ∷ 0 ∷ 0 ∷ 0 ∷ [])
    ≡ lines ("== session s1 tracer t1" ∷ "== replies" ∷ "{session,s1}" ∷ "badarg" ∷ "badarg" ∷ "1" ∷ "badarg" ∷ "badarg" ∷ "badarg" ∷ "badarg" ∷ "badarg" ∷ "badarg" ∷ "badarg" ∷ "badarg" ∷ "badarg" ∷ "badarg" ∷ "1" ∷ "badarg" ∷ "badarg" ∷ "1" ∷ "badarg" ∷ "== journal" ∷ "0 0 0 0 0 0 0 0 0 0 0 0 0 0 0 0 0 0 0" ∷ [])
unfolding is_written_bare digits
more_specifications_that_are_refused = refl

-- the actions that sends and receives have
actions_of_dialects : program_output (program
    (function "go" [] [] ∷ [])
    (entry "go" [] ∷ [])
    (creates "s1" "t1" ∷ sets_send "s1" (brackets (braces (word "_" ∷ brackets [] ∷ brackets (braces (word "message" ∷ number 1 ∷ []) ∷ []) ∷ []) ∷ [])) ∷ sets_send "s1" (brackets (braces (word "_" ∷ brackets [] ∷ brackets (braces (word "return_trace" ∷ []) ∷ []) ∷ []) ∷ [])) ∷ sets_send "s1" (brackets (braces (word "_" ∷ brackets [] ∷ brackets (braces (word "exception_trace" ∷ []) ∷ []) ∷ []) ∷ [])) ∷ sets_send "s1" (brackets (braces (word "_" ∷ brackets [] ∷ brackets (braces (word "silent" ∷ word "true" ∷ []) ∷ []) ∷ []) ∷ [])) ∷ sets_send "s1" (brackets (braces (word "_" ∷ brackets [] ∷ brackets (braces (word "enable_trace" ∷ word "send" ∷ []) ∷ []) ∷ []) ∷ [])) ∷ sets_send "s1" (brackets (braces (word "_" ∷ brackets [] ∷ brackets (braces (word "disable_trace" ∷ word "send" ∷ []) ∷ []) ∷ []) ∷ [])) ∷ sets_send "s1" (brackets (braces (word "_" ∷ brackets [] ∷ brackets (braces (word "caller" ∷ []) ∷ []) ∷ []) ∷ [])) ∷ sets_receive "s1" (brackets (braces (word "_" ∷ brackets [] ∷ brackets (braces (word "message" ∷ number 1 ∷ []) ∷ []) ∷ []) ∷ [])) ∷ sets_receive "s1" (brackets (braces (word "_" ∷ brackets [] ∷ brackets (braces (word "return_trace" ∷ []) ∷ []) ∷ []) ∷ [])) ∷ sets_receive "s1" (brackets (braces (word "_" ∷ brackets [] ∷ brackets (braces (word "exception_trace" ∷ []) ∷ []) ∷ []) ∷ [])) ∷ sets_receive "s1" (brackets (braces (word "_" ∷ brackets [] ∷ brackets (braces (word "silent" ∷ word "true" ∷ []) ∷ []) ∷ []) ∷ [])) ∷ sets_receive "s1" (brackets (braces (word "_" ∷ brackets [] ∷ brackets (braces (word "enable_trace" ∷ word "send" ∷ []) ∷ []) ∷ []) ∷ [])) ∷ sets_receive "s1" (brackets (braces (word "_" ∷ brackets [] ∷ brackets (braces (word "disable_trace" ∷ word "send" ∷ []) ∷ []) ∷ []) ∷ [])) ∷ sets_receive "s1" (brackets (braces (word "_" ∷ brackets [] ∷ brackets (braces (word "caller" ∷ []) ∷ []) ∷ []) ∷ [])) ∷ []))
    (0 ∷ 0 ∷ 0 ∷ 0 ∷ 0 ∷ 0 ∷ 0 ∷ 0 ∷ 0 ∷ 0 ∷ 0 ∷ 0 ∷ 0 ∷ 0 ∷ 0 ∷ [])
    ≡ lines ("== session s1 tracer t1" ∷ "== replies" ∷ "{session,s1}" ∷ "1" ∷ "1" ∷ "1" ∷ "1" ∷ "1" ∷ "1" ∷ "badarg" ∷ "1" ∷ "1" ∷ "1" ∷ "badarg" ∷ "badarg" ∷ "badarg" ∷ "badarg" ∷ "== journal" ∷ "0 0 0 0 0 0 0 0 0 0 0 0 0 0 0" ∷ [])
unfolding is_written_bare digits
actions_of_dialects = refl
