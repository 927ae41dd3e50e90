-- Worked rows, computed: sessions, their commands and inheritance.
use Rattle.std.proofs.Common.{◌≡◌, [], ◌∷◌, refl}
use Rattle.std.specs.Fmt.{digits}
use Rattle.def_term.specs.Tree.{pid}
use Rattle.def_term.specs.Names.{word}
use Rattle.def_term.specs.Text.{is_written_bare}
use Rattle.def_script.specs.Program.{send, link}
use Rattle.def_run.specs.Listing.{program_output}
use Rattle.def_run.proofs.Samples.{number, braces, brackets, function, entry, call_named, call_unnamed, spawns, program, creates, destroys, sets, mfa_of, sets_function, sets_send, lines, script_a, script_k}

-- `set_on_first_spawn` concerns the first spawn alone
set_on_first_spawn : program_output (program
    (function "go" [] (spawns "kid" (number 1 ∷ []) ∷ spawns "kid" (number 2 ∷ []) ∷ []) ∷ function "kid" ("X" ∷ []) [] ∷ [])
    (entry "go" [] ∷ [])
    (creates "s1" "t1" ∷ sets "s1" (pid 100) ("procs" ∷ "set_on_first_spawn" ∷ []) ∷ []))
    (0 ∷ 0 ∷ 100 ∷ 100 ∷ 100 ∷ 101 ∷ 101 ∷ 102 ∷ 102 ∷ [])
    ≡ lines ("== session s1 tracer t1" ∷ "{trace,<0.100.0>,spawn,<0.101.0>,{m,kid,[1]}}" ∷ "{trace,<0.101.0>,spawned,<0.100.0>,{m,kid,[1]}}" ∷ "{trace,<0.100.0>,spawn,<0.102.0>,{m,kid,[2]}}" ∷ "{trace,<0.101.0>,exit,normal}" ∷ "== replies" ∷ "{session,s1}" ∷ "1" ∷ "== journal" ∷ "0 0 100 100 100 101 101 102 102" ∷ [])
unfolding is_written_bare digits
set_on_first_spawn = refl

-- `set_on_link` gives the flags to the partner
set_on_link : program_output (program
    (function "go" [] (link (pid 101) ∷ []) ∷ function "peer" [] (send (pid 100) (word "x") ∷ []) ∷ [])
    (entry "go" [] ∷ entry "peer" [] ∷ [])
    (creates "s1" "t1" ∷ sets "s1" (pid 100) ("procs" ∷ "set_on_link" ∷ []) ∷ sets "s1" (pid 101) ("send" ∷ []) ∷ []))
    (0 ∷ 0 ∷ 0 ∷ 100 ∷ 100 ∷ 101 ∷ 101 ∷ [])
    ≡ lines ("== session s1 tracer t1" ∷ "{trace,<0.100.0>,link,<0.101.0>}" ∷ "{trace,<0.101.0>,getting_linked,<0.100.0>}" ∷ "{trace,<0.101.0>,send,x,<0.100.0>}" ∷ "== replies" ∷ "{session,s1}" ∷ "1" ∷ "1" ∷ "== journal" ∷ "0 0 0 100 100 101 101" ∷ [])
unfolding is_written_bare digits
set_on_link = refl

-- two sessions, of which one is destroyed
two_sessions : program_output (script_a (pid 101) (creates "s1" "t1" ∷ creates "s2" "t2" ∷ sets "s1" (word "all") ("send" ∷ []) ∷ sets "s2" (word "all") ("receive" ∷ []) ∷ destroys "s2" ∷ []))
    (0 ∷ 0 ∷ 0 ∷ 0 ∷ 100 ∷ 0 ∷ 100 ∷ [])
    ≡ lines ("== session s1 tracer t1" ∷ "{trace,<0.100.0>,send,{hi,1},<0.101.0>}" ∷ "== session s2 tracer t2" ∷ "== replies" ∷ "{session,s1}" ∷ "{session,s2}" ∷ "2" ∷ "2" ∷ "true" ∷ "== journal" ∷ "0 0 0 0 100 0 100" ∷ [])
unfolding is_written_bare digits
two_sessions = refl

-- and without the other one
one_session_without_the_other : program_output (script_a (pid 101) (creates "s1" "t1" ∷ sets "s1" (word "all") ("send" ∷ []) ∷ []))
    (0 ∷ 0 ∷ 100 ∷ 100 ∷ [])
    ≡ lines ("== session s1 tracer t1" ∷ "{trace,<0.100.0>,send,{hi,1},<0.101.0>}" ∷ "== replies" ∷ "{session,s1}" ∷ "2" ∷ "== journal" ∷ "0 0 100 100" ∷ [])
unfolding is_written_bare digits
one_session_without_the_other = refl

-- `enable_trace` in a send specification, before the receive event
enable_on_another_pid : program_output (script_a (pid 101) (creates "s1" "t1" ∷ sets "s1" (pid 100) ("send" ∷ []) ∷ sets_send "s1" (brackets (braces (word "_" ∷ brackets [] ∷ brackets (braces (word "enable_trace" ∷ pid 101 ∷ word "receive" ∷ []) ∷ []) ∷ []) ∷ [])) ∷ []))
    (0 ∷ 0 ∷ 0 ∷ 100 ∷ 100 ∷ [])
    ≡ lines ("== session s1 tracer t1" ∷ "{trace,<0.100.0>,send,{hi,1},<0.101.0>}" ∷ "{trace,<0.101.0>,'receive',{hi,1}}" ∷ "== replies" ∷ "{session,s1}" ∷ "1" ∷ "1" ∷ "== journal" ∷ "0 0 0 100 100" ∷ [])
unfolding is_written_bare digits
enable_on_another_pid = refl

-- a marked frame of a destroyed session reports nothing
nothing_after_destroy : program_output (script_k (call_named "f" (number 1 ∷ []) ∷ [])
    (mfa_of "f" 1) (brackets (braces (word "_" ∷ brackets [] ∷ brackets (braces (word "return_trace" ∷ []) ∷ []) ∷ []) ∷ [])) []
    (destroys "s1" ∷ destroys "s1" ∷ []))
    (0 ∷ 0 ∷ 0 ∷ 100 ∷ 100 ∷ 0 ∷ 100 ∷ 0 ∷ [])
    ≡ lines ("== session s1 tracer t1" ∷ "{trace,<0.100.0>,call,{m,f,[1]}}" ∷ "== replies" ∷ "{session,s1}" ∷ "1" ∷ "1" ∷ "true" ∷ "false" ∷ "== journal" ∷ "0 0 0 100 100 0 100 0" ∷ [])
unfolding is_written_bare digits
nothing_after_destroy = refl

-- a global setting concerns the calls that name the module
global_sees_named_calls : program_output (script_k (call_unnamed "f" (number 1 ∷ []) ∷ call_named "f" (number 2 ∷ []) ∷ [])
    (mfa_of "f" 1) (word "true") []
    [])
    (0 ∷ 0 ∷ 0 ∷ 100 ∷ 100 ∷ 100 ∷ 100 ∷ 100 ∷ [])
    ≡ lines ("== session s1 tracer t1" ∷ "{trace,<0.100.0>,call,{m,f,[2]}}" ∷ "== replies" ∷ "{session,s1}" ∷ "1" ∷ "1" ∷ "== journal" ∷ "0 0 0 100 100 100 100 100" ∷ [])
unfolding is_written_bare digits
global_sees_named_calls = refl

-- a local one all calls
local_sees_all_calls : program_output (script_k (call_unnamed "f" (number 1 ∷ []) ∷ call_named "f" (number 2 ∷ []) ∷ [])
    (mfa_of "f" 1) (word "true") ("local" ∷ [])
    [])
    (0 ∷ 0 ∷ 0 ∷ 100 ∷ 100 ∷ 100 ∷ 100 ∷ 100 ∷ [])
    ≡ lines ("== session s1 tracer t1" ∷ "{trace,<0.100.0>,call,{m,f,[1]}}" ∷ "{trace,<0.100.0>,call,{m,f,[2]}}" ∷ "== replies" ∷ "{session,s1}" ∷ "1" ∷ "1" ∷ "== journal" ∷ "0 0 0 100 100 100 100 100" ∷ [])
unfolding is_written_bare digits
local_sees_all_calls = refl

-- a later command replaces an earlier one of the other kind
later_global_replaces_local : program_output (script_k (call_unnamed "f" (number 1 ∷ []) ∷ call_named "f" (number 2 ∷ []) ∷ [])
    (braces (word "m" ∷ word "_" ∷ word "_" ∷ [])) (word "true") ("local" ∷ [])
    (sets_function "s1" (mfa_of "f" 1) (word "true") [] ∷ []))
    (0 ∷ 0 ∷ 0 ∷ 0 ∷ 100 ∷ 100 ∷ 100 ∷ 100 ∷ 100 ∷ [])
    ≡ lines ("== session s1 tracer t1" ∷ "{trace,<0.100.0>,call,{m,go,[]}}" ∷ "{trace,<0.100.0>,call,{m,f,[2]}}" ∷ "== replies" ∷ "{session,s1}" ∷ "1" ∷ "3" ∷ "1" ∷ "== journal" ∷ "0 0 0 0 100 100 100 100 100" ∷ [])
unfolding is_written_bare digits
later_global_replaces_local = refl
