-- Worked rows, computed: the action `trace`.
use Rattle.std.proofs.Common.{◌≡◌, [], ◌∷◌, refl}
use Rattle.std.specs.Fmt.{digits}
use Rattle.def_term.specs.Tree.{pid}
use Rattle.def_term.specs.Names.{word}
use Rattle.def_term.specs.Text.{is_written_bare}
use Rattle.def_script.specs.Program.{give_back}
use Rattle.def_run.specs.Listing.{program_output}
use Rattle.def_run.proofs.Samples.{number, braces, brackets, function, entry, program, call_named, creates, sets, mfa_of, sets_function, sets_send, sets_receive, lines, script_a, script_k}

-- `true` where the flags change, `false` where they stay; what is cleared and set again stays
trace_tells_changes : program_output (script_k (call_named "f" (number 1 ∷ []) ∷ [])
    (mfa_of "f" 1) (brackets (braces (word "_" ∷ brackets [] ∷ brackets (braces (word "message" ∷ brackets (braces (word "trace" ∷ brackets [] ∷ brackets (word "send" ∷ []) ∷ []) ∷ braces (word "trace" ∷ brackets [] ∷ brackets (word "send" ∷ []) ∷ []) ∷ braces (word "trace" ∷ brackets (word "send" ∷ []) ∷ brackets [] ∷ []) ∷ braces (word "trace" ∷ brackets (word "call" ∷ []) ∷ brackets (word "call" ∷ []) ∷ []) ∷ []) ∷ []) ∷ []) ∷ []) ∷ [])) []
    [])
    (0 ∷ 0 ∷ 0 ∷ 100 ∷ 100 ∷ 100 ∷ [])
    ≡ lines ("== session s1 tracer t1" ∷ "{trace,<0.100.0>,call,{m,f,[1]},[true,false,true,false]}" ∷ "== replies" ∷ "{session,s1}" ∷ "1" ∷ "1" ∷ "== journal" ∷ "0 0 0 100 100 100" ∷ [])
unfolding is_written_bare digits
trace_tells_changes = refl

-- effects of the same body come before it
trace_after_enable : program_output (script_k (call_named "f" (number 1 ∷ []) ∷ [])
    (mfa_of "f" 1) (brackets (braces (word "_" ∷ brackets [] ∷ brackets (braces (word "message" ∷ brackets (braces (word "enable_trace" ∷ word "send" ∷ []) ∷ braces (word "trace" ∷ brackets [] ∷ brackets (word "send" ∷ []) ∷ []) ∷ []) ∷ []) ∷ []) ∷ []) ∷ [])) []
    [])
    (0 ∷ 0 ∷ 0 ∷ 100 ∷ 100 ∷ 100 ∷ [])
    ≡ lines ("== session s1 tracer t1" ∷ "{trace,<0.100.0>,call,{m,f,[1]},[true,false]}" ∷ "== replies" ∷ "{session,s1}" ∷ "1" ∷ "1" ∷ "== journal" ∷ "0 0 0 100 100 100" ∷ [])
unfolding is_written_bare digits
trace_after_enable = refl

-- a flag that is none is a fault
trace_of_no_flag : program_output (script_k (call_named "f" (number 1 ∷ []) ∷ [])
    (mfa_of "f" 1) (brackets (braces (word "_" ∷ brackets [] ∷ brackets (braces (word "message" ∷ braces (word "trace" ∷ brackets (word "nope" ∷ []) ∷ brackets [] ∷ []) ∷ []) ∷ []) ∷ []) ∷ [])) []
    [])
    (0 ∷ 0 ∷ 0 ∷ 100 ∷ 100 ∷ 100 ∷ [])
    ≡ lines ("== session s1 tracer t1" ∷ "{trace,<0.100.0>,call,{m,f,[1]},'EXIT'}" ∷ "== replies" ∷ "{session,s1}" ∷ "1" ∷ "1" ∷ "== journal" ∷ "0 0 0 100 100 100" ∷ [])
unfolding is_written_bare digits
trace_of_no_flag = refl

-- `true` as the message adds nothing, `false` suppresses it; `arity` is read after the effects
trace_as_the_message : program_output (script_k (call_named "f" (number 1 ∷ []) ∷ call_named "f" (number 1 ∷ []) ∷ [])
    (mfa_of "f" 1) (brackets (braces (word "_" ∷ brackets [] ∷ brackets (braces (word "message" ∷ braces (word "trace" ∷ braces (word "self" ∷ []) ∷ brackets [] ∷ brackets (word "arity" ∷ []) ∷ []) ∷ []) ∷ []) ∷ []) ∷ [])) []
    [])
    (0 ∷ 0 ∷ 0 ∷ 100 ∷ 100 ∷ 100 ∷ 100 ∷ 100 ∷ [])
    ≡ lines ("== session s1 tracer t1" ∷ "{trace,<0.100.0>,call,{m,f,1}}" ∷ "== replies" ∷ "{session,s1}" ∷ "1" ∷ "1" ∷ "== journal" ∷ "0 0 0 100 100 100 100 100" ∷ [])
unfolding is_written_bare digits
trace_as_the_message = refl

-- the same as an element
trace_in_a_message : program_output (script_k (call_named "f" (number 1 ∷ []) ∷ call_named "f" (number 1 ∷ []) ∷ [])
    (mfa_of "f" 1) (brackets (braces (word "_" ∷ brackets [] ∷ brackets (braces (word "message" ∷ brackets (braces (word "trace" ∷ braces (word "self" ∷ []) ∷ brackets [] ∷ brackets (word "arity" ∷ []) ∷ []) ∷ []) ∷ []) ∷ []) ∷ []) ∷ [])) []
    [])
    (0 ∷ 0 ∷ 0 ∷ 100 ∷ 100 ∷ 100 ∷ 100 ∷ 100 ∷ [])
    ≡ lines ("== session s1 tracer t1" ∷ "{trace,<0.100.0>,call,{m,f,1},[true]}" ∷ "{trace,<0.100.0>,call,{m,f,1},[false]}" ∷ "== replies" ∷ "{session,s1}" ∷ "1" ∷ "1" ∷ "== journal" ∷ "0 0 0 100 100 100 100 100" ∷ [])
unfolding is_written_bare digits
trace_in_a_message = refl

-- not for receives
trace_not_in_receive : program_output (script_k (call_named "f" (number 1 ∷ []) ∷ [])
    (mfa_of "f" 1) (brackets (braces (word "_" ∷ brackets [] ∷ brackets (braces (word "message" ∷ number 1 ∷ []) ∷ []) ∷ []) ∷ [])) []
    (sets_receive "s1" (brackets (braces (word "_" ∷ brackets [] ∷ brackets (braces (word "message" ∷ braces (word "trace" ∷ braces (word "self" ∷ []) ∷ brackets [] ∷ brackets (word "arity" ∷ []) ∷ []) ∷ []) ∷ []) ∷ []) ∷ [])) ∷ []))
    (0 ∷ 0 ∷ 0 ∷ 0 ∷ 100 ∷ 100 ∷ 100 ∷ [])
    ≡ lines ("== session s1 tracer t1" ∷ "{trace,<0.100.0>,call,{m,f,[1]},1}" ∷ "== replies" ∷ "{session,s1}" ∷ "1" ∷ "1" ∷ "badarg" ∷ "== journal" ∷ "0 0 0 0 100 100 100" ∷ [])
unfolding is_written_bare digits
trace_not_in_receive = refl

-- evaluation goes by the flags before: the call is reported, and the next isn't looked at
trace_of_call : program_output (script_k (call_named "f" (number 1 ∷ []) ∷ call_named "f" (number 2 ∷ []) ∷ [])
    (mfa_of "f" 1) (brackets (braces (word "_" ∷ brackets [] ∷ brackets (braces (word "trace" ∷ brackets (word "call" ∷ []) ∷ brackets [] ∷ []) ∷ []) ∷ []) ∷ [])) []
    [])
    (0 ∷ 0 ∷ 0 ∷ 100 ∷ 100 ∷ 100 ∷ 100 ∷ 100 ∷ [])
    ≡ lines ("== session s1 tracer t1" ∷ "{trace,<0.100.0>,call,{m,f,[1]}}" ∷ "== replies" ∷ "{session,s1}" ∷ "1" ∷ "1" ∷ "== journal" ∷ "0 0 0 100 100 100 100 100" ∷ [])
unfolding is_written_bare digits
trace_of_call = refl

-- `silent` that is set so inhibits the message of its own call
trace_of_silent : program_output (script_k (call_named "f" (number 1 ∷ []) ∷ [])
    (mfa_of "f" 1) (brackets (braces (word "_" ∷ brackets [] ∷ brackets (braces (word "trace" ∷ brackets [] ∷ brackets (word "silent" ∷ []) ∷ []) ∷ []) ∷ []) ∷ [])) []
    [])
    (0 ∷ 0 ∷ 0 ∷ 100 ∷ 100 ∷ 100 ∷ [])
    ≡ lines ("== session s1 tracer t1" ∷ "== replies" ∷ "{session,s1}" ∷ "1" ∷ "1" ∷ "== journal" ∷ "0 0 0 100 100 100" ∷ [])
unfolding is_written_bare digits
trace_of_silent = refl

-- on the receiver of a send, before it receives
trace_in_a_send : program_output (script_a (pid 101) (creates "s1" "t1" ∷ sets "s1" (pid 100) ("send" ∷ []) ∷ sets_send "s1" (brackets (braces (word "_" ∷ brackets [] ∷ brackets (braces (word "message" ∷ braces (word "trace" ∷ pid 101 ∷ brackets [] ∷ brackets (word "receive" ∷ []) ∷ []) ∷ []) ∷ []) ∷ []) ∷ [])) ∷ []))
    (0 ∷ 0 ∷ 0 ∷ 100 ∷ 100 ∷ [])
    ≡ lines ("== session s1 tracer t1" ∷ "{trace,<0.100.0>,send,{hi,1},<0.101.0>}" ∷ "{trace,<0.101.0>,'receive',{hi,1}}" ∷ "== replies" ∷ "{session,s1}" ∷ "1" ∷ "1" ∷ "== journal" ∷ "0 0 0 100 100" ∷ [])
unfolding is_written_bare digits
trace_in_a_send = refl

-- each session has its own flags
trace_in_two_sessions : program_output (script_k (call_named "f" (number 1 ∷ []) ∷ [])
    (mfa_of "f" 1) (brackets (braces (word "_" ∷ brackets [] ∷ brackets (braces (word "message" ∷ brackets (braces (word "trace" ∷ brackets [] ∷ brackets (word "send" ∷ []) ∷ []) ∷ []) ∷ []) ∷ []) ∷ []) ∷ [])) []
    (creates "s2" "t2" ∷ sets "s2" (word "all") ("call" ∷ []) ∷ sets_function "s2" (mfa_of "f" 1) (brackets (braces (word "_" ∷ brackets [] ∷ brackets (braces (word "message" ∷ brackets (braces (word "trace" ∷ brackets [] ∷ brackets (word "send" ∷ []) ∷ []) ∷ []) ∷ []) ∷ []) ∷ []) ∷ [])) [] ∷ []))
    (0 ∷ 0 ∷ 0 ∷ 0 ∷ 0 ∷ 0 ∷ 100 ∷ 100 ∷ 100 ∷ [])
    ≡ lines ("== session s1 tracer t1" ∷ "{trace,<0.100.0>,call,{m,f,[1]},[true]}" ∷ "== session s2 tracer t2" ∷ "{trace,<0.100.0>,call,{m,f,[1]},[true]}" ∷ "== replies" ∷ "{session,s1}" ∷ "1" ∷ "1" ∷ "{session,s2}" ∷ "1" ∷ "1" ∷ "== journal" ∷ "0 0 0 0 0 0 100 100 100" ∷ [])
unfolding is_written_bare digits
trace_in_two_sessions = refl

-- once the other process has ended its pid is a fault
trace_of_the_dead : program_output (program
    (function "go" [] (call_named "f" (number 1 ∷ []) ∷ call_named "f" (number 1 ∷ []) ∷ []) ∷ function "f" ("X" ∷ []) (give_back (word "X") ∷ []) ∷ function "kid" [] [] ∷ [])
    (entry "go" [] ∷ entry "kid" [] ∷ [])
    (creates "s1" "t1" ∷ sets "s1" (pid 100) ("call" ∷ []) ∷ sets_function "s1" (mfa_of "f" 1) (brackets (braces (word "_" ∷ brackets [] ∷ brackets (braces (word "message" ∷ brackets (braces (word "trace" ∷ pid 101 ∷ brackets [] ∷ brackets (word "procs" ∷ []) ∷ []) ∷ braces (word "trace" ∷ pid 101 ∷ brackets [] ∷ brackets (word "procs" ∷ []) ∷ []) ∷ []) ∷ []) ∷ []) ∷ []) ∷ [])) [] ∷ []))
    (0 ∷ 0 ∷ 0 ∷ 100 ∷ 100 ∷ 101 ∷ 101 ∷ 100 ∷ 100 ∷ [])
    ≡ lines ("== session s1 tracer t1" ∷ "{trace,<0.100.0>,call,{m,f,[1]},[true,false]}" ∷ "{trace,<0.101.0>,exit,normal}" ∷ "{trace,<0.100.0>,call,{m,f,[1]},['EXIT','EXIT']}" ∷ "== replies" ∷ "{session,s1}" ∷ "1" ∷ "1" ∷ "== journal" ∷ "0 0 0 100 100 101 101 100 100" ∷ [])
unfolding is_written_bare digits
trace_of_the_dead = refl
