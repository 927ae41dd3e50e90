-- Worked rows, computed: match specifications.
use Rattle.std.proofs.Common.{◌≡◌, [], ◌∷◌, refl, negsuc}
use Rattle.std.specs.Fmt.{digits}
use Rattle.def_term.specs.Tree.{int}
use Rattle.def_term.specs.Names.{word}
use Rattle.def_term.specs.Text.{is_written_bare}
use Rattle.def_run.specs.Listing.{program_output}
use Rattle.def_run.proofs.Samples.{number, braces, brackets, call_named, mfa_of, sets_receive, lines, script_k}

-- a variable twice
same_variable_twice : program_output (script_k (call_named "g" (word "a" ∷ word "a" ∷ []) ∷ call_named "g" (word "a" ∷ word "b" ∷ []) ∷ [])
    (mfa_of "g" 2) (brackets (braces (brackets (word "$1" ∷ word "$1" ∷ []) ∷ brackets [] ∷ brackets [] ∷ []) ∷ [])) []
    [])
    (0 ∷ 0 ∷ 0 ∷ 100 ∷ 100 ∷ 100 ∷ 100 ∷ 100 ∷ [])
    ≡ lines ("== session s1 tracer t1" ∷ "{trace,<0.100.0>,call,{m,g,[a,a]}}" ∷ "== replies" ∷ "{session,s1}" ∷ "1" ∷ "1" ∷ "== journal" ∷ "0 0 0 100 100 100 100 100" ∷ [])
unfolding is_written_bare digits
same_variable_twice = refl

-- a fault in a condition: the clause does not match
guard_fault_skips_clause : program_output (script_k (call_named "f" (brackets [] ∷ []) ∷ call_named "f" (brackets (number 4 ∷ []) ∷ []) ∷ [])
    (mfa_of "f" 1) (brackets (braces (brackets (word "$1" ∷ []) ∷ brackets (braces (word ">" ∷ braces (word "hd" ∷ word "$1" ∷ []) ∷ number 3 ∷ []) ∷ []) ∷ brackets [] ∷ []) ∷ braces (brackets (word "_" ∷ []) ∷ brackets [] ∷ brackets (braces (word "message" ∷ word "second" ∷ []) ∷ []) ∷ []) ∷ [])) []
    [])
    (0 ∷ 0 ∷ 0 ∷ 100 ∷ 100 ∷ 100 ∷ 100 ∷ 100 ∷ [])
    ≡ lines ("== session s1 tracer t1" ∷ "{trace,<0.100.0>,call,{m,f,[[]]},second}" ∷ "{trace,<0.100.0>,call,{m,f,[[4]]}}" ∷ "== replies" ∷ "{session,s1}" ∷ "1" ∷ "1" ∷ "== journal" ∷ "0 0 0 100 100 100 100 100" ∷ [])
unfolding is_written_bare digits
guard_fault_skips_clause = refl

-- also inside `not`
fault_inside_not : program_output (script_k (call_named "f" (word "a" ∷ []) ∷ [])
    (mfa_of "f" 1) (brackets (braces (brackets (word "$1" ∷ []) ∷ brackets (braces (word "not" ∷ braces (word "hd" ∷ word "$1" ∷ []) ∷ []) ∷ []) ∷ brackets [] ∷ []) ∷ [])) []
    [])
    (0 ∷ 0 ∷ 0 ∷ 100 ∷ 100 ∷ 100 ∷ [])
    ≡ lines ("== session s1 tracer t1" ∷ "== replies" ∷ "{session,s1}" ∷ "1" ∷ "1" ∷ "== journal" ∷ "0 0 0 100 100 100" ∷ [])
unfolding is_written_bare digits
fault_inside_not = refl

-- the first clause that matches is chosen
first_clause_that_matches : program_output (script_k (call_named "f" (number 1 ∷ []) ∷ [])
    (mfa_of "f" 1) (brackets (braces (brackets (number 2 ∷ []) ∷ brackets [] ∷ brackets [] ∷ []) ∷ braces (brackets (word "_" ∷ []) ∷ brackets [] ∷ brackets (braces (word "message" ∷ word "second" ∷ []) ∷ []) ∷ []) ∷ [])) []
    [])
    (0 ∷ 0 ∷ 0 ∷ 100 ∷ 100 ∷ 100 ∷ [])
    ≡ lines ("== session s1 tracer t1" ∷ "{trace,<0.100.0>,call,{m,f,[1]},second}" ∷ "== replies" ∷ "{session,s1}" ∷ "1" ∷ "1" ∷ "== journal" ∷ "0 0 0 100 100 100" ∷ [])
unfolding is_written_bare digits
first_clause_that_matches = refl

-- a fault in a body is 'EXIT'
body_fault_is_exit : program_output (script_k (call_named "f" (number 1 ∷ []) ∷ [])
    (mfa_of "f" 1) (brackets (braces (word "_" ∷ brackets [] ∷ brackets (braces (word "message" ∷ braces (word "hd" ∷ brackets [] ∷ []) ∷ []) ∷ []) ∷ []) ∷ [])) []
    [])
    (0 ∷ 0 ∷ 0 ∷ 100 ∷ 100 ∷ 100 ∷ [])
    ≡ lines ("== session s1 tracer t1" ∷ "{trace,<0.100.0>,call,{m,f,[1]},'EXIT'}" ∷ "== replies" ∷ "{session,s1}" ∷ "1" ∷ "1" ∷ "== journal" ∷ "0 0 0 100 100 100" ∷ [])
unfolding is_written_bare digits
body_fault_is_exit = refl

-- `{message,false}` does not stop the return
message_false_keeps_return : program_output (script_k (call_named "f" (number 1 ∷ []) ∷ [])
    (mfa_of "f" 1) (brackets (braces (word "_" ∷ brackets [] ∷ brackets (braces (word "message" ∷ word "false" ∷ []) ∷ braces (word "return_trace" ∷ []) ∷ []) ∷ []) ∷ [])) []
    [])
    (0 ∷ 0 ∷ 0 ∷ 100 ∷ 100 ∷ 100 ∷ [])
    ≡ lines ("== session s1 tracer t1" ∷ "{trace,<0.100.0>,return_from,{m,f,1},1}" ∷ "== replies" ∷ "{session,s1}" ∷ "1" ∷ "1" ∷ "== journal" ∷ "0 0 0 100 100 100" ∷ [])
unfolding is_written_bare digits
message_false_keeps_return = refl

-- `silent`
silent_off_and_on : program_output (script_k (call_named "f" (word "off" ∷ []) ∷ call_named "f" (word "on" ∷ []) ∷ [])
    (mfa_of "f" 1) (brackets (braces (brackets (word "off" ∷ []) ∷ brackets [] ∷ brackets (braces (word "silent" ∷ word "true" ∷ []) ∷ []) ∷ []) ∷ braces (brackets (word "on" ∷ []) ∷ brackets [] ∷ brackets (braces (word "silent" ∷ word "false" ∷ []) ∷ []) ∷ []) ∷ [])) []
    [])
    (0 ∷ 0 ∷ 0 ∷ 100 ∷ 100 ∷ 100 ∷ 100 ∷ 100 ∷ [])
    ≡ lines ("== session s1 tracer t1" ∷ "{trace,<0.100.0>,call,{m,f,[on]}}" ∷ "== replies" ∷ "{session,s1}" ∷ "1" ∷ "1" ∷ "== journal" ∷ "0 0 0 100 100 100 100 100" ∷ [])
unfolding is_written_bare digits
silent_off_and_on = refl

-- '$$' by rising number
bindings_by_number : program_output (script_k (call_named "g" (word "a" ∷ word "b" ∷ []) ∷ [])
    (mfa_of "g" 2) (brackets (braces (brackets (word "$3" ∷ word "$1" ∷ []) ∷ brackets [] ∷ brackets (braces (word "message" ∷ word "$$" ∷ []) ∷ []) ∷ []) ∷ [])) []
    [])
    (0 ∷ 0 ∷ 0 ∷ 100 ∷ 100 ∷ 100 ∷ [])
    ≡ lines ("== session s1 tracer t1" ∷ "{trace,<0.100.0>,call,{m,g,[a,b]},[b,a]}" ∷ "== replies" ∷ "{session,s1}" ∷ "1" ∷ "1" ∷ "== journal" ∷ "0 0 0 100 100 100" ∷ [])
unfolding is_written_bare digits
bindings_by_number = refl

-- `caller`
caller_of_each_call : program_output (script_k (call_named "f" (number 1 ∷ []) ∷ [])
    (braces (word "m" ∷ word "_" ∷ word "_" ∷ [])) (brackets (braces (word "_" ∷ brackets [] ∷ brackets (braces (word "message" ∷ braces (word "caller" ∷ []) ∷ []) ∷ []) ∷ []) ∷ [])) []
    (sets_receive "s1" (brackets (braces (word "_" ∷ brackets [] ∷ brackets (braces (word "message" ∷ braces (word "caller" ∷ []) ∷ []) ∷ []) ∷ []) ∷ [])) ∷ []))
    (0 ∷ 0 ∷ 0 ∷ 0 ∷ 100 ∷ 100 ∷ [])
    ≡ lines ("== session s1 tracer t1" ∷ "{trace,<0.100.0>,call,{m,go,[]},undefined}" ∷ "{trace,<0.100.0>,call,{m,f,[1]},{m,go,0}}" ∷ "== replies" ∷ "{session,s1}" ∷ "1" ∷ "3" ∷ "badarg" ∷ "== journal" ∷ "0 0 0 0 100 100" ∷ [])
unfolding is_written_bare digits
caller_of_each_call = refl

-- `disable_trace` of `call` in a body
disabled_call_still_told : program_output (script_k (call_named "f" (number 1 ∷ []) ∷ call_named "f" (number 2 ∷ []) ∷ [])
    (mfa_of "f" 1) (brackets (braces (word "_" ∷ brackets [] ∷ brackets (braces (word "disable_trace" ∷ word "call" ∷ []) ∷ []) ∷ []) ∷ [])) []
    [])
    (0 ∷ 0 ∷ 0 ∷ 100 ∷ 100 ∷ 100 ∷ 100 ∷ 100 ∷ [])
    ≡ lines ("== session s1 tracer t1" ∷ "{trace,<0.100.0>,call,{m,f,[1]}}" ∷ "== replies" ∷ "{session,s1}" ∷ "1" ∷ "1" ∷ "== journal" ∷ "0 0 0 100 100 100 100 100" ∷ [])
unfolding is_written_bare digits
disabled_call_still_told = refl

-- a sum past 64 bits
sum_past_64_bits_is_a_fault : program_output (script_k (call_named "f" (number 9223372036854775807 ∷ []) ∷ call_named "f" (int (negsuc 0) ∷ []) ∷ [])
    (mfa_of "f" 1) (brackets (braces (brackets (word "$1" ∷ []) ∷ brackets (braces (word "=:=" ∷ braces (word "+" ∷ word "$1" ∷ number 1 ∷ []) ∷ number 0 ∷ []) ∷ []) ∷ brackets [] ∷ []) ∷ [])) []
    [])
    (0 ∷ 0 ∷ 0 ∷ 100 ∷ 100 ∷ 100 ∷ 100 ∷ 100 ∷ [])
    ≡ lines ("== session s1 tracer t1" ∷ "{trace,<0.100.0>,call,{m,f,[-1]}}" ∷ "== replies" ∷ "{session,s1}" ∷ "1" ∷ "1" ∷ "== journal" ∷ "0 0 0 100 100 100 100 100" ∷ [])
unfolding is_written_bare digits
sum_past_64_bits_is_a_fault = refl

-- `div` and `rem`
division_toward_zero : program_output (script_k (call_named "f" (int (negsuc 6) ∷ []) ∷ [])
    (mfa_of "f" 1) (brackets (braces (brackets (word "$1" ∷ []) ∷ brackets [] ∷ brackets (braces (word "message" ∷ brackets (braces (word "div" ∷ word "$1" ∷ number 2 ∷ []) ∷ braces (word "rem" ∷ word "$1" ∷ number 2 ∷ []) ∷ braces (word "div" ∷ word "$1" ∷ number 0 ∷ []) ∷ []) ∷ []) ∷ []) ∷ []) ∷ [])) []
    [])
    (0 ∷ 0 ∷ 0 ∷ 100 ∷ 100 ∷ 100 ∷ [])
    ≡ lines ("== session s1 tracer t1" ∷ "{trace,<0.100.0>,call,{m,f,[-7]},[-3,-1,'EXIT']}" ∷ "== replies" ∷ "{session,s1}" ∷ "1" ∷ "1" ∷ "== journal" ∷ "0 0 0 100 100 100" ∷ [])
unfolding is_written_bare digits
division_toward_zero = refl

-- `or` evaluates all arguments
or_evaluates_all : program_output (script_k (call_named "f" (word "a" ∷ []) ∷ [])
    (mfa_of "f" 1) (brackets (braces (brackets (word "$1" ∷ []) ∷ brackets (braces (word "or" ∷ braces (word "is_atom" ∷ word "$1" ∷ []) ∷ braces (word "hd" ∷ word "$1" ∷ []) ∷ []) ∷ []) ∷ brackets [] ∷ []) ∷ [])) []
    [])
    (0 ∷ 0 ∷ 0 ∷ 100 ∷ 100 ∷ 100 ∷ [])
    ≡ lines ("== session s1 tracer t1" ∷ "== replies" ∷ "{session,s1}" ∷ "1" ∷ "1" ∷ "== journal" ∷ "0 0 0 100 100 100" ∷ [])
unfolding is_written_bare digits
or_evaluates_all = refl

-- `orelse` stops at the first that is true
orelse_stops_early : program_output (script_k (call_named "f" (word "a" ∷ []) ∷ [])
    (mfa_of "f" 1) (brackets (braces (brackets (word "$1" ∷ []) ∷ brackets (braces (word "orelse" ∷ braces (word "is_atom" ∷ word "$1" ∷ []) ∷ braces (word "hd" ∷ word "$1" ∷ []) ∷ []) ∷ []) ∷ brackets [] ∷ []) ∷ [])) []
    [])
    (0 ∷ 0 ∷ 0 ∷ 100 ∷ 100 ∷ 100 ∷ [])
    ≡ lines ("== session s1 tracer t1" ∷ "{trace,<0.100.0>,call,{m,f,[a]}}" ∷ "== replies" ∷ "{session,s1}" ∷ "1" ∷ "1" ∷ "== journal" ∷ "0 0 0 100 100 100" ∷ [])
unfolding is_written_bare digits
orelse_stops_early = refl

-- a variable that the head does not bind
unbound_variable_is_badarg : program_output (script_k (call_named "f" (number 1 ∷ []) ∷ [])
    (mfa_of "f" 1) (brackets (braces (word "_" ∷ brackets [] ∷ brackets (braces (word "message" ∷ word "$1" ∷ []) ∷ []) ∷ []) ∷ [])) []
    [])
    (0 ∷ 0 ∷ 0 ∷ 100 ∷ 100 ∷ 100 ∷ [])
    ≡ lines ("== session s1 tracer t1" ∷ "== replies" ∷ "{session,s1}" ∷ "1" ∷ "badarg" ∷ "== journal" ∷ "0 0 0 100 100 100" ∷ [])
unfolding is_written_bare digits
unbound_variable_is_badarg = refl

-- a name that is not supported
unsupported_name : program_output (script_k (call_named "f" (number 1 ∷ []) ∷ [])
    (mfa_of "f" 1) (brackets (braces (word "_" ∷ brackets (braces (word "is_record" ∷ word "$_" ∷ word "a" ∷ []) ∷ []) ∷ brackets [] ∷ []) ∷ [])) []
    [])
    (0 ∷ 0 ∷ 0 ∷ 100 ∷ 100 ∷ 100 ∷ [])
    ≡ lines ("== session s1 tracer t1" ∷ "== replies" ∷ "{session,s1}" ∷ "1" ∷ "{unsupported,is_record}" ∷ "== journal" ∷ "0 0 0 100 100 100" ∷ [])
unfolding is_written_bare digits
unsupported_name = refl
