-- Worked rows, computed: conditions, heads and effects.
use Rattle.std.proofs.Common.{◌≡◌, [], ◌∷◌, refl}
use Rattle.std.specs.Fmt.{digits}
use Rattle.def_term.specs.Tree.{pid}
use Rattle.def_term.specs.Names.{word}
use Rattle.def_term.specs.Text.{is_written_bare}
use Rattle.def_run.specs.Listing.{program_output}
use Rattle.def_run.proofs.Samples.{number, braces, brackets, call_named, sets, clears, mfa_of, lines, script_k}

-- a fault is no match at any depth; a value other than `true` is none
conditions_that_fail : program_output (script_k (call_named "f" (number 1 ∷ []) ∷ [])
    (mfa_of "f" 1) (brackets (braces (word "_" ∷ brackets (braces (word "orelse" ∷ braces (word "hd" ∷ brackets [] ∷ []) ∷ word "true" ∷ []) ∷ []) ∷ brackets (braces (word "message" ∷ word "a" ∷ []) ∷ []) ∷ []) ∷ braces (word "_" ∷ brackets (braces (word "not" ∷ braces (word "andalso" ∷ braces (word "hd" ∷ brackets [] ∷ []) ∷ word "true" ∷ []) ∷ []) ∷ []) ∷ brackets (braces (word "message" ∷ word "b" ∷ []) ∷ []) ∷ []) ∷ braces (word "_" ∷ brackets (number 1 ∷ []) ∷ brackets (braces (word "message" ∷ word "c" ∷ []) ∷ []) ∷ []) ∷ braces (word "_" ∷ brackets (word "true" ∷ word "false" ∷ []) ∷ brackets (braces (word "message" ∷ word "d" ∷ []) ∷ []) ∷ []) ∷ braces (word "_" ∷ brackets (braces (word "is_list" ∷ brackets (braces (word "hd" ∷ brackets [] ∷ []) ∷ []) ∷ []) ∷ []) ∷ brackets (braces (word "message" ∷ word "e" ∷ []) ∷ []) ∷ []) ∷ braces (word "_" ∷ brackets (braces (word "is_tuple" ∷ braces (braces (braces (word "hd" ∷ brackets [] ∷ []) ∷ []) ∷ []) ∷ []) ∷ []) ∷ brackets (braces (word "message" ∷ word "f" ∷ []) ∷ []) ∷ []) ∷ braces (brackets (word "$1" ∷ word "$2" ∷ []) ∷ brackets [] ∷ brackets (braces (word "message" ∷ word "g" ∷ []) ∷ []) ∷ []) ∷ braces (brackets [] ∷ brackets [] ∷ brackets (braces (word "message" ∷ word "h" ∷ []) ∷ []) ∷ []) ∷ braces (word "_" ∷ brackets (word "false" ∷ word "true" ∷ []) ∷ brackets (braces (word "message" ∷ word "i" ∷ []) ∷ []) ∷ []) ∷ braces (word "_" ∷ brackets (braces (word "or" ∷ braces (word "hd" ∷ brackets [] ∷ []) ∷ word "true" ∷ []) ∷ []) ∷ brackets (braces (word "message" ∷ word "j" ∷ []) ∷ []) ∷ []) ∷ braces (brackets (word "$1" ∷ []) ∷ brackets (braces (word "==" ∷ word "$1" ∷ number 1 ∷ []) ∷ word "true" ∷ []) ∷ brackets (braces (word "message" ∷ word "k" ∷ []) ∷ []) ∷ []) ∷ [])) []
    [])
    (0 ∷ 0 ∷ 0 ∷ 100 ∷ 100 ∷ 100 ∷ [])
    ≡ lines ("== session s1 tracer t1" ∷ "{trace,<0.100.0>,call,{m,f,[1]},k}" ∷ "== replies" ∷ "{session,s1}" ∷ "1" ∷ "1" ∷ "== journal" ∷ "0 0 0 100 100 100" ∷ [])
unfolding is_written_bare digits
conditions_that_fail = refl

-- what is not evaluated is no fault
andalso_stops_early : program_output (script_k (call_named "f" (number 1 ∷ []) ∷ [])
    (mfa_of "f" 1) (brackets (braces (word "_" ∷ brackets (braces (word "not" ∷ braces (word "andalso" ∷ word "false" ∷ braces (word "hd" ∷ brackets [] ∷ []) ∷ []) ∷ []) ∷ []) ∷ brackets (braces (word "message" ∷ word "a" ∷ []) ∷ []) ∷ []) ∷ [])) []
    [])
    (0 ∷ 0 ∷ 0 ∷ 100 ∷ 100 ∷ 100 ∷ [])
    ≡ lines ("== session s1 tracer t1" ∷ "{trace,<0.100.0>,call,{m,f,[1]},a}" ∷ "== replies" ∷ "{session,s1}" ∷ "1" ∷ "1" ∷ "== journal" ∷ "0 0 0 100 100 100" ∷ [])
unfolding is_written_bare digits
andalso_stops_early = refl

-- '_' twice matches two terms and binds none
wildcards_bind_nothing : program_output (script_k (call_named "g" (word "a" ∷ word "b" ∷ []) ∷ [])
    (mfa_of "g" 2) (brackets (braces (brackets (word "_" ∷ word "_" ∷ []) ∷ brackets [] ∷ brackets (braces (word "message" ∷ word "$$" ∷ []) ∷ []) ∷ []) ∷ [])) []
    [])
    (0 ∷ 0 ∷ 0 ∷ 100 ∷ 100 ∷ 100 ∷ [])
    ≡ lines ("== session s1 tracer t1" ∷ "{trace,<0.100.0>,call,{m,g,[a,b]},[]}" ∷ "== replies" ∷ "{session,s1}" ∷ "1" ∷ "1" ∷ "== journal" ∷ "0 0 0 100 100 100" ∷ [])
unfolding is_written_bare digits
wildcards_bind_nothing = refl

-- a variable as the whole head is the whole list
variable_as_the_head : program_output (script_k (call_named "g" (word "a" ∷ word "b" ∷ []) ∷ [])
    (mfa_of "g" 2) (brackets (braces (word "$1" ∷ brackets [] ∷ brackets (braces (word "message" ∷ word "$1" ∷ []) ∷ []) ∷ []) ∷ [])) []
    [])
    (0 ∷ 0 ∷ 0 ∷ 100 ∷ 100 ∷ 100 ∷ [])
    ≡ lines ("== session s1 tracer t1" ∷ "{trace,<0.100.0>,call,{m,g,[a,b]},[a,b]}" ∷ "== replies" ∷ "{session,s1}" ∷ "1" ∷ "1" ∷ "== journal" ∷ "0 0 0 100 100 100" ∷ [])
unfolding is_written_bare digits
variable_as_the_head = refl

-- tuples and lists of patterns
nested_heads : program_output (script_k (call_named "f" (braces (word "a" ∷ brackets (number 7 ∷ number 8 ∷ []) ∷ []) ∷ []) ∷ [])
    (mfa_of "f" 1) (brackets (braces (brackets (brackets (word "_" ∷ word "_" ∷ []) ∷ []) ∷ brackets [] ∷ brackets (braces (word "message" ∷ word "zero" ∷ []) ∷ []) ∷ []) ∷ braces (brackets (brackets (braces (word "a" ∷ word "$1" ∷ []) ∷ []) ∷ []) ∷ brackets [] ∷ brackets (braces (word "message" ∷ word "first" ∷ []) ∷ []) ∷ []) ∷ braces (brackets (braces (word "a" ∷ word "$1" ∷ word "$2" ∷ []) ∷ []) ∷ brackets [] ∷ brackets (braces (word "message" ∷ word "second" ∷ []) ∷ []) ∷ []) ∷ braces (brackets (braces (word "$2" ∷ brackets (word "$1" ∷ word "_" ∷ []) ∷ []) ∷ []) ∷ brackets [] ∷ brackets (braces (word "message" ∷ word "$$" ∷ []) ∷ []) ∷ []) ∷ [])) []
    [])
    (0 ∷ 0 ∷ 0 ∷ 100 ∷ 100 ∷ 100 ∷ [])
    ≡ lines ("== session s1 tracer t1" ∷ "{trace,<0.100.0>,call,{m,f,[{a,[7,8]}]},[7,a]}" ∷ "== replies" ∷ "{session,s1}" ∷ "1" ∷ "1" ∷ "== journal" ∷ "0 0 0 100 100 100" ∷ [])
unfolding is_written_bare digits
nested_heads = refl

-- '$_' and '$$' in a head are plain atoms
dollar_atoms_in_heads : program_output (script_k (call_named "f" (word "$$" ∷ []) ∷ [])
    (mfa_of "f" 1) (brackets (braces (brackets (word "$_" ∷ []) ∷ brackets [] ∷ brackets (braces (word "message" ∷ word "a" ∷ []) ∷ []) ∷ []) ∷ braces (brackets (word "$$" ∷ []) ∷ brackets [] ∷ brackets (braces (word "message" ∷ word "b" ∷ []) ∷ []) ∷ []) ∷ braces (word "_" ∷ brackets [] ∷ brackets (braces (word "message" ∷ word "c" ∷ []) ∷ []) ∷ []) ∷ [])) []
    [])
    (0 ∷ 0 ∷ 0 ∷ 100 ∷ 100 ∷ 100 ∷ [])
    ≡ lines ("== session s1 tracer t1" ∷ "{trace,<0.100.0>,call,{m,f,['$$']},b}" ∷ "== replies" ∷ "{session,s1}" ∷ "1" ∷ "1" ∷ "== journal" ∷ "0 0 0 100 100 100" ∷ [])
unfolding is_written_bare digits
dollar_atoms_in_heads = refl

-- the last message effect decides
last_message_decides : program_output (script_k (call_named "f" (number 1 ∷ []) ∷ [])
    (mfa_of "f" 1) (brackets (braces (word "_" ∷ brackets [] ∷ brackets (braces (word "message" ∷ word "a" ∷ []) ∷ braces (word "message" ∷ word "b" ∷ []) ∷ []) ∷ []) ∷ [])) []
    [])
    (0 ∷ 0 ∷ 0 ∷ 100 ∷ 100 ∷ 100 ∷ [])
    ≡ lines ("== session s1 tracer t1" ∷ "{trace,<0.100.0>,call,{m,f,[1]},b}" ∷ "== replies" ∷ "{session,s1}" ∷ "1" ∷ "1" ∷ "== journal" ∷ "0 0 0 100 100 100" ∷ [])
unfolding is_written_bare digits
last_message_decides = refl

-- a later `true` sends it plain
true_after_false : program_output (script_k (call_named "f" (number 1 ∷ []) ∷ [])
    (mfa_of "f" 1) (brackets (braces (word "_" ∷ brackets [] ∷ brackets (braces (word "message" ∷ word "false" ∷ []) ∷ braces (word "message" ∷ word "true" ∷ []) ∷ []) ∷ []) ∷ [])) []
    [])
    (0 ∷ 0 ∷ 0 ∷ 100 ∷ 100 ∷ 100 ∷ [])
    ≡ lines ("== session s1 tracer t1" ∷ "{trace,<0.100.0>,call,{m,f,[1]}}" ∷ "== replies" ∷ "{session,s1}" ∷ "1" ∷ "1" ∷ "== journal" ∷ "0 0 0 100 100 100" ∷ [])
unfolding is_written_bare digits
true_after_false = refl

-- a later `false` suppresses it
false_after_a_term : program_output (script_k (call_named "f" (number 1 ∷ []) ∷ [])
    (mfa_of "f" 1) (brackets (braces (word "_" ∷ brackets [] ∷ brackets (braces (word "message" ∷ word "a" ∷ []) ∷ braces (word "message" ∷ word "false" ∷ []) ∷ []) ∷ []) ∷ [])) []
    [])
    (0 ∷ 0 ∷ 0 ∷ 100 ∷ 100 ∷ 100 ∷ [])
    ≡ lines ("== session s1 tracer t1" ∷ "== replies" ∷ "{session,s1}" ∷ "1" ∷ "1" ∷ "== journal" ∷ "0 0 0 100 100 100" ∷ [])
unfolding is_written_bare digits
false_after_a_term = refl

-- effects are applied in order
effects_in_order : program_output (script_k (call_named "f" (number 1 ∷ []) ∷ [])
    (mfa_of "f" 1) (brackets (braces (word "_" ∷ brackets [] ∷ brackets (braces (word "enable_trace" ∷ word "silent" ∷ []) ∷ braces (word "disable_trace" ∷ word "silent" ∷ []) ∷ braces (word "silent" ∷ word "true" ∷ []) ∷ braces (word "silent" ∷ word "false" ∷ []) ∷ braces (word "disable_trace" ∷ word "arity" ∷ []) ∷ braces (word "enable_trace" ∷ word "arity" ∷ []) ∷ []) ∷ []) ∷ [])) []
    [])
    (0 ∷ 0 ∷ 0 ∷ 100 ∷ 100 ∷ 100 ∷ [])
    ≡ lines ("== session s1 tracer t1" ∷ "{trace,<0.100.0>,call,{m,f,1}}" ∷ "== replies" ∷ "{session,s1}" ∷ "1" ∷ "1" ∷ "== journal" ∷ "0 0 0 100 100 100" ∷ [])
unfolding is_written_bare digits
effects_in_order = refl

-- an argument's effects come before its call's
arguments_before_calls : program_output (script_k (call_named "f" (number 1 ∷ []) ∷ [])
    (mfa_of "f" 1) (brackets (braces (word "_" ∷ brackets [] ∷ brackets (braces (word "message" ∷ brackets (braces (word "message" ∷ word "a" ∷ []) ∷ word "b" ∷ []) ∷ []) ∷ []) ∷ []) ∷ [])) []
    [])
    (0 ∷ 0 ∷ 0 ∷ 100 ∷ 100 ∷ 100 ∷ [])
    ≡ lines ("== session s1 tracer t1" ∷ "{trace,<0.100.0>,call,{m,f,[1]},[true,b]}" ∷ "== replies" ∷ "{session,s1}" ∷ "1" ∷ "1" ∷ "== journal" ∷ "0 0 0 100 100 100" ∷ [])
unfolding is_written_bare digits
arguments_before_calls = refl

-- what is not evaluated has no effect
effects_of_evaluated_parts : program_output (script_k (call_named "f" (number 1 ∷ []) ∷ [])
    (mfa_of "f" 1) (brackets (braces (word "_" ∷ brackets [] ∷ brackets (braces (word "and" ∷ word "false" ∷ braces (word "message" ∷ word "c" ∷ []) ∷ []) ∷ braces (word "orelse" ∷ word "true" ∷ braces (word "message" ∷ word "a" ∷ []) ∷ []) ∷ braces (word "andalso" ∷ word "false" ∷ braces (word "message" ∷ word "b" ∷ []) ∷ []) ∷ []) ∷ []) ∷ [])) []
    [])
    (0 ∷ 0 ∷ 0 ∷ 100 ∷ 100 ∷ 100 ∷ [])
    ≡ lines ("== session s1 tracer t1" ∷ "{trace,<0.100.0>,call,{m,f,[1]},c}" ∷ "== replies" ∷ "{session,s1}" ∷ "1" ∷ "1" ∷ "== journal" ∷ "0 0 0 100 100 100" ∷ [])
unfolding is_written_bare digits
effects_of_evaluated_parts = refl

-- a fault of an action has no effect, and a strange `silent` neither
actions_that_fault : program_output (script_k (call_named "f" (number 1 ∷ []) ∷ [])
    (mfa_of "f" 1) (brackets (braces (word "_" ∷ brackets [] ∷ brackets (braces (word "message" ∷ brackets (braces (word "return_trace" ∷ []) ∷ braces (word "silent" ∷ word "x" ∷ []) ∷ braces (word "enable_trace" ∷ word "nope" ∷ []) ∷ braces (word "enable_trace" ∷ pid 199 ∷ word "silent" ∷ []) ∷ braces (word "enable_trace" ∷ word "a" ∷ word "silent" ∷ []) ∷ braces (word "disable_trace" ∷ word "send" ∷ []) ∷ braces (word "caller" ∷ []) ∷ []) ∷ []) ∷ []) ∷ []) ∷ [])) []
    [])
    (0 ∷ 0 ∷ 0 ∷ 100 ∷ 100 ∷ 100 ∷ [])
    ≡ lines ("== session s1 tracer t1" ∷ "{trace,<0.100.0>,call,{m,f,[1]},[true,true,'EXIT','EXIT','EXIT',true,{m,go,0}]}" ∷ "{trace,<0.100.0>,return_from,{m,f,1},1}" ∷ "== replies" ∷ "{session,s1}" ∷ "1" ∷ "1" ∷ "== journal" ∷ "0 0 0 100 100 100" ∷ [])
unfolding is_written_bare digits
actions_that_fault = refl

-- `arity` is read after the effects
arity_after_the_effects : program_output (script_k (call_named "f" (number 1 ∷ []) ∷ [])
    (mfa_of "f" 1) (brackets (braces (word "_" ∷ brackets [] ∷ brackets (braces (word "enable_trace" ∷ word "arity" ∷ []) ∷ []) ∷ []) ∷ [])) []
    [])
    (0 ∷ 0 ∷ 0 ∷ 100 ∷ 100 ∷ 100 ∷ [])
    ≡ lines ("== session s1 tracer t1" ∷ "{trace,<0.100.0>,call,{m,f,1}}" ∷ "== replies" ∷ "{session,s1}" ∷ "1" ∷ "1" ∷ "== journal" ∷ "0 0 0 100 100 100" ∷ [])
unfolding is_written_bare digits
arity_after_the_effects = refl

-- the flag `arity`
arity : program_output (script_k (call_named "f" (number 1 ∷ []) ∷ [])
    (mfa_of "f" 1) (word "true") []
    (sets "s1" (word "all") ("arity" ∷ []) ∷ []))
    (0 ∷ 0 ∷ 0 ∷ 0 ∷ 100 ∷ 100 ∷ 100 ∷ [])
    ≡ lines ("== session s1 tracer t1" ∷ "{trace,<0.100.0>,call,{m,f,1}}" ∷ "== replies" ∷ "{session,s1}" ∷ "1" ∷ "1" ∷ "1" ∷ "== journal" ∷ "0 0 0 0 100 100 100" ∷ [])
unfolding is_written_bare digits
arity = refl

-- the flag `silent`
silent : program_output (script_k (call_named "f" (number 1 ∷ []) ∷ [])
    (mfa_of "f" 1) (word "true") []
    (sets "s1" (word "all") ("silent" ∷ []) ∷ []))
    (0 ∷ 0 ∷ 0 ∷ 0 ∷ 100 ∷ 100 ∷ 100 ∷ [])
    ≡ lines ("== session s1 tracer t1" ∷ "== replies" ∷ "{session,s1}" ∷ "1" ∷ "1" ∷ "1" ∷ "== journal" ∷ "0 0 0 0 100 100 100" ∷ [])
unfolding is_written_bare digits
silent = refl

-- flags that are cleared
flags_cleared : program_output (script_k (call_named "f" (number 1 ∷ []) ∷ [])
    (mfa_of "f" 1) (word "true") []
    (clears "s1" (word "existing") ("call" ∷ "send" ∷ []) ∷ []))
    (0 ∷ 0 ∷ 0 ∷ 0 ∷ 100 ∷ 100 ∷ 100 ∷ [])
    ≡ lines ("== session s1 tracer t1" ∷ "== replies" ∷ "{session,s1}" ∷ "1" ∷ "1" ∷ "1" ∷ "== journal" ∷ "0 0 0 0 100 100 100" ∷ [])
unfolding is_written_bare digits
flags_cleared = refl
