-- Worked rows, computed: the values of functions, as the last element of a call message.
use Rattle.std.proofs.Common.{◌≡◌, [], ◌∷◌, refl, negsuc}
use Rattle.std.specs.Fmt.{digits}
use Rattle.def_term.specs.Tree.{int, pid}
use Rattle.def_term.specs.Names.{word}
use Rattle.def_term.specs.Text.{is_written_bare}
use Rattle.def_run.specs.Listing.{program_output}
use Rattle.def_run.proofs.Samples.{number, braces, brackets, call_named, mfa_of, lines, script_k}

-- anything but `true` counts as not true
values_of_logic : program_output (script_k (call_named "f" (number 1 ∷ []) ∷ [])
    (mfa_of "f" 1) (brackets (braces (brackets (word "$1" ∷ []) ∷ brackets [] ∷ brackets (braces (word "message" ∷ brackets (braces (word "not" ∷ word "true" ∷ []) ∷ braces (word "not" ∷ word "false" ∷ []) ∷ braces (word "not" ∷ number 5 ∷ []) ∷ braces (word "and" ∷ word "true" ∷ number 1 ∷ []) ∷ braces (word "and" ∷ word "true" ∷ word "true" ∷ []) ∷ braces (word "or" ∷ number 1 ∷ number 2 ∷ []) ∷ braces (word "or" ∷ word "false" ∷ word "true" ∷ []) ∷ braces (word "xor" ∷ word "true" ∷ word "false" ∷ []) ∷ braces (word "xor" ∷ word "false" ∷ word "true" ∷ []) ∷ braces (word "xor" ∷ word "true" ∷ word "true" ∷ []) ∷ braces (word "xor" ∷ word "true" ∷ number 1 ∷ []) ∷ braces (word "andalso" ∷ word "true" ∷ word "true" ∷ []) ∷ braces (word "andalso" ∷ number 1 ∷ word "true" ∷ []) ∷ braces (word "orelse" ∷ number 1 ∷ word "true" ∷ []) ∷ braces (word "orelse" ∷ word "false" ∷ number 2 ∷ []) ∷ []) ∷ []) ∷ []) ∷ []) ∷ [])) []
    [])
    (0 ∷ 0 ∷ 0 ∷ 100 ∷ 100 ∷ 100 ∷ [])
    ≡ lines ("== session s1 tracer t1" ∷ "{trace,<0.100.0>,call,{m,f,[1]},[false,true,false,false,true,false,true,true,true,false,false,true,false,true,false]}" ∷ "== replies" ∷ "{session,s1}" ∷ "1" ∷ "1" ∷ "== journal" ∷ "0 0 0 100 100 100" ∷ [])
unfolding is_written_bare digits
values_of_logic = refl

-- the kinds of terms
values_of_tests : program_output (script_k (call_named "f" (number 1 ∷ []) ∷ [])
    (mfa_of "f" 1) (brackets (braces (brackets (word "$1" ∷ []) ∷ brackets [] ∷ brackets (braces (word "message" ∷ brackets (braces (word "is_atom" ∷ word "a" ∷ []) ∷ braces (word "is_atom" ∷ number 1 ∷ []) ∷ braces (word "is_integer" ∷ number 1 ∷ []) ∷ braces (word "is_integer" ∷ word "a" ∷ []) ∷ braces (word "is_list" ∷ brackets [] ∷ []) ∷ braces (word "is_list" ∷ braces (braces [] ∷ []) ∷ []) ∷ braces (word "is_tuple" ∷ braces (braces [] ∷ []) ∷ []) ∷ braces (word "is_tuple" ∷ brackets [] ∷ []) ∷ braces (word "is_pid" ∷ pid 1 ∷ []) ∷ braces (word "is_pid" ∷ number 1 ∷ []) ∷ braces (word "is_number" ∷ number 1 ∷ []) ∷ braces (word "is_number" ∷ word "a" ∷ []) ∷ braces (word "is_boolean" ∷ word "false" ∷ []) ∷ braces (word "is_boolean" ∷ word "true" ∷ []) ∷ braces (word "is_boolean" ∷ word "a" ∷ []) ∷ []) ∷ []) ∷ []) ∷ []) ∷ [])) []
    [])
    (0 ∷ 0 ∷ 0 ∷ 100 ∷ 100 ∷ 100 ∷ [])
    ≡ lines ("== session s1 tracer t1" ∷ "{trace,<0.100.0>,call,{m,f,[1]},[true,false,true,false,true,false,true,false,true,false,true,false,true,true,false]}" ∷ "== replies" ∷ "{session,s1}" ∷ "1" ∷ "1" ∷ "== journal" ∷ "0 0 0 100 100 100" ∷ [])
unfolding is_written_bare digits
values_of_tests = refl

-- kinds of which there are no terms
values_of_absent_kinds : program_output (script_k (call_named "f" (number 1 ∷ []) ∷ [])
    (mfa_of "f" 1) (brackets (braces (brackets (word "$1" ∷ []) ∷ brackets [] ∷ brackets (braces (word "message" ∷ brackets (braces (word "is_float" ∷ number 1 ∷ []) ∷ braces (word "is_port" ∷ word "a" ∷ []) ∷ braces (word "is_reference" ∷ word "a" ∷ []) ∷ braces (word "is_map" ∷ brackets [] ∷ []) ∷ braces (word "is_binary" ∷ word "a" ∷ []) ∷ braces (word "is_bitstring" ∷ word "a" ∷ []) ∷ braces (word "is_function" ∷ word "a" ∷ []) ∷ []) ∷ []) ∷ []) ∷ []) ∷ [])) []
    [])
    (0 ∷ 0 ∷ 0 ∷ 100 ∷ 100 ∷ 100 ∷ [])
    ≡ lines ("== session s1 tracer t1" ∷ "{trace,<0.100.0>,call,{m,f,[1]},[false,false,false,false,false,false,false]}" ∷ "== replies" ∷ "{session,s1}" ∷ "1" ∷ "1" ∷ "== journal" ∷ "0 0 0 100 100 100" ∷ [])
unfolding is_written_bare digits
values_of_absent_kinds = refl

-- lists and tuples
values_of_lists : program_output (script_k (call_named "f" (number 1 ∷ []) ∷ [])
    (mfa_of "f" 1) (brackets (braces (brackets (word "$1" ∷ []) ∷ brackets [] ∷ brackets (braces (word "message" ∷ brackets (braces (word "hd" ∷ brackets (number 1 ∷ number 2 ∷ []) ∷ []) ∷ braces (word "tl" ∷ brackets (number 1 ∷ number 2 ∷ []) ∷ []) ∷ braces (word "length" ∷ brackets [] ∷ []) ∷ braces (word "length" ∷ brackets (word "a" ∷ word "b" ∷ []) ∷ []) ∷ braces (word "size" ∷ braces (braces (word "a" ∷ word "b" ∷ []) ∷ []) ∷ []) ∷ braces (word "size" ∷ brackets (word "a" ∷ []) ∷ []) ∷ braces (word "tuple_size" ∷ braces (braces [] ∷ []) ∷ []) ∷ braces (word "element" ∷ number 1 ∷ braces (braces (word "a" ∷ word "b" ∷ []) ∷ []) ∷ []) ∷ braces (word "element" ∷ number 2 ∷ braces (braces (word "a" ∷ word "b" ∷ []) ∷ []) ∷ []) ∷ braces (word "element" ∷ number 0 ∷ braces (braces (word "a" ∷ []) ∷ []) ∷ []) ∷ braces (word "element" ∷ number 2 ∷ braces (braces (word "a" ∷ []) ∷ []) ∷ []) ∷ braces (word "hd" ∷ brackets [] ∷ []) ∷ braces (word "tl" ∷ brackets [] ∷ []) ∷ braces (word "length" ∷ braces (braces [] ∷ []) ∷ []) ∷ []) ∷ []) ∷ []) ∷ []) ∷ [])) []
    [])
    (0 ∷ 0 ∷ 0 ∷ 100 ∷ 100 ∷ 100 ∷ [])
    ≡ lines ("== session s1 tracer t1" ∷ "{trace,<0.100.0>,call,{m,f,[1]},[1,[2],0,2,2,'EXIT',0,a,b,'EXIT','EXIT','EXIT','EXIT','EXIT']}" ∷ "== replies" ∷ "{session,s1}" ∷ "1" ∷ "1" ∷ "== journal" ∷ "0 0 0 100 100 100" ∷ [])
unfolding is_written_bare digits
values_of_lists = refl

-- integers
values_of_integers : program_output (script_k (call_named "f" (number 1 ∷ []) ∷ [])
    (mfa_of "f" 1) (brackets (braces (brackets (word "$1" ∷ []) ∷ brackets [] ∷ brackets (braces (word "message" ∷ brackets (braces (word "abs" ∷ int (negsuc 4) ∷ []) ∷ braces (word "abs" ∷ number 5 ∷ []) ∷ braces (word "+" ∷ number 2 ∷ number 3 ∷ []) ∷ braces (word "-" ∷ number 2 ∷ number 3 ∷ []) ∷ braces (word "*" ∷ number 2 ∷ int (negsuc 2) ∷ []) ∷ braces (word "div" ∷ int (negsuc 6) ∷ number 2 ∷ []) ∷ braces (word "rem" ∷ int (negsuc 6) ∷ number 2 ∷ []) ∷ braces (word "rem" ∷ number 7 ∷ int (negsuc 1) ∷ []) ∷ braces (word "div" ∷ number 7 ∷ number 0 ∷ []) ∷ braces (word "rem" ∷ number 7 ∷ number 0 ∷ []) ∷ braces (word "band" ∷ number 12 ∷ number 10 ∷ []) ∷ braces (word "bor" ∷ number 12 ∷ number 10 ∷ []) ∷ braces (word "bxor" ∷ number 12 ∷ number 10 ∷ []) ∷ braces (word "bnot" ∷ number 0 ∷ []) ∷ braces (word "bnot" ∷ int (negsuc 7) ∷ []) ∷ braces (word "band" ∷ int (negsuc 0) ∷ number 5 ∷ []) ∷ braces (word "+" ∷ word "a" ∷ number 1 ∷ []) ∷ []) ∷ []) ∷ []) ∷ []) ∷ [])) []
    [])
    (0 ∷ 0 ∷ 0 ∷ 100 ∷ 100 ∷ 100 ∷ [])
    ≡ lines ("== session s1 tracer t1" ∷ "{trace,<0.100.0>,call,{m,f,[1]},[5,5,5,-1,-6,-3,-1,1,'EXIT','EXIT',8,14,6,-1,7,5,'EXIT']}" ∷ "== replies" ∷ "{session,s1}" ∷ "1" ∷ "1" ∷ "== journal" ∷ "0 0 0 100 100 100" ∷ [])
unfolding is_written_bare digits
values_of_integers = refl

-- the greatest and the least integers
values_at_the_end_of_64_bits : program_output (script_k (call_named "f" (number 1 ∷ []) ∷ [])
    (mfa_of "f" 1) (brackets (braces (brackets (word "$1" ∷ []) ∷ brackets [] ∷ brackets (braces (word "message" ∷ brackets (braces (word "abs" ∷ int (negsuc 9223372036854775807) ∷ []) ∷ braces (word "div" ∷ int (negsuc 9223372036854775807) ∷ int (negsuc 0) ∷ []) ∷ braces (word "-" ∷ int (negsuc 9223372036854775807) ∷ number 1 ∷ []) ∷ braces (word "+" ∷ number 9223372036854775806 ∷ number 1 ∷ []) ∷ braces (word "-" ∷ int (negsuc 9223372036854775806) ∷ number 1 ∷ []) ∷ braces (word "*" ∷ number 4294967296 ∷ number 4294967296 ∷ []) ∷ braces (word "bnot" ∷ number 9223372036854775807 ∷ []) ∷ []) ∷ []) ∷ []) ∷ []) ∷ [])) []
    [])
    (0 ∷ 0 ∷ 0 ∷ 100 ∷ 100 ∷ 100 ∷ [])
    ≡ lines ("== session s1 tracer t1" ∷ "{trace,<0.100.0>,call,{m,f,[1]},['EXIT','EXIT','EXIT',9223372036854775807,-9223372036854775808,'EXIT',-9223372036854775808]}" ∷ "== replies" ∷ "{session,s1}" ∷ "1" ∷ "1" ∷ "== journal" ∷ "0 0 0 100 100 100" ∷ [])
unfolding is_written_bare digits
values_at_the_end_of_64_bits = refl

-- the order of terms
values_of_comparisons : program_output (script_k (call_named "f" (number 1 ∷ []) ∷ [])
    (mfa_of "f" 1) (brackets (braces (brackets (word "$1" ∷ []) ∷ brackets [] ∷ brackets (braces (word "message" ∷ brackets (braces (word "<" ∷ number 1 ∷ word "a" ∷ []) ∷ braces (word "<" ∷ word "a" ∷ pid 1 ∷ []) ∷ braces (word "<" ∷ pid 9 ∷ braces (braces [] ∷ []) ∷ []) ∷ braces (word "<" ∷ braces (braces (word "a" ∷ word "b" ∷ []) ∷ []) ∷ brackets [] ∷ []) ∷ braces (word "<" ∷ brackets [] ∷ brackets (number 0 ∷ []) ∷ []) ∷ braces (word "<" ∷ braces (braces (word "z" ∷ []) ∷ []) ∷ braces (braces (word "a" ∷ word "a" ∷ []) ∷ []) ∷ []) ∷ braces (word "<" ∷ word "ab" ∷ word "abc" ∷ []) ∷ braces (word "<" ∷ brackets (number 1 ∷ number 2 ∷ []) ∷ brackets (number 1 ∷ number 3 ∷ []) ∷ []) ∷ braces (word "<" ∷ pid 9 ∷ pid 10 ∷ []) ∷ braces (word "<" ∷ int (negsuc 1) ∷ int (negsuc 0) ∷ []) ∷ braces (word ">" ∷ number 2 ∷ number 1 ∷ []) ∷ braces (word ">" ∷ number 1 ∷ number 1 ∷ []) ∷ braces (word ">=" ∷ number 1 ∷ number 1 ∷ []) ∷ braces (word ">=" ∷ number 1 ∷ number 2 ∷ []) ∷ braces (word "=<" ∷ number 1 ∷ number 1 ∷ []) ∷ braces (word "=<" ∷ number 2 ∷ number 1 ∷ []) ∷ braces (word "<" ∷ number 1 ∷ number 1 ∷ []) ∷ []) ∷ []) ∷ []) ∷ []) ∷ [])) []
    [])
    (0 ∷ 0 ∷ 0 ∷ 100 ∷ 100 ∷ 100 ∷ [])
    ≡ lines ("== session s1 tracer t1" ∷ "{trace,<0.100.0>,call,{m,f,[1]},[true,true,true,true,true,true,true,true,true,true,true,false,true,false,true,false,false]}" ∷ "== replies" ∷ "{session,s1}" ∷ "1" ∷ "1" ∷ "== journal" ∷ "0 0 0 100 100 100" ∷ [])
unfolding is_written_bare digits
values_of_comparisons = refl

-- equality
values_of_equality : program_output (script_k (call_named "f" (number 1 ∷ []) ∷ [])
    (mfa_of "f" 1) (brackets (braces (brackets (word "$1" ∷ []) ∷ brackets [] ∷ brackets (braces (word "message" ∷ brackets (braces (word "==" ∷ word "a" ∷ word "a" ∷ []) ∷ braces (word "==" ∷ word "a" ∷ word "b" ∷ []) ∷ braces (word "=:=" ∷ word "a" ∷ word "a" ∷ []) ∷ braces (word "=:=" ∷ word "a" ∷ word "b" ∷ []) ∷ braces (word "/=" ∷ word "a" ∷ word "a" ∷ []) ∷ braces (word "/=" ∷ word "a" ∷ word "b" ∷ []) ∷ braces (word "=/=" ∷ word "a" ∷ word "a" ∷ []) ∷ braces (word "=/=" ∷ word "a" ∷ word "b" ∷ []) ∷ braces (word "==" ∷ braces (braces (number 1 ∷ brackets (word "a" ∷ []) ∷ []) ∷ []) ∷ braces (braces (number 1 ∷ brackets (word "a" ∷ []) ∷ []) ∷ []) ∷ []) ∷ braces (word "==" ∷ brackets [] ∷ braces (braces [] ∷ []) ∷ []) ∷ []) ∷ []) ∷ []) ∷ []) ∷ [])) []
    [])
    (0 ∷ 0 ∷ 0 ∷ 100 ∷ 100 ∷ 100 ∷ [])
    ≡ lines ("== session s1 tracer t1" ∷ "{trace,<0.100.0>,call,{m,f,[1]},[true,false,true,false,false,true,false,true,true,false]}" ∷ "== replies" ∷ "{session,s1}" ∷ "1" ∷ "1" ∷ "== journal" ∷ "0 0 0 100 100 100" ∷ [])
unfolding is_written_bare digits
values_of_equality = refl

-- what the event gives
values_of_the_context : program_output (script_k (call_named "f" (number 1 ∷ []) ∷ [])
    (mfa_of "f" 1) (brackets (braces (brackets (word "$1" ∷ []) ∷ brackets [] ∷ brackets (braces (word "message" ∷ brackets (braces (word "self" ∷ []) ∷ braces (word "node" ∷ []) ∷ braces (word "node" ∷ pid 5 ∷ []) ∷ braces (word "node" ∷ word "a" ∷ []) ∷ word "$_" ∷ word "$1" ∷ word "$$" ∷ braces (word "const" ∷ word "$1" ∷ []) ∷ braces (braces (word "a" ∷ word "$1" ∷ []) ∷ []) ∷ braces (braces [] ∷ []) ∷ brackets [] ∷ word "a" ∷ []) ∷ []) ∷ []) ∷ []) ∷ [])) []
    [])
    (0 ∷ 0 ∷ 0 ∷ 100 ∷ 100 ∷ 100 ∷ [])
    ≡ lines ("== session s1 tracer t1" ∷ "{trace,<0.100.0>,call,{m,f,[1]},[<0.100.0>,nonode@nohost,nonode@nohost,'EXIT',[1],1,[1],'$1',{a,1},{},[],a]}" ∷ "== replies" ∷ "{session,s1}" ∷ "1" ∷ "1" ∷ "== journal" ∷ "0 0 0 100 100 100" ∷ [])
unfolding is_written_bare digits
values_of_the_context = refl
