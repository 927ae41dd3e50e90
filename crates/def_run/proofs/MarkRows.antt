-- Worked rows, computed: marks, and settings one after another.
use Rattle.std.proofs.Common.{◌≡◌, [], ◌∷◌, refl}
use Rattle.std.specs.Fmt.{digits}
use Rattle.def_term.specs.Names.{word}
use Rattle.def_term.specs.Text.{is_written_bare}
use Rattle.def_script.specs.Program.{give_back}
use Rattle.def_run.specs.Listing.{program_output}
use Rattle.def_run.proofs.Samples.{number, braces, brackets, function, entry, call_named, call_unnamed, program, creates, sets, mfa_of, sets_function, lines, script_k}

-- a return removes the mark
marks_end_with_their_frames : program_output (script_k (call_named "f" (number 1 ∷ []) ∷ call_named "g" (word "a" ∷ word "b" ∷ []) ∷ [])
    (mfa_of "f" 1) (brackets (braces (word "_" ∷ brackets [] ∷ brackets (braces (word "return_trace" ∷ []) ∷ []) ∷ []) ∷ [])) []
    [])
    (0 ∷ 0 ∷ 0 ∷ 100 ∷ 100 ∷ 100 ∷ 100 ∷ 100 ∷ [])
    ≡ lines ("== session s1 tracer t1" ∷ "{trace,<0.100.0>,call,{m,f,[1]}}" ∷ "{trace,<0.100.0>,return_from,{m,f,1},1}" ∷ "== replies" ∷ "{session,s1}" ∷ "1" ∷ "1" ∷ "== journal" ∷ "0 0 0 100 100 100 100 100" ∷ [])
unfolding is_written_bare digits
marks_end_with_their_frames = refl

-- a return is reported by a mark for exceptions too
exception_trace_marks : program_output (script_k (call_named "f" (number 1 ∷ []) ∷ [])
    (mfa_of "f" 1) (brackets (braces (word "_" ∷ brackets [] ∷ brackets (braces (word "exception_trace" ∷ []) ∷ []) ∷ []) ∷ [])) []
    [])
    (0 ∷ 0 ∷ 0 ∷ 100 ∷ 100 ∷ 100 ∷ [])
    ≡ lines ("== session s1 tracer t1" ∷ "{trace,<0.100.0>,call,{m,f,[1]}}" ∷ "{trace,<0.100.0>,return_from,{m,f,1},1}" ∷ "== replies" ∷ "{session,s1}" ∷ "1" ∷ "1" ∷ "== journal" ∷ "0 0 0 100 100 100" ∷ [])
unfolding is_written_bare digits
exception_trace_marks = refl

-- no return where `call` was cleared
return_without_call : program_output (script_k (call_named "f" (number 1 ∷ []) ∷ [])
    (mfa_of "f" 1) (brackets (braces (word "_" ∷ brackets [] ∷ brackets (braces (word "return_trace" ∷ []) ∷ braces (word "disable_trace" ∷ word "call" ∷ []) ∷ []) ∷ []) ∷ [])) []
    [])
    (0 ∷ 0 ∷ 0 ∷ 100 ∷ 100 ∷ 100 ∷ [])
    ≡ lines ("== session s1 tracer t1" ∷ "{trace,<0.100.0>,call,{m,f,[1]}}" ∷ "== replies" ∷ "{session,s1}" ∷ "1" ∷ "1" ∷ "== journal" ∷ "0 0 0 100 100 100" ∷ [])
unfolding is_written_bare digits
return_without_call = refl

-- nor while `silent`
return_while_silent : program_output (script_k (call_named "f" (number 1 ∷ []) ∷ [])
    (mfa_of "f" 1) (brackets (braces (word "_" ∷ brackets [] ∷ brackets (braces (word "return_trace" ∷ []) ∷ braces (word "silent" ∷ word "true" ∷ []) ∷ []) ∷ []) ∷ [])) []
    [])
    (0 ∷ 0 ∷ 0 ∷ 100 ∷ 100 ∷ 100 ∷ [])
    ≡ lines ("== session s1 tracer t1" ∷ "== replies" ∷ "{session,s1}" ∷ "1" ∷ "1" ∷ "== journal" ∷ "0 0 0 100 100 100" ∷ [])
unfolding is_written_bare digits
return_while_silent = refl

-- the return of the entry frame, and the exit in the same step
returns_to_the_end : program_output (script_k (call_named "f" (number 1 ∷ []) ∷ [])
    (braces (word "m" ∷ word "_" ∷ word "_" ∷ [])) (brackets (braces (word "_" ∷ brackets [] ∷ brackets (braces (word "return_trace" ∷ []) ∷ []) ∷ []) ∷ [])) []
    (sets "s1" (word "all") ("procs" ∷ []) ∷ []))
    (0 ∷ 0 ∷ 0 ∷ 0 ∷ 100 ∷ 100 ∷ 100 ∷ 100 ∷ [])
    ≡ lines ("== session s1 tracer t1" ∷ "{trace,<0.100.0>,call,{m,go,[]}}" ∷ "{trace,<0.100.0>,call,{m,f,[1]}}" ∷ "{trace,<0.100.0>,return_from,{m,f,1},1}" ∷ "{trace,<0.100.0>,return_from,{m,go,0},ok}" ∷ "{trace,<0.100.0>,exit,normal}" ∷ "== replies" ∷ "{session,s1}" ∷ "1" ∷ "3" ∷ "1" ∷ "== journal" ∷ "0 0 0 0 100 100 100 100" ∷ [])
unfolding is_written_bare digits
returns_to_the_end = refl

-- a mark is of one process
marks_of_one_process : program_output (program
    (function "a" [] (call_named "f" (number 1 ∷ []) ∷ []) ∷ function "b" [] (call_named "g" (number 1 ∷ []) ∷ []) ∷ function "f" ("X" ∷ []) (give_back (word "X") ∷ []) ∷ function "g" ("X" ∷ []) (give_back (word "X") ∷ []) ∷ [])
    (entry "a" [] ∷ entry "b" [] ∷ [])
    (creates "s1" "t1" ∷ sets "s1" (word "all") ("call" ∷ []) ∷ sets_function "s1" (mfa_of "f" 1) (brackets (braces (word "_" ∷ brackets [] ∷ brackets (braces (word "return_trace" ∷ []) ∷ []) ∷ []) ∷ [])) [] ∷ []))
    (0 ∷ 0 ∷ 0 ∷ 100 ∷ 100 ∷ 101 ∷ 101 ∷ 101 ∷ 100 ∷ [])
    ≡ lines ("== session s1 tracer t1" ∷ "{trace,<0.100.0>,call,{m,f,[1]}}" ∷ "{trace,<0.100.0>,return_from,{m,f,1},1}" ∷ "== replies" ∷ "{session,s1}" ∷ "2" ∷ "1" ∷ "== journal" ∷ "0 0 0 100 100 101 101 101 100" ∷ [])
unfolding is_written_bare digits
marks_of_one_process = refl

-- and of one depth
marks_of_one_depth : program_output (program
    (function "a" [] (call_named "f" (number 1 ∷ []) ∷ []) ∷ function "f" ("X" ∷ []) (call_named "g" (number 2 ∷ []) ∷ give_back (word "done") ∷ []) ∷ function "g" ("X" ∷ []) (give_back (word "X") ∷ []) ∷ [])
    (entry "a" [] ∷ [])
    (creates "s1" "t1" ∷ sets "s1" (word "all") ("call" ∷ []) ∷ sets_function "s1" (mfa_of "f" 1) (brackets (braces (word "_" ∷ brackets [] ∷ brackets (braces (word "return_trace" ∷ []) ∷ []) ∷ []) ∷ [])) [] ∷ []))
    (0 ∷ 0 ∷ 0 ∷ 100 ∷ 100 ∷ 100 ∷ 100 ∷ 100 ∷ [])
    ≡ lines ("== session s1 tracer t1" ∷ "{trace,<0.100.0>,call,{m,f,[1]}}" ∷ "{trace,<0.100.0>,return_from,{m,f,1},done}" ∷ "== replies" ∷ "{session,s1}" ∷ "1" ∷ "1" ∷ "== journal" ∷ "0 0 0 100 100 100 100 100" ∷ [])
unfolding is_written_bare digits
marks_of_one_depth = refl

-- `false` removes, and the older setting does not show through
older_setting_is_replaced : program_output (script_k (call_named "f" (number 2 ∷ []) ∷ [])
    (braces (word "m" ∷ word "_" ∷ word "_" ∷ [])) (word "true") []
    (sets_function "s1" (mfa_of "f" 1) (word "false") [] ∷ []))
    (0 ∷ 0 ∷ 0 ∷ 0 ∷ 100 ∷ 100 ∷ 100 ∷ [])
    ≡ lines ("== session s1 tracer t1" ∷ "{trace,<0.100.0>,call,{m,go,[]}}" ∷ "== replies" ∷ "{session,s1}" ∷ "1" ∷ "3" ∷ "1" ∷ "== journal" ∷ "0 0 0 0 100 100 100" ∷ [])
unfolding is_written_bare digits
older_setting_is_replaced = refl

-- a global setting over a local one hides the calls that do not name the module
global_over_local : program_output (script_k (call_unnamed "f" (number 1 ∷ []) ∷ call_named "f" (number 2 ∷ []) ∷ [])
    (mfa_of "f" 1) (word "true") ("local" ∷ [])
    (sets_function "s1" (mfa_of "f" 1) (brackets (braces (word "_" ∷ brackets [] ∷ brackets (braces (word "message" ∷ word "x" ∷ []) ∷ []) ∷ []) ∷ [])) [] ∷ []))
    (0 ∷ 0 ∷ 0 ∷ 0 ∷ 100 ∷ 100 ∷ 100 ∷ 100 ∷ 100 ∷ [])
    ≡ lines ("== session s1 tracer t1" ∷ "{trace,<0.100.0>,call,{m,f,[2]},x}" ∷ "== replies" ∷ "{session,s1}" ∷ "1" ∷ "1" ∷ "1" ∷ "== journal" ∷ "0 0 0 0 100 100 100 100 100" ∷ [])
unfolding is_written_bare digits
global_over_local = refl
