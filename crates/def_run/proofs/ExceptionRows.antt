-- Worked rows, computed: exceptions.
use Rattle.std.proofs.Common.{◌≡◌, List, [], ◌∷◌, Some, None, codes, refl}
use Rattle.std.specs.Fmt.{digits}
use Prim.Native.String.{String}
use Rattle.def_term.specs.Tree.{Tree, pid}
use Rattle.def_term.specs.Names.{word}
use Rattle.def_term.specs.Text.{is_written_bare}
use Rattle.def_script.specs.Program.{Program, Step, receive, call_remote, catch, link, give_back, raise, error, throw, exit}
use Rattle.def_run.specs.Listing.{program_output}
use Rattle.def_run.proofs.Samples.{number, braces, brackets, function, entry, call_named, program, creates, sets, clears, mfa_of, sets_function, lines}

-- a call of m:f that is a catch, with its value in 'X'
abbrev catches : String → List Tree → Step
catches f args = catch (Some (codes "X")) (codes "m") (codes f) args

-- go makes the first step, which calls f, and returns 'X'; f calls g, which makes the last step. Each call of m has this body
abbrev chain : Step → Step → List Tree → Program
chain first last body = program
    (function "go" [] (first ∷ give_back (word "X") ∷ []) ∷ function "f" ("X" ∷ []) (call_named "g" (word "X" ∷ []) ∷ []) ∷ function "g" ("X" ∷ []) (last ∷ []) ∷ [])
    (entry "go" [] ∷ [])
    (creates "s1" "t1" ∷ sets "s1" (word "all") ("call" ∷ "procs" ∷ []) ∷ sets_function "s1" (braces (word "m" ∷ word "_" ∷ word "_" ∷ [])) (brackets (braces (word "_" ∷ brackets [] ∷ brackets body ∷ []) ∷ [])) [] ∷ [])

-- an error that is caught: the frames of g and f are left, and the catch has its value
caught_error : program_output (chain (catches "f" (number 1 ∷ [])) (raise error (braces (word "bad" ∷ word "X" ∷ []))) (braces (word "exception_trace" ∷ []) ∷ []))
    (0 ∷ 0 ∷ 0 ∷ 100 ∷ 100 ∷ 100 ∷ 100 ∷ 100 ∷ [])
    ≡ lines ("== session s1 tracer t1" ∷ "{trace,<0.100.0>,call,{m,go,[]}}" ∷ "{trace,<0.100.0>,call,{m,f,[1]}}" ∷ "{trace,<0.100.0>,call,{m,g,[1]}}" ∷ "{trace,<0.100.0>,exception_from,{m,g,1},{error,{bad,1}}}" ∷ "{trace,<0.100.0>,exception_from,{m,f,1},{error,{bad,1}}}" ∷ "{trace,<0.100.0>,return_from,{m,go,0},{'EXIT',{{bad,1},[]}}}" ∷ "{trace,<0.100.0>,exit,normal}" ∷ "== replies" ∷ "{session,s1}" ∷ "1" ∷ "3" ∷ "== journal" ∷ "0 0 0 100 100 100 100 100" ∷ [])
unfolding is_written_bare digits
caught_error = refl

-- with marks for returns the same, but no exception is reported
caught_error_marked_for_returns : program_output (chain (catches "f" (number 1 ∷ [])) (raise error (braces (word "bad" ∷ word "X" ∷ []))) (braces (word "return_trace" ∷ []) ∷ []))
    (0 ∷ 0 ∷ 0 ∷ 100 ∷ 100 ∷ 100 ∷ 100 ∷ 100 ∷ [])
    ≡ lines ("== session s1 tracer t1" ∷ "{trace,<0.100.0>,call,{m,go,[]}}" ∷ "{trace,<0.100.0>,call,{m,f,[1]}}" ∷ "{trace,<0.100.0>,call,{m,g,[1]}}" ∷ "{trace,<0.100.0>,return_from,{m,go,0},{'EXIT',{{bad,1},[]}}}" ∷ "{trace,<0.100.0>,exit,normal}" ∷ "== replies" ∷ "{session,s1}" ∷ "1" ∷ "3" ∷ "== journal" ∷ "0 0 0 100 100 100 100 100" ∷ [])
unfolding is_written_bare digits
caught_error_marked_for_returns = refl

-- a throw that is caught
caught_throw : program_output (chain (catches "f" (number 1 ∷ [])) (raise throw (braces (word "bad" ∷ word "X" ∷ []))) (braces (word "exception_trace" ∷ []) ∷ []))
    (0 ∷ 0 ∷ 0 ∷ 100 ∷ 100 ∷ 100 ∷ 100 ∷ 100 ∷ [])
    ≡ lines ("== session s1 tracer t1" ∷ "{trace,<0.100.0>,call,{m,go,[]}}" ∷ "{trace,<0.100.0>,call,{m,f,[1]}}" ∷ "{trace,<0.100.0>,call,{m,g,[1]}}" ∷ "{trace,<0.100.0>,exception_from,{m,g,1},{throw,{bad,1}}}" ∷ "{trace,<0.100.0>,exception_from,{m,f,1},{throw,{bad,1}}}" ∷ "{trace,<0.100.0>,return_from,{m,go,0},{bad,1}}" ∷ "{trace,<0.100.0>,exit,normal}" ∷ "== replies" ∷ "{session,s1}" ∷ "1" ∷ "3" ∷ "== journal" ∷ "0 0 0 100 100 100 100 100" ∷ [])
unfolding is_written_bare digits
caught_throw = refl

caught_throw_marked_for_returns : program_output (chain (catches "f" (number 1 ∷ [])) (raise throw (braces (word "bad" ∷ word "X" ∷ []))) (braces (word "return_trace" ∷ []) ∷ []))
    (0 ∷ 0 ∷ 0 ∷ 100 ∷ 100 ∷ 100 ∷ 100 ∷ 100 ∷ [])
    ≡ lines ("== session s1 tracer t1" ∷ "{trace,<0.100.0>,call,{m,go,[]}}" ∷ "{trace,<0.100.0>,call,{m,f,[1]}}" ∷ "{trace,<0.100.0>,call,{m,g,[1]}}" ∷ "{trace,<0.100.0>,return_from,{m,go,0},{bad,1}}" ∷ "{trace,<0.100.0>,exit,normal}" ∷ "== replies" ∷ "{session,s1}" ∷ "1" ∷ "3" ∷ "== journal" ∷ "0 0 0 100 100 100 100 100" ∷ [])
unfolding is_written_bare digits
caught_throw_marked_for_returns = refl

-- an exit that is caught
caught_exit : program_output (chain (catches "f" (number 1 ∷ [])) (raise exit (braces (word "bad" ∷ word "X" ∷ []))) (braces (word "exception_trace" ∷ []) ∷ []))
    (0 ∷ 0 ∷ 0 ∷ 100 ∷ 100 ∷ 100 ∷ 100 ∷ 100 ∷ [])
    ≡ lines ("== session s1 tracer t1" ∷ "{trace,<0.100.0>,call,{m,go,[]}}" ∷ "{trace,<0.100.0>,call,{m,f,[1]}}" ∷ "{trace,<0.100.0>,call,{m,g,[1]}}" ∷ "{trace,<0.100.0>,exception_from,{m,g,1},{exit,{bad,1}}}" ∷ "{trace,<0.100.0>,exception_from,{m,f,1},{exit,{bad,1}}}" ∷ "{trace,<0.100.0>,return_from,{m,go,0},{'EXIT',{bad,1}}}" ∷ "{trace,<0.100.0>,exit,normal}" ∷ "== replies" ∷ "{session,s1}" ∷ "1" ∷ "3" ∷ "== journal" ∷ "0 0 0 100 100 100 100 100" ∷ [])
unfolding is_written_bare digits
caught_exit = refl

caught_exit_marked_for_returns : program_output (chain (catches "f" (number 1 ∷ [])) (raise exit (braces (word "bad" ∷ word "X" ∷ []))) (braces (word "return_trace" ∷ []) ∷ []))
    (0 ∷ 0 ∷ 0 ∷ 100 ∷ 100 ∷ 100 ∷ 100 ∷ 100 ∷ [])
    ≡ lines ("== session s1 tracer t1" ∷ "{trace,<0.100.0>,call,{m,go,[]}}" ∷ "{trace,<0.100.0>,call,{m,f,[1]}}" ∷ "{trace,<0.100.0>,call,{m,g,[1]}}" ∷ "{trace,<0.100.0>,return_from,{m,go,0},{'EXIT',{bad,1}}}" ∷ "{trace,<0.100.0>,exit,normal}" ∷ "== replies" ∷ "{session,s1}" ∷ "1" ∷ "3" ∷ "== journal" ∷ "0 0 0 100 100 100 100 100" ∷ [])
unfolding is_written_bare digits
caught_exit_marked_for_returns = refl

-- a throw that no catch takes leaves all frames as an error, and the process exits in the same step
uncaught_throw : program_output (chain (call_remote (Some (codes "X")) (codes "m") (codes "f") (number 1 ∷ [])) (raise throw (braces (word "bad" ∷ word "X" ∷ []))) (braces (word "exception_trace" ∷ []) ∷ []))
    (0 ∷ 0 ∷ 0 ∷ 100 ∷ 100 ∷ 100 ∷ 100 ∷ [])
    ≡ lines ("== session s1 tracer t1" ∷ "{trace,<0.100.0>,call,{m,go,[]}}" ∷ "{trace,<0.100.0>,call,{m,f,[1]}}" ∷ "{trace,<0.100.0>,call,{m,g,[1]}}" ∷ "{trace,<0.100.0>,exception_from,{m,g,1},{error,{nocatch,{bad,1}}}}" ∷ "{trace,<0.100.0>,exception_from,{m,f,1},{error,{nocatch,{bad,1}}}}" ∷ "{trace,<0.100.0>,exception_from,{m,go,0},{error,{nocatch,{bad,1}}}}" ∷ "{trace,<0.100.0>,exit,{{nocatch,{bad,1}},[]}}" ∷ "== replies" ∷ "{session,s1}" ∷ "1" ∷ "3" ∷ "== journal" ∷ "0 0 0 100 100 100 100" ∷ [])
unfolding is_written_bare digits
uncaught_throw = refl

-- with marks for returns none of them is reported
uncaught_throw_marked_for_returns : program_output (chain (call_remote (Some (codes "X")) (codes "m") (codes "f") (number 1 ∷ [])) (raise throw (braces (word "bad" ∷ word "X" ∷ []))) (braces (word "return_trace" ∷ []) ∷ []))
    (0 ∷ 0 ∷ 0 ∷ 100 ∷ 100 ∷ 100 ∷ 100 ∷ [])
    ≡ lines ("== session s1 tracer t1" ∷ "{trace,<0.100.0>,call,{m,go,[]}}" ∷ "{trace,<0.100.0>,call,{m,f,[1]}}" ∷ "{trace,<0.100.0>,call,{m,g,[1]}}" ∷ "{trace,<0.100.0>,exit,{{nocatch,{bad,1}},[]}}" ∷ "== replies" ∷ "{session,s1}" ∷ "1" ∷ "3" ∷ "== journal" ∷ "0 0 0 100 100 100 100" ∷ [])
unfolding is_written_bare digits
uncaught_throw_marked_for_returns = refl

-- an error that no catch takes
uncaught_error : program_output (chain (call_remote (Some (codes "X")) (codes "m") (codes "f") (number 1 ∷ [])) (raise error (braces (word "bad" ∷ word "X" ∷ []))) (braces (word "exception_trace" ∷ []) ∷ []))
    (0 ∷ 0 ∷ 0 ∷ 100 ∷ 100 ∷ 100 ∷ 100 ∷ [])
    ≡ lines ("== session s1 tracer t1" ∷ "{trace,<0.100.0>,call,{m,go,[]}}" ∷ "{trace,<0.100.0>,call,{m,f,[1]}}" ∷ "{trace,<0.100.0>,call,{m,g,[1]}}" ∷ "{trace,<0.100.0>,exception_from,{m,g,1},{error,{bad,1}}}" ∷ "{trace,<0.100.0>,exception_from,{m,f,1},{error,{bad,1}}}" ∷ "{trace,<0.100.0>,exception_from,{m,go,0},{error,{bad,1}}}" ∷ "{trace,<0.100.0>,exit,{{bad,1},[]}}" ∷ "== replies" ∷ "{session,s1}" ∷ "1" ∷ "3" ∷ "== journal" ∷ "0 0 0 100 100 100 100" ∷ [])
unfolding is_written_bare digits
uncaught_error = refl

-- and an exit
uncaught_exit : program_output (chain (call_remote (Some (codes "X")) (codes "m") (codes "f") (number 1 ∷ [])) (raise exit (braces (word "bad" ∷ word "X" ∷ []))) (braces (word "exception_trace" ∷ []) ∷ []))
    (0 ∷ 0 ∷ 0 ∷ 100 ∷ 100 ∷ 100 ∷ 100 ∷ [])
    ≡ lines ("== session s1 tracer t1" ∷ "{trace,<0.100.0>,call,{m,go,[]}}" ∷ "{trace,<0.100.0>,call,{m,f,[1]}}" ∷ "{trace,<0.100.0>,call,{m,g,[1]}}" ∷ "{trace,<0.100.0>,exception_from,{m,g,1},{exit,{bad,1}}}" ∷ "{trace,<0.100.0>,exception_from,{m,f,1},{exit,{bad,1}}}" ∷ "{trace,<0.100.0>,exception_from,{m,go,0},{exit,{bad,1}}}" ∷ "{trace,<0.100.0>,exit,{bad,1}}" ∷ "== replies" ∷ "{session,s1}" ∷ "1" ∷ "3" ∷ "== journal" ∷ "0 0 0 100 100 100 100" ∷ [])
unfolding is_written_bare digits
uncaught_exit = refl

-- a mark is for exceptions where exception_trace stands beside return_trace, before it or after it
both_traces : program_output (chain (call_remote (Some (codes "X")) (codes "m") (codes "f") (number 1 ∷ [])) (raise exit (braces (word "bad" ∷ word "X" ∷ []))) (braces (word "return_trace" ∷ []) ∷ braces (word "exception_trace" ∷ []) ∷ []))
    (0 ∷ 0 ∷ 0 ∷ 100 ∷ 100 ∷ 100 ∷ 100 ∷ [])
    ≡ lines ("== session s1 tracer t1" ∷ "{trace,<0.100.0>,call,{m,go,[]}}" ∷ "{trace,<0.100.0>,call,{m,f,[1]}}" ∷ "{trace,<0.100.0>,call,{m,g,[1]}}" ∷ "{trace,<0.100.0>,exception_from,{m,g,1},{exit,{bad,1}}}" ∷ "{trace,<0.100.0>,exception_from,{m,f,1},{exit,{bad,1}}}" ∷ "{trace,<0.100.0>,exception_from,{m,go,0},{exit,{bad,1}}}" ∷ "{trace,<0.100.0>,exit,{bad,1}}" ∷ "== replies" ∷ "{session,s1}" ∷ "1" ∷ "3" ∷ "== journal" ∷ "0 0 0 100 100 100 100" ∷ [])
unfolding is_written_bare digits
both_traces = refl

both_traces_the_other_way : program_output (chain (call_remote (Some (codes "X")) (codes "m") (codes "f") (number 1 ∷ [])) (raise exit (braces (word "bad" ∷ word "X" ∷ []))) (braces (word "exception_trace" ∷ []) ∷ braces (word "return_trace" ∷ []) ∷ []))
    (0 ∷ 0 ∷ 0 ∷ 100 ∷ 100 ∷ 100 ∷ 100 ∷ [])
    ≡ lines ("== session s1 tracer t1" ∷ "{trace,<0.100.0>,call,{m,go,[]}}" ∷ "{trace,<0.100.0>,call,{m,f,[1]}}" ∷ "{trace,<0.100.0>,call,{m,g,[1]}}" ∷ "{trace,<0.100.0>,exception_from,{m,g,1},{exit,{bad,1}}}" ∷ "{trace,<0.100.0>,exception_from,{m,f,1},{exit,{bad,1}}}" ∷ "{trace,<0.100.0>,exception_from,{m,go,0},{exit,{bad,1}}}" ∷ "{trace,<0.100.0>,exit,{bad,1}}" ∷ "== replies" ∷ "{session,s1}" ∷ "1" ∷ "3" ∷ "== journal" ∷ "0 0 0 100 100 100 100" ∷ [])
unfolding is_written_bare digits
both_traces_the_other_way = refl

-- `{message,false}` leaves exception_from
no_message_still_tells_exceptions : program_output (chain (call_remote (Some (codes "X")) (codes "m") (codes "f") (number 1 ∷ [])) (raise exit (braces (word "bad" ∷ word "X" ∷ []))) (braces (word "message" ∷ word "false" ∷ []) ∷ braces (word "exception_trace" ∷ []) ∷ []))
    (0 ∷ 0 ∷ 0 ∷ 100 ∷ 100 ∷ 100 ∷ 100 ∷ [])
    ≡ lines ("== session s1 tracer t1" ∷ "{trace,<0.100.0>,exception_from,{m,g,1},{exit,{bad,1}}}" ∷ "{trace,<0.100.0>,exception_from,{m,f,1},{exit,{bad,1}}}" ∷ "{trace,<0.100.0>,exception_from,{m,go,0},{exit,{bad,1}}}" ∷ "{trace,<0.100.0>,exit,{bad,1}}" ∷ "== replies" ∷ "{session,s1}" ∷ "1" ∷ "3" ∷ "== journal" ∷ "0 0 0 100 100 100 100" ∷ [])
unfolding is_written_bare digits
no_message_still_tells_exceptions = refl

-- `silent` inhibits exception_from
silent_exceptions : program_output (chain (call_remote (Some (codes "X")) (codes "m") (codes "f") (number 1 ∷ [])) (raise exit (braces (word "bad" ∷ word "X" ∷ []))) (braces (word "silent" ∷ word "true" ∷ []) ∷ braces (word "exception_trace" ∷ []) ∷ []))
    (0 ∷ 0 ∷ 0 ∷ 100 ∷ 100 ∷ 100 ∷ 100 ∷ [])
    ≡ lines ("== session s1 tracer t1" ∷ "{trace,<0.100.0>,exit,{bad,1}}" ∷ "== replies" ∷ "{session,s1}" ∷ "1" ∷ "3" ∷ "== journal" ∷ "0 0 0 100 100 100 100" ∷ [])
unfolding is_written_bare digits
silent_exceptions = refl

-- `badarg` is raised by no step: the marked frames tell nothing, and no catch takes it
badarg_is_no_exception : program_output (chain (catches "f" (number 1 ∷ [])) (link (number 1)) (braces (word "exception_trace" ∷ []) ∷ []))
    (0 ∷ 0 ∷ 0 ∷ 100 ∷ 100 ∷ 100 ∷ 100 ∷ [])
    ≡ lines ("== session s1 tracer t1" ∷ "{trace,<0.100.0>,call,{m,go,[]}}" ∷ "{trace,<0.100.0>,call,{m,f,[1]}}" ∷ "{trace,<0.100.0>,call,{m,g,[1]}}" ∷ "{trace,<0.100.0>,exit,badarg}" ∷ "== replies" ∷ "{session,s1}" ∷ "1" ∷ "3" ∷ "== journal" ∷ "0 0 0 100 100 100 100" ∷ [])
unfolding is_written_bare digits
badarg_is_no_exception = refl

-- the caller of what a catch calls is the function of the catch step
caller_of_a_catch : program_output (chain (catches "f" (number 1 ∷ [])) (raise throw (braces (word "bad" ∷ word "X" ∷ []))) (braces (word "message" ∷ braces (word "caller" ∷ []) ∷ []) ∷ []))
    (0 ∷ 0 ∷ 0 ∷ 100 ∷ 100 ∷ 100 ∷ 100 ∷ 100 ∷ [])
    ≡ lines ("== session s1 tracer t1" ∷ "{trace,<0.100.0>,call,{m,go,[]},undefined}" ∷ "{trace,<0.100.0>,call,{m,f,[1]},{m,go,0}}" ∷ "{trace,<0.100.0>,call,{m,g,[1]},{m,f,1}}" ∷ "{trace,<0.100.0>,exit,normal}" ∷ "== replies" ∷ "{session,s1}" ∷ "1" ∷ "3" ∷ "== journal" ∷ "0 0 0 100 100 100 100 100" ∷ [])
unfolding is_written_bare digits
caller_of_a_catch = refl

-- the mark of a frame that is left is gone, though `call` was clear and nothing was reported: a later frame of that depth has none
a_mark_goes_with_its_frame : program_output (program
    (function "go" [] (catch None (codes "m") (codes "f") (number 1 ∷ []) ∷ call_named "f" (number 2 ∷ []) ∷ []) ∷ function "f" ("X" ∷ []) (catch None (codes "m") (codes "g") (word "X" ∷ []) ∷ give_back (word "X") ∷ []) ∷ function "g" ("X" ∷ []) (raise throw (word "X") ∷ []) ∷ [])
    (entry "go" [] ∷ [])
    (creates "s1" "t1" ∷ sets "s1" (word "all") ("call" ∷ []) ∷ sets_function "s1" (mfa_of "g" 1) (brackets (braces (word "_" ∷ brackets [] ∷ brackets (braces (word "exception_trace" ∷ []) ∷ []) ∷ []) ∷ [])) [] ∷ clears "s1" (word "all") ("call" ∷ []) ∷ sets "s1" (word "all") ("call" ∷ []) ∷ sets_function "s1" (mfa_of "g" 1) (word "false") [] ∷ []))
    (0 ∷ 0 ∷ 0 ∷ 100 ∷ 100 ∷ 100 ∷ 0 ∷ 100 ∷ 0 ∷ 0 ∷ 100 ∷ 100 ∷ 100 ∷ 100 ∷ 100 ∷ [])
    ≡ lines ("== session s1 tracer t1" ∷ "{trace,<0.100.0>,call,{m,g,[1]}}" ∷ "== replies" ∷ "{session,s1}" ∷ "1" ∷ "1" ∷ "1" ∷ "1" ∷ "1" ∷ "== journal" ∷ "0 0 0 100 100 100 0 100 0 0 100 100 100 100 100" ∷ [])
unfolding is_written_bare digits
a_mark_goes_with_its_frame = refl

-- the partner of a process that an exception ends gets its reason, after all that reports of frames
partner_of_a_throw : program_output (program
    (function "go" [] (link (pid 101) ∷ raise throw (word "boom") ∷ []) ∷ function "peer" [] (receive None ∷ []) ∷ [])
    (entry "go" [] ∷ entry "peer" [] ∷ [])
    (creates "s1" "t1" ∷ sets "s1" (word "all") ("call" ∷ "procs" ∷ []) ∷ sets_function "s1" (mfa_of "go" 0) (brackets (braces (word "_" ∷ brackets [] ∷ brackets (braces (word "exception_trace" ∷ []) ∷ []) ∷ []) ∷ [])) [] ∷ []))
    (0 ∷ 0 ∷ 0 ∷ 100 ∷ 101 ∷ 100 ∷ 100 ∷ 101 ∷ [])
    ≡ lines ("== session s1 tracer t1" ∷ "{trace,<0.100.0>,call,{m,go,[]}}" ∷ "{trace,<0.100.0>,link,<0.101.0>}" ∷ "{trace,<0.101.0>,getting_linked,<0.100.0>}" ∷ "{trace,<0.100.0>,exception_from,{m,go,0},{error,{nocatch,boom}}}" ∷ "{trace,<0.100.0>,exit,{{nocatch,boom},[]}}" ∷ "{trace,<0.101.0>,getting_unlinked,<0.100.0>}" ∷ "{trace,<0.101.0>,exit,{{nocatch,boom},[]}}" ∷ "== replies" ∷ "{session,s1}" ∷ "2" ∷ "1" ∷ "== journal" ∷ "0 0 0 100 101 100 100 101" ∷ [])
unfolding is_written_bare digits
partner_of_a_throw = refl

-- an exit signal ends a process in marked frames without an exception, and no catch takes it
signal_in_marked_frames : program_output (program
    (function "go" [] (catch None (codes "m") (codes "f") (number 1 ∷ []) ∷ []) ∷ function "f" ("X" ∷ []) (link (pid 199) ∷ raise throw (word "X") ∷ []) ∷ [])
    (entry "go" [] ∷ [])
    (creates "s1" "t1" ∷ sets "s1" (word "all") ("call" ∷ "procs" ∷ []) ∷ sets_function "s1" (braces (word "m" ∷ word "_" ∷ word "_" ∷ [])) (brackets (braces (word "_" ∷ brackets [] ∷ brackets (braces (word "exception_trace" ∷ []) ∷ []) ∷ []) ∷ [])) [] ∷ []))
    (0 ∷ 0 ∷ 0 ∷ 100 ∷ 100 ∷ 100 ∷ 100 ∷ [])
    ≡ lines ("== session s1 tracer t1" ∷ "{trace,<0.100.0>,call,{m,go,[]}}" ∷ "{trace,<0.100.0>,call,{m,f,[1]}}" ∷ "{trace,<0.100.0>,link,<0.199.0>}" ∷ "{trace,<0.100.0>,exit,noproc}" ∷ "== replies" ∷ "{session,s1}" ∷ "1" ∷ "2" ∷ "== journal" ∷ "0 0 0 100 100 100 100" ∷ [])
unfolding is_written_bare digits
signal_in_marked_frames = refl

-- the newest of two catches takes the exception; the frame of the other goes on and returns
newest_of_two_catches : program_output (program
    (function "go" [] (catches "f" [] ∷ give_back (word "X") ∷ []) ∷ function "f" [] (catches "g" [] ∷ give_back (braces (word "f" ∷ word "X" ∷ [])) ∷ []) ∷ function "g" [] (raise error (word "bad") ∷ []) ∷ [])
    (entry "go" [] ∷ [])
    (creates "s1" "t1" ∷ sets "s1" (word "all") ("call" ∷ []) ∷ sets_function "s1" (braces (word "m" ∷ word "_" ∷ word "_" ∷ [])) (brackets (braces (word "_" ∷ brackets [] ∷ brackets (braces (word "exception_trace" ∷ []) ∷ []) ∷ []) ∷ [])) [] ∷ []))
    (0 ∷ 0 ∷ 0 ∷ 100 ∷ 100 ∷ 100 ∷ 100 ∷ 100 ∷ 100 ∷ [])
    ≡ lines ("== session s1 tracer t1" ∷ "{trace,<0.100.0>,call,{m,go,[]}}" ∷ "{trace,<0.100.0>,call,{m,f,[]}}" ∷ "{trace,<0.100.0>,call,{m,g,[]}}" ∷ "{trace,<0.100.0>,exception_from,{m,g,0},{error,bad}}" ∷ "{trace,<0.100.0>,return_from,{m,f,0},{f,{'EXIT',{bad,[]}}}}" ∷ "{trace,<0.100.0>,return_from,{m,go,0},{f,{'EXIT',{bad,[]}}}}" ∷ "== replies" ∷ "{session,s1}" ∷ "1" ∷ "3" ∷ "== journal" ∷ "0 0 0 100 100 100 100 100 100" ∷ [])
unfolding is_written_bare digits
newest_of_two_catches = refl

-- each session reports by its own marks
two_sessions_mark_apart : program_output (program
    (function "go" [] (catches "f" [] ∷ give_back (word "X") ∷ []) ∷ function "f" [] (raise throw (word "bad") ∷ []) ∷ [])
    (entry "go" [] ∷ [])
    (creates "s1" "t1" ∷ creates "s2" "t2" ∷ sets "s1" (word "all") ("call" ∷ []) ∷ sets "s2" (word "all") ("call" ∷ []) ∷ sets_function "s1" (mfa_of "f" 0) (brackets (braces (word "_" ∷ brackets [] ∷ brackets (braces (word "message" ∷ word "false" ∷ []) ∷ braces (word "exception_trace" ∷ []) ∷ []) ∷ []) ∷ [])) [] ∷ sets_function "s2" (mfa_of "f" 0) (brackets (braces (word "_" ∷ brackets [] ∷ brackets (braces (word "message" ∷ word "false" ∷ []) ∷ braces (word "return_trace" ∷ []) ∷ []) ∷ []) ∷ [])) [] ∷ []))
    (0 ∷ 0 ∷ 0 ∷ 0 ∷ 0 ∷ 0 ∷ 100 ∷ 100 ∷ 100 ∷ 100 ∷ [])
    ≡ lines ("== session s1 tracer t1" ∷ "{trace,<0.100.0>,exception_from,{m,f,0},{throw,bad}}" ∷ "== session s2 tracer t2" ∷ "== replies" ∷ "{session,s1}" ∷ "{session,s2}" ∷ "1" ∷ "1" ∷ "1" ∷ "1" ∷ "== journal" ∷ "0 0 0 0 0 0 100 100 100 100" ∷ [])
unfolding is_written_bare digits
two_sessions_mark_apart = refl

-- a catch whose call returns has the value, and its frame is marked as any other
catch_that_returns : program_output (program
    (function "go" [] (catches "f" (number 1 ∷ []) ∷ give_back (word "X") ∷ []) ∷ function "f" ("X" ∷ []) (give_back (braces (word "v" ∷ word "X" ∷ [])) ∷ []) ∷ [])
    (entry "go" [] ∷ [])
    (creates "s1" "t1" ∷ sets "s1" (word "all") ("call" ∷ []) ∷ sets_function "s1" (mfa_of "f" 1) (brackets (braces (word "_" ∷ brackets [] ∷ brackets (braces (word "exception_trace" ∷ []) ∷ []) ∷ []) ∷ [])) [] ∷ []))
    (0 ∷ 0 ∷ 0 ∷ 100 ∷ 100 ∷ 100 ∷ 100 ∷ [])
    ≡ lines ("== session s1 tracer t1" ∷ "{trace,<0.100.0>,call,{m,f,[1]}}" ∷ "{trace,<0.100.0>,return_from,{m,f,1},{v,1}}" ∷ "== replies" ∷ "{session,s1}" ∷ "1" ∷ "1" ∷ "== journal" ∷ "0 0 0 100 100 100 100" ∷ [])
unfolding is_written_bare digits
catch_that_returns = refl

-- ---- with changes of flags in the same body

-- {trace,Off,On} of the process itself
abbrev traces : List Tree → List Tree → Tree
traces off on = braces (word "trace" ∷ brackets off ∷ brackets on ∷ [])

-- `trace` reports what it changes in each call that marks, and the marks tell exceptions as ever
exceptions_of_changed_flags : program_output (chain (catches "f" (number 1 ∷ [])) (raise throw (braces (word "bad" ∷ word "X" ∷ []))) (braces (word "message" ∷ brackets (traces [] (word "send" ∷ []) ∷ []) ∷ []) ∷ braces (word "exception_trace" ∷ []) ∷ []))
    (0 ∷ 0 ∷ 0 ∷ 100 ∷ 100 ∷ 100 ∷ 100 ∷ 100 ∷ [])
    ≡ lines ("== session s1 tracer t1" ∷ "{trace,<0.100.0>,call,{m,go,[]},[true]}" ∷ "{trace,<0.100.0>,call,{m,f,[1]},[false]}" ∷ "{trace,<0.100.0>,call,{m,g,[1]},[false]}" ∷ "{trace,<0.100.0>,exception_from,{m,g,1},{throw,{bad,1}}}" ∷ "{trace,<0.100.0>,exception_from,{m,f,1},{throw,{bad,1}}}" ∷ "{trace,<0.100.0>,return_from,{m,go,0},{bad,1}}" ∷ "{trace,<0.100.0>,exit,normal}" ∷ "== replies" ∷ "{session,s1}" ∷ "1" ∷ "3" ∷ "== journal" ∷ "0 0 0 100 100 100 100 100" ∷ [])
unfolding is_written_bare digits
exceptions_of_changed_flags = refl

-- a call that marks and clears `call` is reported, and the exception that leaves its frame isn't
cleared_call_tells_no_exception : program_output (chain (call_remote (Some (codes "X")) (codes "m") (codes "f") (number 1 ∷ [])) (raise throw (braces (word "bad" ∷ word "X" ∷ []))) (braces (word "exception_trace" ∷ []) ∷ traces (word "call" ∷ []) [] ∷ []))
    (0 ∷ 0 ∷ 0 ∷ 100 ∷ 100 ∷ 100 ∷ 100 ∷ [])
    ≡ lines ("== session s1 tracer t1" ∷ "{trace,<0.100.0>,call,{m,go,[]}}" ∷ "{trace,<0.100.0>,exit,{{nocatch,{bad,1}},[]}}" ∷ "== replies" ∷ "{session,s1}" ∷ "1" ∷ "3" ∷ "== journal" ∷ "0 0 0 100 100 100 100" ∷ [])
unfolding is_written_bare digits
cleared_call_tells_no_exception = refl

-- `silent` is set by f, whose call isn't reported, and cleared by g: the exception that leaves both is reported of both
cleared_silent_tells_exceptions : program_output (program
    (function "go" [] (catches "f" (number 1 ∷ []) ∷ give_back (word "X") ∷ []) ∷ function "f" ("X" ∷ []) (call_named "g" (word "X" ∷ []) ∷ []) ∷ function "g" ("X" ∷ []) (raise throw (braces (word "bad" ∷ word "X" ∷ [])) ∷ []) ∷ [])
    (entry "go" [] ∷ [])
    (creates "s1" "t1" ∷ sets "s1" (word "all") ("call" ∷ []) ∷ sets_function "s1" (mfa_of "f" 1) (brackets (braces (word "_" ∷ brackets [] ∷ brackets (braces (word "exception_trace" ∷ []) ∷ braces (word "message" ∷ brackets (traces [] (word "silent" ∷ []) ∷ []) ∷ []) ∷ []) ∷ []) ∷ [])) [] ∷ sets_function "s1" (mfa_of "g" 1) (brackets (braces (word "_" ∷ brackets [] ∷ brackets (braces (word "exception_trace" ∷ []) ∷ braces (word "message" ∷ brackets (traces (word "silent" ∷ []) [] ∷ traces (word "silent" ∷ []) [] ∷ []) ∷ []) ∷ []) ∷ []) ∷ [])) [] ∷ []))
    (0 ∷ 0 ∷ 0 ∷ 0 ∷ 100 ∷ 100 ∷ 100 ∷ 100 ∷ 100 ∷ [])
    ≡ lines ("== session s1 tracer t1" ∷ "{trace,<0.100.0>,call,{m,g,[1]},[true,false]}" ∷ "{trace,<0.100.0>,exception_from,{m,g,1},{throw,{bad,1}}}" ∷ "{trace,<0.100.0>,exception_from,{m,f,1},{throw,{bad,1}}}" ∷ "== replies" ∷ "{session,s1}" ∷ "1" ∷ "1" ∷ "1" ∷ "== journal" ∷ "0 0 0 0 100 100 100 100 100" ∷ [])
unfolding is_written_bare digits
cleared_silent_tells_exceptions = refl

-- another process clears `call` of one in a marked frame, and the exception that leaves it isn't reported
cleared_by_another_process : program_output (program
    (function "go" [] (catches "f" (number 1 ∷ []) ∷ give_back (word "X") ∷ []) ∷ function "f" ("X" ∷ []) (raise throw (word "X") ∷ []) ∷ function "peer" [] (call_named "h" [] ∷ []) ∷ function "h" [] [] ∷ [])
    (entry "go" [] ∷ entry "peer" [] ∷ [])
    (creates "s1" "t1" ∷ sets "s1" (word "all") ("call" ∷ []) ∷ sets_function "s1" (mfa_of "f" 1) (brackets (braces (word "_" ∷ brackets [] ∷ brackets (braces (word "exception_trace" ∷ []) ∷ []) ∷ []) ∷ [])) [] ∷ sets_function "s1" (mfa_of "h" 0) (brackets (braces (word "_" ∷ brackets [] ∷ brackets (braces (word "message" ∷ brackets (braces (word "trace" ∷ pid 100 ∷ brackets (word "call" ∷ []) ∷ brackets [] ∷ []) ∷ braces (word "trace" ∷ pid 100 ∷ brackets (word "call" ∷ []) ∷ brackets [] ∷ []) ∷ []) ∷ []) ∷ []) ∷ []) ∷ [])) [] ∷ []))
    (0 ∷ 0 ∷ 0 ∷ 0 ∷ 100 ∷ 100 ∷ 101 ∷ 101 ∷ 100 ∷ 100 ∷ [])
    ≡ lines ("== session s1 tracer t1" ∷ "{trace,<0.100.0>,call,{m,f,[1]}}" ∷ "{trace,<0.101.0>,call,{m,h,[]},[true,false]}" ∷ "== replies" ∷ "{session,s1}" ∷ "2" ∷ "1" ∷ "1" ∷ "== journal" ∷ "0 0 0 0 100 100 101 101 100 100" ∷ [])
unfolding is_written_bare digits
cleared_by_another_process = refl

-- and what `trace` clears in one session leaves the exceptions of another
cleared_in_one_session : program_output (program
    (function "go" [] (catches "f" [] ∷ give_back (word "X") ∷ []) ∷ function "f" [] (raise throw (word "bad") ∷ []) ∷ [])
    (entry "go" [] ∷ [])
    (creates "s1" "t1" ∷ creates "s2" "t2" ∷ sets "s1" (word "all") ("call" ∷ []) ∷ sets "s2" (word "all") ("call" ∷ []) ∷ sets_function "s1" (mfa_of "f" 0) (brackets (braces (word "_" ∷ brackets [] ∷ brackets (braces (word "exception_trace" ∷ []) ∷ braces (word "message" ∷ brackets (traces (word "call" ∷ []) [] ∷ []) ∷ []) ∷ []) ∷ []) ∷ [])) [] ∷ sets_function "s2" (mfa_of "f" 0) (brackets (braces (word "_" ∷ brackets [] ∷ brackets (braces (word "exception_trace" ∷ []) ∷ []) ∷ []) ∷ [])) [] ∷ []))
    (0 ∷ 0 ∷ 0 ∷ 0 ∷ 0 ∷ 0 ∷ 100 ∷ 100 ∷ 100 ∷ 100 ∷ [])
    ≡ lines ("== session s1 tracer t1" ∷ "{trace,<0.100.0>,call,{m,f,[]},[true]}" ∷ "== session s2 tracer t2" ∷ "{trace,<0.100.0>,call,{m,f,[]}}" ∷ "{trace,<0.100.0>,exception_from,{m,f,0},{throw,bad}}" ∷ "== replies" ∷ "{session,s1}" ∷ "{session,s2}" ∷ "1" ∷ "1" ∷ "1" ∷ "1" ∷ "== journal" ∷ "0 0 0 0 0 0 100 100 100 100" ∷ [])
unfolding is_written_bare digits
cleared_in_one_session = refl
