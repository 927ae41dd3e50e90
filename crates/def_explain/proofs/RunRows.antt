-- Worked rows: the accounts of small runs.
use Rattle.std.proofs.Common.{◌≡◌, true, false, List, [], ◌∷◌, Some, None, codes, refl}
use Prim.Native.String.{String}
use Rattle.std.specs.Fmt.{digits}
use Rattle.def_term.specs.Tree.{pid}
use Rattle.def_term.specs.Names.{word}
use Rattle.def_term.specs.Text.{is_written_bare}
use Rattle.def_script.specs.Program.{error, Program, send, catch, give_back, raise}
use Rattle.def_run.proofs.Samples.{number, braces, brackets, function, entry, call_named, spawns, program, creates, sets, mfa_of, sets_function, sets_send, lines}
use Rattle.def_explain.specs.Differences.{has_mark_below}
use Rattle.def_explain.specs.NodeCommands.{can_differ}
use Rattle.def_explain.specs.RunTexts.{Filter, account_text}

abbrev everything : Filter
everything = record { session = None; move = None }

abbrev only_session : Filter
only_session = record { session = Some (codes "s2"); move = None }

abbrev only_move : Filter
only_move = record { session = None; move = Some 5 }

-- a send to another process, traced by one session and not by the other
abbrev two_sends : Program
two_sends = program (function "go" [] (send (pid 101) (word "hi") ∷ []) ∷ function "peer" [] [] ∷ []) (entry "go" [] ∷ entry "peer" [] ∷ [])
    (creates "s1" "t1" ∷ creates "s2" "t2" ∷ sets "s1" (word "all") ("send" ∷ []) ∷ [])

pub why_a_send_is_missing : account_text everything two_sends (0 ∷ 0 ∷ 0 ∷ 100 ∷ 100 ∷ [])
    ≡ lines ("1 0 {session_create,s1,t1,[]}" ∷ "  s1: replies {session,s1}" ∷ "2 0 {session_create,s2,t2,[]}" ∷ "  s2: replies {session,s2}" ∷ "3 0 {process,s1,all,true,[send]}" ∷ "  s1: replies 2"
    ∷ "4 100 <0.100.0> call {m,go,[]}" ∷ "  s1: no flag call" ∷ "  s2: no flag call"
    ∷ "5 100 <0.100.0> send hi <0.101.0>" ∷ "  s1: => {trace,<0.100.0>,send,hi,<0.101.0>}" ∷ "  s2: no flag send"
    ∷ "5 100 <0.101.0> 'receive' hi" ∷ "  s1: no flag 'receive'" ∷ "  s2: no flag 'receive'" ∷ [])
unfolding is_written_bare digits
why_a_send_is_missing = refl

-- one session of them, and one move
pub of_one_session : account_text only_session two_sends (0 ∷ 0 ∷ 0 ∷ 100 ∷ 100 ∷ [])
    ≡ lines ("1 0 {session_create,s1,t1,[]}" ∷ "2 0 {session_create,s2,t2,[]}" ∷ "  s2: replies {session,s2}" ∷ "3 0 {process,s1,all,true,[send]}"
    ∷ "4 100 <0.100.0> call {m,go,[]}" ∷ "  s2: no flag call" ∷ "5 100 <0.100.0> send hi <0.101.0>" ∷ "  s2: no flag send" ∷ "5 100 <0.101.0> 'receive' hi" ∷ "  s2: no flag 'receive'" ∷ [])
unfolding is_written_bare digits
of_one_session = refl

pub of_one_move : account_text only_move two_sends (0 ∷ 0 ∷ 0 ∷ 100 ∷ 100 ∷ [])
    ≡ lines ("5 100 <0.100.0> send hi <0.101.0>" ∷ "  s1: => {trace,<0.100.0>,send,hi,<0.101.0>}" ∷ "  s2: no flag send" ∷ "5 100 <0.101.0> 'receive' hi" ∷ "  s1: no flag 'receive'" ∷ "  s2: no flag 'receive'" ∷ [])
unfolding is_written_bare digits
of_one_move = refl

-- a send whose body clears a flag of the sender
abbrev taken_flag : List String → String → Program
taken_flag flags name = program (function "go" [] (send (pid 101) (word "hi") ∷ []) ∷ function "peer" [] [] ∷ []) (entry "go" [] ∷ entry "peer" [] ∷ [])
    (creates "s1" "t1" ∷ sets "s1" (word "all") flags ∷ sets_send "s1" (brackets (braces (word "_" ∷ brackets [] ∷ brackets (braces (word "disable_trace" ∷ word name ∷ []) ∷ []) ∷ []) ∷ [])) ∷ [])

-- what a command can lead to: a body that clears a flag, and one that doesn't
pub a_flag_can_go : can_differ (taken_flag ("send" ∷ "call" ∷ []) "send") ≡ true
a_flag_can_go = refl

pub no_flag_can_go : can_differ two_sends ≡ false
no_flag_can_go = refl

-- a child inherits, and its exit takes the flags away
pub a_child_inherits : account_text everything (program (function "go" [] (spawns "kid" [] ∷ []) ∷ function "kid" [] [] ∷ []) (entry "go" [] ∷ [])
    (creates "s1" "t1" ∷ sets "s1" (pid 100) ("procs" ∷ "set_on_first_spawn" ∷ []) ∷ [])) (0 ∷ 0 ∷ 100 ∷ 100 ∷ 101 ∷ 101 ∷ [])
    ≡ lines ("1 0 {session_create,s1,t1,[]}" ∷ "  s1: replies {session,s1}" ∷ "2 0 {process,s1,<0.100.0>,true,[procs,set_on_first_spawn]}" ∷ "  s1: replies 1"
    ∷ "3 100 <0.100.0> call {m,go,[]}" ∷ "  s1: no flag call"
    ∷ "4 100 <0.100.0> spawn <0.101.0> {m,kid,[]}" ∷ "  s1: => {trace,<0.100.0>,spawn,<0.101.0>,{m,kid,[]}}"
    ∷ "4 100 <0.101.0> spawned <0.100.0> {m,kid,[]}" ∷ "  s1: <0.100.0> loses set_on_first_spawn" ∷ "  s1: <0.101.0> gets procs" ∷ "  s1: => {trace,<0.101.0>,spawned,<0.100.0>,{m,kid,[]}}"
    ∷ "5 101 <0.101.0> call {m,kid,[]}" ∷ "  s1: no flag call"
    ∷ "6 101 <0.101.0> return_from {m,kid,0} ok" ∷ "  s1: the call has no mark" ∷ "6 101 <0.101.0> exit normal" ∷ "  s1: => {trace,<0.101.0>,exit,normal}" ∷ "  s1: <0.101.0> loses procs" ∷ [])
unfolding is_written_bare digits
a_child_inherits = refl

-- clauses that don't fire and one that does, marks, and a call without a setting
pub clauses_of_a_call : account_text everything (program (function "go" [] (call_named "f" (number 1 ∷ []) ∷ []) ∷ function "f" ("X" ∷ []) [] ∷ []) (entry "go" [] ∷ [])
    (creates "s1" "t1" ∷ sets "s1" (word "all") ("call" ∷ []) ∷ sets_function "s1" (mfa_of "f" 1)
    (brackets (braces (brackets (word "a" ∷ []) ∷ brackets [] ∷ brackets [] ∷ []) ∷ braces (brackets (word "$1" ∷ []) ∷ brackets (braces (word ">" ∷ word "$1" ∷ number 1 ∷ []) ∷ []) ∷ brackets [] ∷ [])
    ∷ braces (word "_" ∷ brackets [] ∷ brackets (braces (word "return_trace" ∷ []) ∷ []) ∷ []) ∷ [])) [] ∷ [])) (0 ∷ 0 ∷ 0 ∷ 100 ∷ 100 ∷ 100 ∷ [])
    ≡ lines ("1 0 {session_create,s1,t1,[]}" ∷ "  s1: replies {session,s1}" ∷ "2 0 {process,s1,all,true,[call]}" ∷ "  s1: replies 1"
    ∷ "3 0 {function,s1,{m,f,1},[{[a],[],[]},{['$1'],[{'>','$1',1}],[]},{'_',[],[{return_trace}]}],[]}" ∷ "  s1: replies 1"
    ∷ "4 100 <0.100.0> call {m,go,[]}" ∷ "  s1: no setting for m:go/0"
    ∷ "5 100 <0.100.0> call {m,f,[1]}" ∷ "  s1: clause 1: the head doesn't match at element 1: a expected, found 1" ∷ "  s1: clause 2: condition 1 is false: '$1' is 1" ∷ "  s1: clause 3 fires: return_trace"
    ∷ "  s1: => {trace,<0.100.0>,call,{m,f,[1]}}" ∷ "  s1: the call is marked"
    ∷ "6 100 <0.100.0> return_from {m,f,1} ok" ∷ "  s1: => {trace,<0.100.0>,return_from,{m,f,1},ok}" ∷ "  s1: the mark is gone" ∷ [])
unfolding is_written_bare digits
clauses_of_a_call = refl

-- an error that a catch takes: one session marks for exceptions, the other for returns, and go's call isn't marked
pub why_an_exception_is_missing : account_text everything (program (function "go" [] (catch (Some (codes "X")) (codes "m") (codes "f") [] ∷ give_back (word "X") ∷ []) ∷ function "f" [] (raise error (word "bad") ∷ []) ∷ []) (entry "go" [] ∷ [])
    (creates "s1" "t1" ∷ creates "s2" "t2" ∷ sets "s1" (word "all") ("call" ∷ []) ∷ sets "s2" (word "all") ("call" ∷ [])
    ∷ sets_function "s1" (mfa_of "f" 0) (brackets (braces (word "_" ∷ brackets [] ∷ brackets (braces (word "exception_trace" ∷ []) ∷ []) ∷ []) ∷ [])) []
    ∷ sets_function "s2" (mfa_of "f" 0) (brackets (braces (word "_" ∷ brackets [] ∷ brackets (braces (word "return_trace" ∷ []) ∷ []) ∷ []) ∷ [])) [] ∷ [])) (0 ∷ 0 ∷ 0 ∷ 0 ∷ 0 ∷ 0 ∷ 100 ∷ 100 ∷ 100 ∷ 100 ∷ [])
    ≡ lines ("1 0 {session_create,s1,t1,[]}" ∷ "  s1: replies {session,s1}" ∷ "2 0 {session_create,s2,t2,[]}" ∷ "  s2: replies {session,s2}"
    ∷ "3 0 {process,s1,all,true,[call]}" ∷ "  s1: replies 1" ∷ "4 0 {process,s2,all,true,[call]}" ∷ "  s2: replies 1"
    ∷ "5 0 {function,s1,{m,f,0},[{'_',[],[{exception_trace}]}],[]}" ∷ "  s1: replies 1" ∷ "6 0 {function,s2,{m,f,0},[{'_',[],[{return_trace}]}],[]}" ∷ "  s2: replies 1"
    ∷ "7 100 <0.100.0> call {m,go,[]}" ∷ "  s1: no setting for m:go/0" ∷ "  s2: no setting for m:go/0"
    ∷ "8 100 <0.100.0> call {m,f,[]}" ∷ "  s1: clause 1 fires: exception_trace" ∷ "  s1: => {trace,<0.100.0>,call,{m,f,[]}}" ∷ "  s1: the call is marked for exceptions"
    ∷ "  s2: clause 1 fires: return_trace" ∷ "  s2: => {trace,<0.100.0>,call,{m,f,[]}}" ∷ "  s2: the call is marked"
    ∷ "9 100 <0.100.0> exception_from {m,f,0} {error,bad}" ∷ "  s1: => {trace,<0.100.0>,exception_from,{m,f,0},{error,bad}}" ∷ "  s1: the mark is gone"
    ∷ "  s2: the call is marked for returns alone" ∷ "  s2: the mark is gone"
    ∷ "10 100 <0.100.0> return_from {m,go,0} {'EXIT',{bad,[]}}" ∷ "  s1: the call has no mark" ∷ "  s2: the call has no mark"
    ∷ "10 100 <0.100.0> exit normal" ∷ "  s1: no flag procs" ∷ "  s1: <0.100.0> loses call" ∷ "  s2: no flag procs" ∷ "  s2: <0.100.0> loses call" ∷ [])
unfolding is_written_bare digits has_mark_below
why_an_exception_is_missing = refl

-- the call that marks for exceptions clears `call`: it is reported, the exception isn't, and the mark is gone all the same
pub an_exception_without_its_flag : account_text everything (program (function "go" [] (catch (Some (codes "X")) (codes "m") (codes "f") [] ∷ give_back (word "X") ∷ []) ∷ function "f" [] (raise error (word "bad") ∷ []) ∷ []) (entry "go" [] ∷ [])
    (creates "s1" "t1" ∷ sets "s1" (word "all") ("call" ∷ [])
    ∷ sets_function "s1" (mfa_of "f" 0) (brackets (braces (word "_" ∷ brackets [] ∷ brackets (braces (word "exception_trace" ∷ []) ∷ braces (word "trace" ∷ brackets (word "call" ∷ []) ∷ brackets [] ∷ []) ∷ []) ∷ []) ∷ [])) [] ∷ [])) (0 ∷ 0 ∷ 0 ∷ 100 ∷ 100 ∷ 100 ∷ 100 ∷ [])
    ≡ lines ("1 0 {session_create,s1,t1,[]}" ∷ "  s1: replies {session,s1}" ∷ "2 0 {process,s1,all,true,[call]}" ∷ "  s1: replies 1"
    ∷ "3 0 {function,s1,{m,f,0},[{'_',[],[{exception_trace},{trace,[call],[]}]}],[]}" ∷ "  s1: replies 1"
    ∷ "4 100 <0.100.0> call {m,go,[]}" ∷ "  s1: no setting for m:go/0"
    ∷ "5 100 <0.100.0> call {m,f,[]}" ∷ "  s1: clause 1 fires: exception_trace, <0.100.0> loses call" ∷ "  s1: => {trace,<0.100.0>,call,{m,f,[]}}" ∷ "  s1: the call is marked for exceptions"
    ∷ "6 100 <0.100.0> exception_from {m,f,0} {error,bad}" ∷ "  s1: no flag call" ∷ "  s1: the mark is gone"
    ∷ "7 100 <0.100.0> return_from {m,go,0} {'EXIT',{bad,[]}}" ∷ "  s1: the call has no mark" ∷ "7 100 <0.100.0> exit normal" ∷ "  s1: no flag procs" ∷ [])
unfolding is_written_bare digits
an_exception_without_its_flag = refl
