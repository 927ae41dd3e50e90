-- Worked rows: what the sessions of a running node report of small runs, as OTP 27.3.4 (erts 15.2.7) reports them.
use Rattle.std.proofs.Common.{◌≡◌, ℕ, List, [], ◌∷◌, ◌++◌, Some, None, codes, refl}
use Prim.Native.String.{String}
use Rattle.std.specs.Prelude.{replicate}
use Rattle.std.specs.Fmt.{digits}
use Rattle.def_term.specs.Tree.{Tree, pid}
use Rattle.def_term.specs.Names.{word}
use Rattle.def_term.specs.Text.{is_written_bare}
use Rattle.def_script.specs.Program.{exit, Program, Command, Step, send, receive, catch, link, unlink, raise}
use Rattle.def_run.proofs.Samples.{number, braces, brackets, function, internal, entry, call_named, call_unnamed, spawns, program, creates, sets, clears, mfa_of, sets_function, sets_send, lines}
use Rattle.def_explain.specs.RunTexts.{Filter}
use Rattle.def_running_node.specs.NodeNotes.{node_note, node_account_text}
use Rattle.def_running_node.specs.NodeRuns.{lacks, adds, is_open}
use Rattle.def_running_node.specs.NodeComparisons.{NamedLine, lines_of_run}

-- ---- words

-- a specification of one clause for any list, with this body
abbrev body : List Tree → Tree
body ts = brackets (braces (word "_" ∷ brackets [] ∷ brackets ts ∷ []) ∷ [])

abbrev action : String → Tree
action a = braces (word a ∷ [])

abbrev action_on : String → String → Tree
action_on a x = braces (word a ∷ word x ∷ [])

-- a line that a node doesn't have, and one that it has, of the session s1
abbrev no_line : String → NamedLine
no_line s = (codes "s1", lacks (codes s))

abbrev a_line : String → NamedLine
a_line s = (codes "s1", adds (codes s))

-- moves without such lines, and then others
abbrev after : ℕ → List (List NamedLine) → List (List NamedLine)
after n ls = replicate n [] ++ ls

-- ---- start silent, and wake by a specification

abbrev wake : Program
wake = program
    (function "go" [] (call_named "work" (number 1 ∷ []) ∷ call_named "login" (word "joe" ∷ []) ∷ call_named "work" (number 2 ∷ []) ∷ call_named "logout" (word "joe" ∷ []) ∷ call_named "work" (number 3 ∷ []) ∷ [])
    ∷ function "work" ("X" ∷ []) [] ∷ function "login" ("X" ∷ []) [] ∷ function "logout" ("X" ∷ []) [] ∷ [])
    (entry "go" [] ∷ [])
    (creates "s1" "t1" ∷ sets "s1" (word "all") ("call" ∷ "silent" ∷ [])
    ∷ sets_function "s1" (mfa_of "work" 1) (body (action "return_trace" ∷ [])) ("local" ∷ [])
    ∷ sets_function "s1" (mfa_of "login" 1) (body (action_on "silent" "false" ∷ [])) ("local" ∷ [])
    ∷ sets_function "s1" (mfa_of "logout" 1) (body (action_on "silent" "true" ∷ [])) ("local" ∷ []) ∷ [])

-- a node reports just what the session reports
pub wake_is_the_same : lines_of_run None wake (replicate 5 0 ++ replicate 12 100) ≡ replicate 17 []
unfolding is_written_bare digits
wake_is_the_same = refl

-- ---- silent between a call and its return

-- m:go calls m:f, which calls m:g; a call of m:g sets or clears `silent`
abbrev turned : String → List String → Program
turned on flags = program
    (function "go" [] (call_named "f" [] ∷ []) ∷ function "f" [] (call_named "g" [] ∷ []) ∷ function "g" [] [] ∷ [])
    (entry "go" [] ∷ [])
    (creates "s1" "t1" ∷ sets "s1" (word "all") flags
    ∷ sets_function "s1" (mfa_of "f" 0) (body (action "return_trace" ∷ [])) [] ∷ sets_function "s1" (mfa_of "g" 0) (body (action_on "silent" on ∷ [])) [] ∷ [])

-- set after a call that wasn't silent: its return has a message there
pub silent_after_the_call : lines_of_run None (turned "true" ("call" ∷ [])) (replicate 4 0 ++ replicate 5 100) ≡ after 8 ((a_line "{trace,<0.100.0>,return_from,{m,f,0},ok}" ∷ []) ∷ [])
unfolding is_written_bare digits
silent_after_the_call = refl

-- cleared after a call that was: it has none
pub silent_at_the_call : lines_of_run None (turned "false" ("call" ∷ "silent" ∷ [])) (replicate 4 0 ++ replicate 5 100) ≡ after 8 ((no_line "{trace,<0.100.0>,return_from,{m,f,0},ok}" ∷ []) ∷ [])
unfolding is_written_bare digits
silent_at_the_call = refl

-- ---- errors

-- m:f sends to what is no pid, in a call that is marked for exceptions; where m:go makes it so
abbrev sends_nowhere : Step → List String → Program
sends_nowhere call flags = program
    (function "go" [] (call ∷ []) ∷ function "f" [] (send (number 7) (word "hi") ∷ []) ∷ [])
    (entry "go" [] ∷ [])
    (creates "s1" "t1" ∷ sets "s1" (pid 100) flags ∷ sets_function "s1" (mfa_of "f" 0) (body (action "exception_trace" ∷ [])) [] ∷ [])

pub badarg_is_an_exception : lines_of_run None (sends_nowhere (call_named "f" []) ("call" ∷ "procs" ∷ [])) (replicate 3 0 ++ replicate 3 100)
    ≡ after 5 ((no_line "{trace,<0.100.0>,exit,badarg}" ∷ a_line "{trace,<0.100.0>,exception_from,{m,f,0},{error,badarg}}" ∷ a_line "{trace,<0.100.0>,exit,{badarg,[]}}" ∷ []) ∷ [])
unfolding is_written_bare digits
badarg_is_an_exception = refl

-- the send has a message too, where it is traced
pub a_send_to_no_pid_is_reported : lines_of_run None (sends_nowhere (call_named "f" []) ("call" ∷ "procs" ∷ "send" ∷ [])) (replicate 3 0 ++ replicate 3 100) ≡ after 5 (((codes "s1", is_open) ∷ []) ∷ [])
unfolding is_written_bare digits
a_send_to_no_pid_is_reported = refl

-- a catch catches it: from there on the run is another
pub badarg_is_caught : lines_of_run None (sends_nowhere (catch None (codes "m") (codes "f") []) ("call" ∷ "procs" ∷ [])) (replicate 3 0 ++ replicate 3 100) ≡ after 5 (((codes "s1", is_open) ∷ []) ∷ [])
unfolding is_written_bare digits
badarg_is_caught = refl

-- a session that is created after that says so once, at its creation
abbrev creates_later : Program
creates_later = let p : Program = sends_nowhere (catch None (codes "m") (codes "f") []) ("call" ∷ "procs" ∷ []) in
    record p { commands = p.commands ++ creates "s2" "t2" ∷ sets "s2" (pid 100) ("call" ∷ "procs" ∷ []) ∷ [] }

pub a_later_session_is_not_determined : lines_of_run None creates_later (replicate 3 0 ++ replicate 3 100 ++ 0 ∷ 0 ∷ [])
    ≡ after 5 (((codes "s1", is_open) ∷ []) ∷ ((codes "s2", is_open) ∷ []) ∷ [] ∷ [])
unfolding is_written_bare digits
a_later_session_is_not_determined = refl

-- ---- links

abbrev links : List Step → Program
links steps = program (function "go" [] steps ∷ function "peer" [] (receive None ∷ []) ∷ []) (entry "go" [] ∷ entry "peer" [] ∷ []) (creates "s1" "t1" ∷ sets "s1" (word "all") ("procs" ∷ []) ∷ [])

-- the other process dies of the signal, and its lost link has no message
pub an_exit_signal_is_taken_at_once : lines_of_run None (links (link (pid 101) ∷ raise exit (word "boom") ∷ [])) (0 ∷ 0 ∷ 100 ∷ 101 ∷ 100 ∷ 100 ∷ 101 ∷ [])
    ≡ after 5 ((no_line "{trace,<0.101.0>,getting_unlinked,<0.100.0>}" ∷ []) ∷ [] ∷ [])
unfolding is_written_bare digits
an_exit_signal_is_taken_at_once = refl

-- a link with itself, and an unlink
pub a_link_with_itself_is_reported : lines_of_run None (links (link (word "Self") ∷ unlink (word "Self") ∷ [])) (replicate 2 0 ++ replicate 3 100)
    ≡ after 3 ((a_line "{trace,<0.100.0>,link,<0.100.0>}" ∷ []) ∷ (a_line "{trace,<0.100.0>,unlink,<0.100.0>}" ∷ []) ∷ [])
unfolding is_written_bare digits
a_link_with_itself_is_reported = refl

-- a link of a process with itself, while another has a signal: that it isn't determined is said once
abbrev links_while_another_ends : Program
links_while_another_ends = program
    (function "go" [] (link (pid 101) ∷ raise exit (word "boom") ∷ []) ∷ function "peer" [] (receive None ∷ []) ∷ function "alone" [] (link (word "Self") ∷ unlink (word "Self") ∷ []) ∷ [])
    (entry "go" [] ∷ entry "peer" [] ∷ entry "alone" [] ∷ []) (creates "s1" "t1" ∷ sets "s1" (word "all") ("procs" ∷ []) ∷ [])

pub it_is_said_once : lines_of_run None links_while_another_ends (0 ∷ 0 ∷ 100 ∷ 101 ∷ 102 ∷ 100 ∷ 100 ∷ 102 ∷ 102 ∷ 101 ∷ [])
    ≡ after 6 ((no_line "{trace,<0.101.0>,getting_unlinked,<0.100.0>}" ∷ []) ∷ ((codes "s1", is_open) ∷ []) ∷ [] ∷ [] ∷ [])
unfolding is_written_bare digits
it_is_said_once = refl

-- a link to a process that isn't alive ends the process in this step; a process that is linked to it gets the error's reason
pub noproc_is_raised_at_the_link : lines_of_run None (links (link (pid 101) ∷ link (pid 163) ∷ [])) (0 ∷ 0 ∷ 100 ∷ 101 ∷ 100 ∷ 100 ∷ 100 ∷ 101 ∷ [])
    ≡ after 5 ((a_line "{trace,<0.100.0>,exit,{noproc,[]}}" ∷ []) ∷ (no_line "{trace,<0.100.0>,exit,noproc}" ∷ no_line "{trace,<0.101.0>,getting_unlinked,<0.100.0>}" ∷ [])
    ∷ (no_line "{trace,<0.101.0>,exit,noproc}" ∷ a_line "{trace,<0.101.0>,exit,{noproc,[]}}" ∷ []) ∷ [])
unfolding is_written_bare digits
noproc_is_raised_at_the_link = refl

-- ---- flags for new processes

abbrev spawns_twice : List Command → Program
spawns_twice cs = program (function "go" [] (spawns "f" [] ∷ spawns "f" [] ∷ []) ∷ function "f" [] [] ∷ []) (entry "go" [] ∷ [])
    (creates "s1" "t1" ∷ sets "s1" (pid 100) ("procs" ∷ "set_on_first_spawn" ∷ []) ∷ sets "s1" (word "new") ("call" ∷ []) ∷ sets_function "s1" (mfa_of "f" 0) (word "true") [] ∷ cs)

-- a child that inherits has the flags of its parent alone, and the next child those for new processes
pub a_child_has_the_flags_of_its_parent : lines_of_run None (spawns_twice []) (replicate 4 0 ++ (100 ∷ 100 ∷ 101 ∷ 100 ∷ 102 ∷ [])) ≡ after 6 ((no_line "{trace,<0.101.0>,call,{m,f,[]}}" ∷ []) ∷ [] ∷ [] ∷ [])
unfolding is_written_bare digits
a_child_has_the_flags_of_its_parent = refl

-- `false` for one flag clears all of them
pub false_clears_all_new_flags : lines_of_run None (spawns_twice (sets "s1" (word "new") ("procs" ∷ []) ∷ clears "s1" (word "new") ("procs" ∷ []) ∷ [])) (replicate 6 0 ++ (100 ∷ 100 ∷ 100 ∷ 102 ∷ [])) ≡ after 9 ((no_line "{trace,<0.102.0>,call,{m,f,[]}}" ∷ []) ∷ [])
unfolding is_written_bare digits
false_clears_all_new_flags = refl

-- ---- settings of functions

-- calls of m:f, which is exported, and of m:g, which isn't
abbrev calls_both : List Command → Program
calls_both cs = program (function "go" [] (call_named "f" [] ∷ call_unnamed "g" [] ∷ []) ∷ function "f" [] [] ∷ internal "g" [] [] ∷ []) (entry "go" [] ∷ []) (creates "s1" "t1" ∷ sets "s1" (word "all") ("call" ∷ []) ∷ cs)

-- `false` without `local` leaves a local setting
pub false_leaves_the_other_kind : lines_of_run None (calls_both (sets_function "s1" (mfa_of "f" 0) (word "true") ("local" ∷ []) ∷ sets_function "s1" (mfa_of "f" 0) (word "false") [] ∷ [])) (replicate 4 0 ++ replicate 2 100) ≡ after 5 ((a_line "{trace,<0.100.0>,call,{m,f,[]}}" ∷ []) ∷ [])
unfolding is_written_bare digits
false_leaves_the_other_kind = refl

-- and takes one of its own kind
pub false_takes_its_own_kind : lines_of_run None (calls_both (sets_function "s1" (mfa_of "f" 0) (word "true") ("local" ∷ []) ∷ sets_function "s1" (mfa_of "f" 0) (word "false") ("local" ∷ []) ∷ [])) (replicate 4 0 ++ replicate 2 100) ≡ replicate 6 []
unfolding is_written_bare digits
false_takes_its_own_kind = refl

-- a setting that isn't local takes the local one of a function that isn't exported
pub global_takes_the_local_setting : lines_of_run None (calls_both (sets_function "s1" (mfa_of "g" 0) (word "true") ("local" ∷ []) ∷ sets_function "s1" (braces (word "m" ∷ word "_" ∷ word "_" ∷ [])) (word "true") [] ∷ [])) (replicate 4 0 ++ replicate 4 100)
    ≡ after 7 ((no_line "{trace,<0.100.0>,call,{m,g,[]}}" ∷ []) ∷ [])
unfolding is_written_bare digits
global_takes_the_local_setting = refl

-- ---- replies

pub without_flags_nobody_is_counted : lines_of_run None (calls_both (sets "s1" (word "all") [] ∷ [])) (replicate 3 0) ≡ after 2 ((no_line "replies 1" ∷ a_line "replies 0" ∷ []) ∷ [])
unfolding is_written_bare digits
without_flags_nobody_is_counted = refl

-- an option twice, which is refused here
pub an_option_may_stand_twice : lines_of_run None (calls_both (sets_function "s1" (mfa_of "g" 0) (word "true") ("local" ∷ "local" ∷ []) ∷ [])) (replicate 3 0 ++ replicate 4 100)
    ≡ after 2 ((no_line "replies badarg" ∷ a_line "replies 1" ∷ []) ∷ [] ∷ [] ∷ [] ∷ (a_line "{trace,<0.100.0>,call,{m,g,[]}}" ∷ []) ∷ [])
unfolding is_written_bare digits
an_option_may_stand_twice = refl

-- two options that aren't the same are refused there too
pub two_options_are_refused : lines_of_run None (calls_both (sets_function "s1" (mfa_of "g" 0) (word "true") ("local" ∷ "global" ∷ []) ∷ [])) (replicate 3 0 ++ replicate 4 100) ≡ replicate 7 []
unfolding is_written_bare digits
two_options_are_refused = refl

-- an arity that no function has
pub an_arity_past_255_matches_none : lines_of_run None (calls_both (sets_function "s1" (mfa_of "g" 256) (word "true") [] ∷ [])) (replicate 3 0) ≡ after 2 ((no_line "replies badarg" ∷ a_line "replies 0" ∷ []) ∷ [])
unfolding is_written_bare digits
an_arity_past_255_matches_none = refl

-- the last that is an arity is taken here too
pub the_arity_255_matches_none_here : lines_of_run None (calls_both (sets_function "s1" (mfa_of "g" 255) (word "true") [] ∷ [])) (replicate 3 0) ≡ replicate 3 []
unfolding is_written_bare digits
the_arity_255_matches_none_here = refl

-- ---- what is said of a run

abbrev everything : Filter
everything = record { session = None; move = None }

abbrev only_other : Filter
only_other = record { session = Some (codes "s2"); move = None }

-- a send whose body clears a flag of the sender: its last, and one of two
abbrev clears_flag : List String → Program
clears_flag flags = program (function "go" [] (send (pid 101) (word "hi") ∷ []) ∷ function "peer" [] [] ∷ []) (entry "go" [] ∷ entry "peer" [] ∷ [])
    (creates "s1" "t1" ∷ sets "s1" (word "all") flags ∷ sets_send "s1" (body (action_on "disable_trace" "send" ∷ [])) ∷ [])

pub the_last_flag_is_cleared : node_account_text everything (clears_flag ("send" ∷ [])) (0 ∷ 0 ∷ 0 ∷ 100 ∷ 100 ∷ [])
    ≡ lines ("5 100 <0.100.0> send hi <0.101.0>" ∷ "  s1: clause 1 fires: <0.100.0> loses send"
    ∷ "  s1: on a node: this send ends the node with a segmentation fault, since the body clears the sender's last flag"
    ∷ "  s1: => {trace,<0.100.0>,send,hi,<0.101.0>}" ∷ "5 100 <0.101.0> 'receive' hi" ∷ "  s1: no flag 'receive'"
    ∷ "  s1: on a node: the messages aren't determined from here on" ∷ [])
unfolding is_written_bare digits
the_last_flag_is_cleared = refl

pub one_move_is_noted : node_note (clears_flag ("send" ∷ [])) (0 ∷ 0 ∷ 0 ∷ 100 ∷ 100 ∷ []) ≡ Some (record { differing = 1; moves = 5 })
unfolding is_written_bare digits
one_move_is_noted = refl

pub one_of_two_flags_is_cleared : node_account_text everything (clears_flag ("send" ∷ "call" ∷ [])) (0 ∷ 0 ∷ 0 ∷ 100 ∷ 100 ∷ []) ≡ []
unfolding is_written_bare digits
one_of_two_flags_is_cleared = refl

pub no_move_is_noted : node_note (clears_flag ("send" ∷ "call" ∷ [])) (0 ∷ 0 ∷ 0 ∷ 100 ∷ 100 ∷ []) ≡ None
unfolding is_written_bare digits
no_move_is_noted = refl

-- the return of a call before which `silent` wasn't set, with the line of the node below those of the move; of another session there is none
pub the_line_of_a_node : node_account_text everything (turned "true" ("call" ∷ [])) (replicate 4 0 ++ replicate 5 100)
    ≡ lines ("9 100 <0.100.0> return_from {m,f,0} ok" ∷ "  s1: silent" ∷ "  s1: the mark is gone" ∷ "  s1: + {trace,<0.100.0>,return_from,{m,f,0},ok}" ∷ [])
unfolding is_written_bare digits
the_line_of_a_node = refl

pub no_line_of_another : node_account_text only_other (turned "true" ("call" ∷ [])) (replicate 4 0 ++ replicate 5 100) ≡ []
unfolding is_written_bare digits
no_line_of_another = refl
