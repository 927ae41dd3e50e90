-- Worked rows, computed: where the conditions hold, and where they don't.
use Rattle.std.proofs.Common.{◌≡◌, ℕ, List, [], ◌∷◌, ◌++◌, true, false, codes, refl}
use Rattle.std.specs.Prelude.{Some, None}
use Rattle.def_term.specs.Tree.{Tree, pid}
use Rattle.def_term.specs.Names.{Name, word}
use Rattle.def_spec.specs.Expressions.{constant, perform, enable_trace, disable_trace, trace, message, no_exprs, and_expr}
use Rattle.def_script.specs.Program.{error, Step, send, receive, catch, link, unlink, raise, Program}
use Rattle.def_node.specs.Node.{fresh}
use Rattle.def_session.specs.Settings.{off}
use Rattle.def_run.specs.Run.{run_state_of}
use Rattle.def_run.specs.Listing.{messages}
use Rattle.def_run.proofs.Samples.{number, braces, brackets, function, entry, program, call_named, creates, sets, mfa_of, sets_function}
use Rattle.def_explore.specs.Rests.{all_messages, by_process}
use Rattle.def_explore.specs.Alike.{AreIndependent}
use Rattle.def_independence.specs.Alone.{have_link, have_unlink, takes_message_after, goes_alone_after, shows_own_steps_after, goes_alone_by}
use Rattle.def_independence.specs.OwnEffects.{acts_on_self, setting_acts_on_self, sessions_act_on_self, sessions_show_no_receive, none_is_to_one, sessions_show_nothing}
use Rattle.def_independence.proofs.Receives.{receives_independent}
use Rattle.def_independence.proofs.Calls.{calls_independent, unseen_independent}

-- ---- a send and a receive

-- 100 calls go, and sends 1 to 101, which calls rest, and receives; each call is traced
abbrev talk : List Step → Program
talk steps = program
    (function "go" [] steps ∷ function "rest" [] (receive None ∷ []) ∷ [])
    (entry "go" [] ∷ entry "rest" [] ∷ [])
    (creates "s" "t" ∷ sets "s" (word "all") ("call" ∷ []) ∷ sets_function "s" (mfa_of "rest" 0) (word "true") [] ∷ [])

abbrev sends : Program
sends = talk (send (pid 101) (number 1) ∷ [])

abbrev asked : List Name
asked = codes "s" ∷ []

-- the commands; then both calls; then the send
abbrev commands : List ℕ
commands = 0 ∷ 0 ∷ 0 ∷ []

abbrev both_called : List ℕ
both_called = commands ++ 100 ∷ 101 ∷ []

abbrev sent_one : List ℕ
sent_one = both_called ++ 100 ∷ []

-- no function makes a link; a link is one, and an unlink is none
no_link : have_link sends.functions ≡ false
no_link = refl

one_link : have_link (talk (link (pid 101) ∷ [])).functions ≡ true
one_link = refl

an_unlink : have_link (talk (unlink (pid 101) ∷ [])).functions ≡ false
an_unlink = refl

-- 101 takes the message once it is there, and not before; 100, which returns, takes none, and there is no 102
takes_the_message : takes_message_after sends sent_one 101 ≡ true
takes_the_message = refl

takes_nothing : takes_message_after sends both_called 101 ≡ false
takes_nothing = refl

calls_first : takes_message_after sends commands 101 ≡ false
calls_first = refl

returns_first : takes_message_after sends sent_one 100 ≡ false
returns_first = refl

nobody_takes : takes_message_after sends sent_one 102 ≡ false
nobody_takes = refl

-- so its pick is independent of all others
take_first : AreIndependent all_messages asked sends sent_one (101 ∷ [])
take_first = receives_independent all_messages asked sends sent_one 101 refl refl

-- ---- a call

-- its entry call changes 101 alone; a receive with no message, the send of 100, and its return, which ends it, don't
goes_alone : goes_alone_after sends commands 101 ≡ true
goes_alone = refl

waits_alone : goes_alone_after sends both_called 101 ≡ false
waits_alone = refl

sends_to_another : goes_alone_after sends both_called 100 ≡ false
sends_to_another = refl

ends_alone : goes_alone_after sends sent_one 100 ≡ false
ends_alone = refl

-- a call among others, and the return from it
calls_go_alone : goes_alone_after (talk (call_named "rest" [] ∷ [])) both_called 100 ≡ true
calls_go_alone = refl

-- a raise that is caught goes on in the frame below; one that isn't caught ends the process
abbrev raises_one : List Step → Program
raises_one steps = program (function "go" [] steps ∷ function "boom" [] (raise error (number 1) ∷ []) ∷ []) (entry "go" [] ∷ []) []

caught_goes_alone : goes_alone_after (raises_one (catch None (codes "m") (codes "boom") [] ∷ [])) (100 ∷ 100 ∷ []) 100 ≡ true
caught_goes_alone = refl

uncaught_ends : goes_alone_after (raises_one (call_named "boom" [] ∷ [])) (100 ∷ 100 ∷ []) 100 ≡ false
uncaught_ends = refl

-- its events say it, where no function makes or removes a link: an unlink of the process itself shows nothing
shows_own_call : shows_own_steps_after sends commands 101 ≡ true
shows_own_call = refl

shows_a_wait : shows_own_steps_after sends both_called 101 ≡ false
shows_a_wait = refl

shows_a_send : shows_own_steps_after sends both_called 100 ≡ false
shows_a_send = refl

shows_an_exit : shows_own_steps_after sends sent_one 100 ≡ false
shows_an_exit = refl

unlinks_itself : shows_own_steps_after (talk (unlink (pid 100) ∷ [])) both_called 100 ≡ true
unlinks_itself = refl

an_unlink_is_there : have_unlink (talk (unlink (pid 100) ∷ [])).functions ≡ true
an_unlink_is_there = refl

no_unlink_is_there : have_unlink sends.functions ≡ false
no_unlink_is_there = refl

-- what is known of the next step says it: the entry call of a function that is there, and of one that isn't
entry_alone : goes_alone_by sends.functions (Some 102) (fresh (entry "go" [])) ≡ true
entry_alone = refl

no_entry_alone : goes_alone_by sends.functions (Some 102) (fresh (entry "nope" [])) ≡ false
no_entry_alone = refl

-- no specification acts on another process, and 101 doesn't have the flag `receive`
acts_on_self_alone : sessions_act_on_self asked sends commands ≡ true
acts_on_self_alone = refl

shows_no_receive : sessions_show_no_receive asked sends commands 101 ≡ true
shows_no_receive = refl

-- so its pick is independent of all others, where the order of messages of different processes isn't asked for
call_first : AreIndependent by_process asked sends commands (101 ∷ [])
call_first = calls_independent asked sends commands 101 (record { links = refl; alone = refl; commands = refl; effects = refl; before = refl; after = refl })

-- a command to the session is left before its third, and none to another session
a_command_left : none_is_to_one asked (run_state_of sends (0 ∷ 0 ∷ [])).commands ≡ false
a_command_left = refl

none_to_another : none_is_to_one (codes "u" ∷ []) (run_state_of sends (0 ∷ 0 ∷ [])).commands ≡ true
none_to_another = refl

-- the call of go has no setting, so the pick of 100 shows nothing, and is independent of all others, whatever is asked; that of 101 shows its call
shows_no_call : sessions_show_nothing asked sends commands 100 ≡ true
shows_no_call = refl

unseen_first : AreIndependent all_messages asked sends commands (100 ∷ [])
unseen_first = unseen_independent all_messages asked sends commands 100 (record { links = refl; alone = refl; commands = refl; effects = refl; before = refl; after = refl }) refl

shows_call : sessions_show_nothing asked sends commands 101 ≡ false
shows_call = refl

-- with the flag `receive` the condition doesn't hold: its call and a message to it are in one order or the other
abbrev hears : Program
hears = program sends.functions sends.entries (creates "s" "t" ∷ sets "s" (pid 101) ("call" ∷ "receive" ∷ []) ∷ sets_function "s" (mfa_of "rest" 0) (word "true") [] ∷ [])

shows_receive : sessions_show_no_receive asked hears commands 101 ≡ false
shows_receive = refl

abbrev call_of : ℕ → Tree → Tree
call_of n name = braces (word "trace" ∷ pid n ∷ word "call" ∷ braces (word "m" ∷ name ∷ brackets [] ∷ []) ∷ [])

-- where both calls are shown, all messages are in one order or the other
abbrev shows_both : Program
shows_both = program sends.functions sends.entries (creates "s" "t" ∷ sets "s" (word "all") ("call" ∷ []) ∷ sets_function "s" (braces (word "m" ∷ word "_" ∷ word "_" ∷ [])) (word "true") [] ∷ [])

one_order : messages (codes "s") shows_both (commands ++ 100 ∷ 101 ∷ []) ≡ call_of 100 (word "go") ∷ call_of 101 (word "rest") ∷ []
one_order = refl

other_order : messages (codes "s") shows_both (commands ++ 101 ∷ 100 ∷ []) ≡ call_of 101 (word "rest") ∷ call_of 100 (word "go") ∷ []
other_order = refl

shows_either : sessions_show_nothing asked shows_both commands 100 ≡ false
shows_either = refl

abbrev got_one : Tree
got_one = braces (word "trace" ∷ pid 101 ∷ word "receive" ∷ number 1 ∷ [])

call_then_message : messages (codes "s") hears (commands ++ 100 ∷ 101 ∷ 100 ∷ []) ≡ call_of 101 (word "rest") ∷ got_one ∷ []
call_then_message = refl

message_then_call : messages (codes "s") hears (commands ++ 100 ∷ 100 ∷ 101 ∷ []) ≡ got_one ∷ call_of 101 (word "rest") ∷ []
message_then_call = refl

-- ---- specifications

-- {enable_trace,call} and {trace,[],[call]} act on the own process; {disable_trace,<0.101.0>,call} and {trace,<0.101.0>,[],[call]} don't, wherever they stand
enable_self : acts_on_self (perform enable_trace (and_expr (constant (word "call")) no_exprs)) ≡ true
enable_self = refl

trace_self : acts_on_self (perform trace (and_expr (constant (brackets [])) (and_expr (constant (brackets (word "call" ∷ []))) no_exprs))) ≡ true
trace_self = refl

disable_other : acts_on_self (perform disable_trace (and_expr (constant (pid 101)) (and_expr (constant (word "call")) no_exprs))) ≡ false
disable_other = refl

trace_other_within : acts_on_self (perform message (and_expr (perform trace (and_expr (constant (pid 101)) (and_expr (constant (brackets [])) (and_expr (constant (brackets (word "call" ∷ []))) no_exprs)))) no_exprs)) ≡ false
trace_other_within = refl

no_specification : setting_acts_on_self off ≡ true
no_specification = refl

-- where the call of go gives 101 the flag `call`, the condition doesn't hold: whether the call of rest is shown goes by the order of the calls
abbrev gives_flag : Program
gives_flag = program sends.functions sends.entries
    (creates "s" "t" ∷ sets "s" (pid 100) ("call" ∷ []) ∷ sets_function "s" (mfa_of "rest" 0) (word "true") []
    ∷ sets_function "s" (mfa_of "go" 0) (brackets (braces (word "_" ∷ brackets [] ∷ brackets (braces (word "enable_trace" ∷ pid 101 ∷ word "call" ∷ []) ∷ []) ∷ []) ∷ [])) [] ∷ [])

acts_on_another : sessions_act_on_self asked gives_flag (0 ∷ commands) ≡ false
acts_on_another = refl

flag_then_call : messages (codes "s") gives_flag (0 ∷ commands ++ 100 ∷ 101 ∷ []) ≡ call_of 100 (word "go") ∷ call_of 101 (word "rest") ∷ []
flag_then_call = refl

call_then_flag : messages (codes "s") gives_flag (0 ∷ commands ++ 101 ∷ 100 ∷ []) ≡ call_of 100 (word "go") ∷ []
call_then_flag = refl
