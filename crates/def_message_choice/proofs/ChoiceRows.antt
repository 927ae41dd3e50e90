-- Worked rows: the accounts of the moves that are asked for by a message.
use Rattle.std.proofs.Common.{◌≡◌, ℕ, List, [], ◌∷◌, Some, None, codes, refl}
use Prim.Native.String.{String}
use Rattle.std.specs.Fmt.{digits}
use Rattle.def_term.specs.Tree.{Tree, pid}
use Rattle.def_term.specs.Names.{word}
use Rattle.def_term.specs.Text.{is_written_bare}
use Rattle.def_spec.specs.Matching.{Pattern, anything, only_term, in_tuple, Patterns, no_patterns, and_pattern}
use Rattle.def_script.specs.Program.{Program, send}
use Rattle.def_run.proofs.Samples.{braces, brackets, number, function, entry, program, creates, destroys, sets, lines}
use Rattle.def_explain.specs.RunTexts.{Filter}
use Rattle.def_message_choice.specs.MessageChoices.{sends, sends_none}
use Rattle.def_message_choice.specs.MessageNumbers.{move_of_message}
use Rattle.def_message_choice.specs.ChosenAccounts.{chosen_account_text, number_account_text}

-- ---- words

abbrev any_session : Filter
any_session = record { session = None; move = None }

abbrev only_session : String → Filter
only_session s = record { session = Some (codes s); move = None }

abbrev parts : List Pattern → Patterns
parts [] = no_patterns
parts (p ∷ ps) = and_pattern p (parts ps)

-- {trace,'_',Kind,..}
abbrev traced : String → List Pattern → Pattern
traced kind ps = in_tuple (parts (only_term (word "trace") ∷ anything ∷ only_term (word kind) ∷ ps))

-- ---- a send to another process, traced by one session and not by the other

abbrev two_sends : Program
two_sends = program (function "go" [] (send (pid 101) (word "hi") ∷ []) ∷ function "peer" [] [] ∷ []) (entry "go" [] ∷ entry "peer" [] ∷ [])
    (creates "s1" "t1" ∷ creates "s2" "t2" ∷ sets "s1" (word "all") ("send" ∷ []) ∷ [])

abbrev picks : List ℕ
picks = 0 ∷ 0 ∷ 0 ∷ 100 ∷ 100 ∷ []

-- its move, with what both sessions make of it
abbrev send_lines : List ℕ
send_lines =
    lines ("5 100 <0.100.0> send hi <0.101.0>" ∷ "  s1: => {trace,<0.100.0>,send,hi,<0.101.0>}" ∷ "  s2: no flag send" ∷ "5 100 <0.101.0> 'receive' hi" ∷ "  s1: no flag 'receive'" ∷ "  s2: no flag 'receive'" ∷ [])

abbrev a_send : Pattern
a_send = traced "send" (only_term (word "hi") ∷ anything ∷ [])

pub a_session_sends_it : chosen_account_text (sends a_send) any_session two_sends picks ≡ send_lines
unfolding is_written_bare digits
a_session_sends_it = refl

-- the other doesn't
pub the_other_sends_none : chosen_account_text (sends a_send) (only_session "s2") two_sends picks ≡ []
unfolding is_written_bare digits
the_other_sends_none = refl

pub why_it_sends_none : chosen_account_text (sends_none a_send) (only_session "s2") two_sends picks
    ≡ lines ("5 100 <0.100.0> send hi <0.101.0>" ∷ "  s2: no flag send" ∷ "5 100 <0.101.0> 'receive' hi" ∷ "  s2: no flag 'receive'" ∷ [])
unfolding is_written_bare digits
why_it_sends_none = refl

-- one that sends it isn't missing it
pub it_is_not_missed : chosen_account_text (sends_none a_send) (only_session "s1") two_sends picks ≡ []
unfolding is_written_bare digits
it_is_not_missed = refl

-- where any may miss it
pub one_misses_it : chosen_account_text (sends_none a_send) any_session two_sends picks ≡ send_lines
unfolding is_written_bare digits
one_misses_it = refl

-- a message that no event has
pub no_event_has_it : chosen_account_text (sends_none (traced "send" (only_term (word "bye") ∷ anything ∷ []))) any_session two_sends picks ≡ []
unfolding is_written_bare digits
no_event_has_it = refl

-- ---- a call, with the arguments and with the arity

abbrev call_lines : List ℕ
call_lines = lines ("4 100 <0.100.0> call {m,go,[]}" ∷ "  s1: no flag call" ∷ [])

abbrev a_call : Tree → Pattern
a_call last = traced "call" (only_term (braces (word "m" ∷ word "go" ∷ last ∷ [])) ∷ [])

pub with_arguments : chosen_account_text (sends_none (a_call (brackets []))) (only_session "s1") two_sends picks ≡ call_lines
unfolding is_written_bare digits
with_arguments = refl

pub with_arity : chosen_account_text (sends_none (a_call (number 0))) (only_session "s1") two_sends picks ≡ call_lines
unfolding is_written_bare digits
with_arity = refl

-- ---- a session that isn't there

-- the process runs before the session is created; a session that isn't there has no lines
pub not_yet_there : chosen_account_text (sends_none a_send) (only_session "s1") two_sends (100 ∷ 100 ∷ 0 ∷ [])
    ≡ lines ("2 100 <0.100.0> send hi <0.101.0>" ∷ "2 100 <0.101.0> 'receive' hi" ∷ [])
unfolding is_written_bare digits
not_yet_there = refl

-- and after it was destroyed
abbrev destroyed_first : Program
destroyed_first = record two_sends { commands = creates "s1" "t1" ∷ sets "s1" (word "all") ("send" ∷ []) ∷ destroys "s1" ∷ [] }

pub not_there_again : chosen_account_text (sends_none a_send) any_session destroyed_first picks
    ≡ lines ("5 100 <0.100.0> send hi <0.101.0>" ∷ "5 100 <0.101.0> 'receive' hi" ∷ [])
unfolding is_written_bare digits
not_there_again = refl

-- ---- the message of a number

-- one session traces sends and receives, so that it sends two messages at a move; the other traces sends alone
abbrev two_traces : Program
two_traces = program (function "go" [] (send (pid 101) (word "hi") ∷ send (pid 101) (word "ho") ∷ []) ∷ function "peer" [] [] ∷ []) (entry "go" [] ∷ entry "peer" [] ∷ [])
    (creates "s1" "t1" ∷ creates "s2" "t2" ∷ sets "s1" (word "all") ("send" ∷ "receive" ∷ []) ∷ sets "s2" (word "all") ("send" ∷ []) ∷ [])

abbrev all_picks : List ℕ
all_picks = 0 ∷ 0 ∷ 0 ∷ 0 ∷ 100 ∷ 100 ∷ 100 ∷ []

-- its first and second messages are of one move, and its third is of the next
pub first_of_two : move_of_message (codes "s1") 1 two_traces all_picks ≡ Some 6
unfolding is_written_bare digits
first_of_two = refl

pub second_of_two : move_of_message (codes "s1") 2 two_traces all_picks ≡ Some 6
unfolding is_written_bare digits
second_of_two = refl

pub third_of_two : move_of_message (codes "s1") 3 two_traces all_picks ≡ Some 7
unfolding is_written_bare digits
third_of_two = refl

-- the other sends one at each
pub second_of_the_other : move_of_message (codes "s2") 2 two_traces all_picks ≡ Some 7
unfolding is_written_bare digits
second_of_the_other = refl

-- it sends no third one, no session has one of the number 0, and one that isn't created has none
pub no_third_of_the_other : move_of_message (codes "s2") 3 two_traces all_picks ≡ None
unfolding is_written_bare digits
no_third_of_the_other = refl

pub none_of_zero : move_of_message (codes "s1") 0 two_traces all_picks ≡ None
unfolding is_written_bare digits
none_of_zero = refl

pub none_of_nobody : move_of_message (codes "s3") 1 two_traces all_picks ≡ None
unfolding is_written_bare digits
none_of_nobody = refl

-- what it makes of that move
pub why_the_second : number_account_text 2 (only_session "s2") two_traces all_picks
    ≡ lines ("7 100 <0.100.0> send ho <0.101.0>" ∷ "  s2: => {trace,<0.100.0>,send,ho,<0.101.0>}" ∷ "7 100 <0.101.0> 'receive' ho" ∷ "  s2: no flag 'receive'" ∷ [])
unfolding is_written_bare digits
why_the_second = refl

-- no line where there is no such message, and where no session is asked about
pub no_account_of_a_third : number_account_text 3 (only_session "s2") two_traces all_picks ≡ []
unfolding is_written_bare digits
no_account_of_a_third = refl

pub no_account_of_any : number_account_text 1 any_session two_traces all_picks ≡ []
unfolding is_written_bare digits
no_account_of_any = refl
