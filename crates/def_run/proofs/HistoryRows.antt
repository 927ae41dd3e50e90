-- Worked rows, computed: the history of a small run, and what is in it.
use Rattle.std.proofs.Common.{◌≡◌, ℕ, List, [], ◌∷◌, true, None, map, take, codes, refl}
use Rattle.std.specs.Prelude.{drop}
use Prim.Native.String.{String}
use Rattle.def_term.specs.Tree.{Tree, pid}
use Rattle.def_term.specs.Names.{word}
use Rattle.def_script.specs.Program.{Command, Program, send, receive}
use Rattle.def_script.specs.Exports.{Exports, exports_of}
use Rattle.def_node.specs.Event.{sent, received, called}
use Rattle.def_session.specs.State.{Phase, absent, live}
use Rattle.def_run.specs.Run.{HistoryItem, event_item, command_item}
use Rattle.def_run.specs.Listing.{Item}
use Rattle.def_run.specs.History.{NamedSession, Moment, MoveHistory, move_histories, history, history_messages, history_replies, items_of_move}
use Rattle.def_run.proofs.Samples.{number, braces, function, entry, program, creates, sets}

-- a process that sends `hi` to another, which takes it; s1 traces sends and s2 receives
abbrev commands : List Command
commands = creates "s1" "t1" ∷ creates "s2" "t2" ∷ sets "s1" (word "all") ("send" ∷ []) ∷ sets "s2" (word "all") ("receive" ∷ []) ∷ []

abbrev one_send : Program
one_send = program (function "go" [] (send (pid 101) (word "hi") ∷ []) ∷ function "peer" [] (receive None ∷ []) ∷ []) (entry "go" [] ∷ entry "peer" [] ∷ []) commands

abbrev opening : Exports
opening = exports_of one_send

-- the pick 999 is idle
abbrev picks : List ℕ
picks = 0 ∷ 0 ∷ 0 ∷ 0 ∷ 100 ∷ 101 ∷ 999 ∷ 100 ∷ 101 ∷ []

abbrev entry_call : ℕ → String → HistoryItem
entry_call p f = event_item (called p (record { mfa = record { module_name = codes "m"; function_name = codes f; arity = 0 }; args = []; named = true; exported = true; caller = None; depth = 1 }))

abbrev shown : MoveHistory → ℕ × ℕ × List HistoryItem
shown h = (h.number, h.pick, map (λ m. m.item) h.moments)

-- each move by its number, its pick and what it shows; the last takes the message out of the mailbox, and shows nothing
moves_of_a_send : map shown (move_histories one_send picks)
    ≡ ((1, 0, command_item (creates "s1" "t1") ∷ []) ∷ (2, 0, command_item (creates "s2" "t2") ∷ [])
    ∷ (3, 0, command_item (sets "s1" (word "all") ("send" ∷ [])) ∷ []) ∷ (4, 0, command_item (sets "s2" (word "all") ("receive" ∷ [])) ∷ [])
    ∷ (5, 100, entry_call 100 "go" ∷ []) ∷ (6, 101, entry_call 101 "peer" ∷ [])
    ∷ (7, 100, event_item (sent 100 (word "hi") 101 true) ∷ event_item (received 101 100 (word "hi")) ∷ []) ∷ (8, 101, []) ∷ [])
moves_of_a_send = refl

abbrev move_of : Moment → ℕ × ℕ
move_of m = (m.move, m.pick)

-- the moments of the seventh move
moments_of_a_send : map move_of (drop 6 (history one_send picks)) ≡ ((7, 100) ∷ (7, 100) ∷ [])
moments_of_a_send = refl

abbrev phases : List NamedSession → List Phase
phases ss = map (λ s. s.1.phase) ss

abbrev phases_around : Moment → List Phase × List Phase
phases_around m = (phases m.before, phases m.after)

-- a session is live after its creation
phases_of_creations : map phases_around (take 2 (history one_send picks))
    ≡ ((absent ∷ absent ∷ [], live ∷ absent ∷ []) ∷ (live ∷ absent ∷ [], live ∷ live ∷ []) ∷ [])
phases_of_creations = refl

abbrev send_message : Tree
send_message = braces (word "trace" ∷ pid 100 ∷ word "send" ∷ word "hi" ∷ pid 101 ∷ [])

abbrev receive_message : Tree
receive_message = braces (word "trace" ∷ pid 101 ∷ word "receive" ∷ word "hi" ∷ [])

-- the messages of each session
messages_of_sends : history_messages opening (codes "s1") (history one_send picks) ≡ (send_message ∷ [])
messages_of_sends = refl

messages_of_receives : history_messages opening (codes "s2") (history one_send picks) ≡ (receive_message ∷ [])
messages_of_receives = refl

-- a session that is not created has none
messages_of_no_session : history_messages opening (codes "s3") (history one_send picks) ≡ []
messages_of_no_session = refl

-- the replies
replies_of_a_send : history_replies opening (history one_send picks) ≡ (braces (word "session" ∷ word "s1" ∷ []) ∷ braces (word "session" ∷ word "s2" ∷ []) ∷ number 2 ∷ number 2 ∷ [])
replies_of_a_send = refl

abbrev first_of : ℕ → Tree → Item
first_of n m = record { session = n; index = 0; message = m }

-- the seventh move adds the first message of each session, and the eighth none
items_of_a_send : items_of_move opening (move_histories one_send picks) 6 ≡ (first_of 1 send_message ∷ first_of 2 receive_message ∷ [])
items_of_a_send = refl

items_of_a_receive : items_of_move opening (move_histories one_send picks) 7 ≡ []
items_of_a_receive = refl
