-- Messages here and on a node that are the same.
use Rattle.std.specs.Prelude.{◌≡◌, ℕ, Bool, true, false, [], List, Option, Some, None, option_to_list, IfSome}
use Rattle.std.specs.Option.{option_map}
use Rattle.std.specs.declared.vec.Vec.{Vec}
use Rattle.def_term.specs.Tree.{Tree}
use Rattle.def_running_node.specs.NodeRuns.{lines_between}
use Rattle.def_running_node.specs.NodeComparisons.{texts}
use Rattle.tn_flags.specs.Views.{event_of}
use Rattle.tn_flags.specs.declared.event.Event.{Event}
use Rattle.tn_session.specs.Messages.{last_seen, message_seen}
use Rattle.tn_session.specs.declared.message.Message.{Message}
use Rattle.tn_running_node.specs.Scenes.{messages_in}
use Rattle.tn_running_node.specs.Views.{lines_seen}
use Rattle.tn_running_node.specs.declared.messages.Scene.{Scene}

-- where there is a message, it is of this event
abbrev pub IsMessageOfEvent : {A : Type 0} → Event A → Option (Message A) → Type 0
IsMessageOfEvent e m = IfSome m (λ k. k.event.now ≡ e)

-- the terms of both are the same, where they are of one event
abbrev pub IsSame : {A : Type 0} → Option (Message A) → Option (Message A) → Type 0
IsSame {A} one other = (e : Event A) → IsMessageOfEvent e one → IsMessageOfEvent e other → option_map message_seen one ≡ option_map message_seen other

-- there is one exactly where this holds, and it has no last value
abbrev pub IsWhere : {A : Type 0} → (holds : Bool) → Option (Message A) → Type 0
IsWhere holds None = holds ≡ false
IsWhere holds (Some m) = (holds ≡ true) × (last_seen m.last ≡ [])

-- these messages of an event are what a session here reports, where its message and the one there are of the event
abbrev pub AreAsHere : {A : Type 0} → Event A → (there : Option Tree → List Tree) → (message here : Option (Message A)) → Type 0
AreAsHere e there m h = IsMessageOfEvent e m → IsMessageOfEvent e h → there (option_map message_seen m) ≡ option_to_list (option_map message_seen h)

-- ---- their lines

-- the lines of the message that a session here reports
abbrev pub lines_here : {A : Type 0} → Option (Message A) → List (List ℕ)
lines_here h = texts (option_to_list (option_map message_seen h))

-- the lines of a session of a node: where there are none, those of the message here
abbrev pub lines_there : {A : Type 0} → Option (Message A) → Option (Vec (Vec ℕ A) A) → List (List ℕ)
lines_there h None = lines_here h
lines_there h (Some v) = lines_seen v

-- they are those of what is reported of the event, where both messages are of it
abbrev pub HasOtherLines : {A : Type 0} → Scene A → Event A → (message here : Option (Message A)) → Option (Vec (Vec ℕ A) A) → Type 0
HasOtherLines s e m h lines = IsMessageOfEvent e m → IsMessageOfEvent e h → lines_there h lines ≡ texts (messages_in s (event_of e) (option_map message_seen m))

-- the same is between these lines as between those of a session here and of one of a node
abbrev pub HasSameBetween : {A : Type 0} → Option (Message A) → Option (Vec (Vec ℕ A) A) → Vec (Vec ℕ A) A → Vec (Vec ℕ A) A → Type 0
HasSameBetween h lines one other = lines_between (lines_seen one) (lines_seen other) ≡ lines_between (lines_here h) (lines_there h lines)
