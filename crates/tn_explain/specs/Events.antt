-- Events that the code has a part of.
use Rattle.std.specs.Prelude.{ℕ, Bool}
use Rattle.def_term.specs.Tree.{Tree}
use Rattle.def_term.specs.Names.{Mfa}
use Rattle.def_script.specs.Program.{Class}
use Rattle.def_node.specs.Event.{Event, sent, received, returned, raised}
use Rattle.tn_term.specs.Views.{tree_of}
use Rattle.tn_term.specs.declared.term.Term.{Term}

-- this holds of the send of a message, whether the process that it is sent to is alive or not
abbrev pub EachSend : {A : Type 0} → (p : ℕ) → Term A → (to : ℕ) → (Event → Type 0) → Type 0
EachSend p message to Holds = (alive : Bool) → Holds (sent p (tree_of message) to alive)

-- this holds of a return at a depth, whatever function returns, and whatever value
abbrev pub EachReturn : (p depth : ℕ) → (Event → Type 0) → Type 0
EachReturn p depth Holds = (f : Mfa) (t : Tree) → Holds (returned p f t depth)

-- this holds of an exception that leaves a frame of a depth, whatever function is left, and whatever class and value it has
abbrev pub EachRaise : (p depth : ℕ) → (Event → Type 0) → Type 0
EachRaise p depth Holds = (f : Mfa) (c : Class) (t : Tree) → Holds (raised p f c t depth)

-- the receive of a message
abbrev pub receive_of : {A : Type 0} → (p sender : ℕ) → Term A → Event
receive_of p sender message = received p sender (tree_of message)
