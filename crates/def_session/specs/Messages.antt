-- The message of each event, and how effects decide it (trace:process/4; "Match Specifications in Erlang", "Functions Allowed Only for Tracing").
-- Depends on events and on effects.
use Rattle.std.specs.Prelude.{ℕ, Bool, true, false, if◌then◌else◌, List, [], ◌∷◌, Option, Some, None}
use Rattle.def_term.specs.Tree.{Tree, atom, pid, tuple, list, of_elements}
use Rattle.def_term.specs.Order.{same}
use Rattle.def_term.specs.Names.{Mfa, word, mfa_term}
use Rattle.def_script.specs.Program.{Class, error, throw, exit}
use Rattle.def_spec.specs.Expressions.{Effect, gives_message}
use Rattle.def_node.specs.Event.{Event, sent, received, called, returned, raised, spawning, spawned, exited, linked, unlinked, getting_linked, getting_unlinked}

-- {M,F,Args}
abbrev pub call_term : Mfa → List Tree → Tree
call_term f args = tuple (of_elements (atom f.module_name ∷ atom f.function_name ∷ list (of_elements args) ∷ []))

-- the class as a term
abbrev pub class_term : Class → Tree
class_term error = word "error"
class_term throw = word "throw"
class_term exit = word "exit"

-- {Class,Value}
abbrev pub exception_term : Class → Tree → Tree
exception_term c t = tuple (of_elements (class_term c ∷ t ∷ []))

-- the elements of an event's message; a call's with the flag `arity` has {M,F,Arity}
abbrev pub elements_of : Bool → Event → List Tree
elements_of short (sent p t to true) = word "trace" ∷ pid p ∷ word "send" ∷ t ∷ pid to ∷ []
elements_of short (sent p t to false) = word "trace" ∷ pid p ∷ word "send_to_non_existing_process" ∷ t ∷ pid to ∷ []
elements_of short (received p sender t) = word "trace" ∷ pid p ∷ word "receive" ∷ t ∷ []
elements_of short (called p c) = word "trace" ∷ pid p ∷ word "call" ∷ (if short then mfa_term c.mfa else call_term c.mfa c.args) ∷ []
elements_of short (returned p f t depth) = word "trace" ∷ pid p ∷ word "return_from" ∷ mfa_term f ∷ t ∷ []
elements_of short (raised p f c t depth) = word "trace" ∷ pid p ∷ word "exception_from" ∷ mfa_term f ∷ exception_term c t ∷ []
elements_of short (spawning p child f args) = word "trace" ∷ pid p ∷ word "spawn" ∷ pid child ∷ call_term f args ∷ []
elements_of short (spawned p parent f args) = word "trace" ∷ pid p ∷ word "spawned" ∷ pid parent ∷ call_term f args ∷ []
elements_of short (exited p r) = word "trace" ∷ pid p ∷ word "exit" ∷ r ∷ []
elements_of short (linked p q) = word "trace" ∷ pid p ∷ word "link" ∷ pid q ∷ []
elements_of short (unlinked p q) = word "trace" ∷ pid p ∷ word "unlink" ∷ pid q ∷ []
elements_of short (getting_linked p q) = word "trace" ∷ pid p ∷ word "getting_linked" ∷ pid q ∷ []
elements_of short (getting_unlinked p q) = word "trace" ∷ pid p ∷ word "getting_unlinked" ∷ pid q ∷ []

-- the process that an event is about
abbrev pub process_of : Event → ℕ
process_of (sent p t to alive) = p
process_of (received p sender t) = p
process_of (called p c) = p
process_of (returned p f t depth) = p
process_of (raised p f c t depth) = p
process_of (spawning p child f args) = p
process_of (spawned p parent f args) = p
process_of (exited p r) = p
process_of (linked p q) = p
process_of (unlinked p q) = p
process_of (getting_linked p q) = p
process_of (getting_unlinked p q) = p

-- the later of two messages, where there is one
abbrev pub later : Option Tree → Option Tree → Option Tree
later o None = o
later o (Some t) = Some t

-- the last message that the effects give
abbrev pub last_message : List Effect → Option Tree
last_message [] = None
last_message (gives_message t ∷ es) = later (Some t) (last_message es)
last_message (_ ∷ es) = last_message es

-- one more element at the end
abbrev pub followed_by : List Tree → Tree → List Tree
followed_by [] t = t ∷ []
followed_by (u ∷ us) t = u ∷ followed_by us t

-- `false` suppresses the message, `true` or none sends it plain, any other term is its last element
abbrev pub message_by : Option Tree → List Tree → Option Tree
message_by None ts = Some (tuple (of_elements ts))
message_by (Some t) ts =
    if same t (word "true") then Some (tuple (of_elements ts)) else
    if same t (word "false") then None else
    Some (tuple (of_elements (followed_by ts t)))
