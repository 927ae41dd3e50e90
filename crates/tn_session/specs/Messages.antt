-- What a message of the code stands for, and the parts of its text.
use Rattle.std.specs.Prelude.{◌≡◌, ℕ, List, [], ◌∷◌, ◌++◌, Bool, true, false, codes, drop, map, Option, Some, None, option_to_list}
use Rattle.std.specs.Option.{option_map}
use Rattle.std.specs.declared.vec.Vec.{Vec}
use Rattle.def_term.specs.Tree.{Tree, atom, pid, tuple, of_elements}
use Rattle.def_term.specs.Order.{same}
use Rattle.def_term.specs.Names.{Name, Mfa, word}
use Rattle.def_term.specs.Text.{w, comma_list, each_after_comma, atom_text}
use Rattle.def_node.specs.Event.{Event, sent, received, called, returned, raised, spawning, spawned, exited, linked, unlinked, getting_linked, getting_unlinked}
use Rattle.def_session.specs.Messages.{call_term, exception_term, elements_of, process_of}
use Rattle.tn_term.specs.Views.{tree_of, mfa_seen}
use Rattle.tn_term.specs.SharedTree.{shared_tree}
use Rattle.tn_term.specs.declared.mfa.Mfa as mfas
use Rattle.tn_term.specs.declared.shared_term.SharedTerm.{SharedTerm}
use Rattle.tn_term.specs.declared.term.Term.{Term}
use Rattle.tn_text.specs.WrittenTrees.{written_tree}
use Rattle.tn_text.specs.declared.written_term.WrittenTerm.{WrittenTerm}
use Rattle.tn_flags.specs.Views.{class_of, event_of}
use Rattle.tn_flags.specs.declared.class.Class.{Class}
use Rattle.tn_flags.specs.declared.event.Event as events
use Rattle.tn_guard.specs.Views.{value_seen}
use Rattle.tn_guard.specs.declared.value.Value.{Value}
use Rattle.tn_session.specs.declared.message.Message.{Message}

-- the terms of a list
abbrev pub trees : {A : Type 0} → Vec (Term A) A → List Tree
trees v = map tree_of v.items

-- the terms of a list, each of which may have several owners
abbrev pub shared_trees : {A : Type 0} → Vec (SharedTerm A) A → List Tree
shared_trees v = map shared_tree v.items

-- `{M,F,Args}`
abbrev pub call_tree : {A : Type 0} → mfas.Mfa A → Vec (SharedTerm A) A → Tree
call_tree f args = call_term (mfa_seen f) (shared_trees args)

-- `{Class,Value}`
abbrev pub exception_tree : {A : Type 0} → Class → Term A → Tree
exception_tree c t = exception_term (class_of c) (tree_of t)

-- the last element, where there is one
abbrev pub last_seen : {A : Type 0} → Option (Value A) → List Tree
last_seen v = option_to_list (option_map value_seen v)

-- the elements of the message of a return
abbrev pub elements_of_return : {A B : Type 0} → ℕ → mfas.Mfa A → Term B → List Tree
elements_of_return p f t = elements_of false (returned p (mfa_seen f) (tree_of t) 0)

-- the elements of the message of an exception
abbrev pub elements_of_raise : {A B : Type 0} → ℕ → mfas.Mfa A → Class → Term B → List Tree
elements_of_raise p f c t = elements_of false (raised p (mfa_seen f) (class_of c) (tree_of t) 0)

-- the first three elements of a message
abbrev pub first_three : ℕ → Name → List Tree
first_three p kind = word "trace" ∷ pid p ∷ atom kind ∷ []

-- the elements of a message that ends with a pid and `{M,F,Args}`
abbrev pub elements_with_call : {A : Type 0} → ℕ → Name → ℕ → mfas.Mfa A → Vec (SharedTerm A) A → List Tree
elements_with_call p kind to f args = first_three p kind ++ pid to ∷ call_tree f args ∷ []

-- a tuple of two
abbrev pub pair : Tree → Tree → Tree
pair s t = tuple (of_elements (s ∷ t ∷ []))

-- the event's elements, and the last element where there is one
abbrev pub message_seen : {A : Type 0} → Message A → Tree
message_seen m = tuple (of_elements (elements_of m.short (event_of m.event.now) ++ last_seen m.last))

-- the same of another event: its elements, and the last element where there is one
abbrev pub message_of : {A B : Type 0} → events.Event A → Message B → Tree
message_of e m = tuple (of_elements (elements_of m.short (event_of e) ++ last_seen m.last))

-- the message of an event with all arguments of a call, and no last element
abbrev pub plain_message : {A : Type 0} → events.Event A → Tree
plain_message e = tuple (of_elements (elements_of false (event_of e)))

-- the message that is made; where none is, the plain one
abbrev pub plain_for : {A B : Type 0} → events.Event A → Option (WrittenTerm B) → Tree
plain_for e None = plain_message e
plain_for e (Some m) = written_tree m

-- no message is made, or the plain one
abbrev pub IsPlain : {A B : Type 0} → events.Event A → Option (WrittenTerm B) → Type 0
IsPlain e m = same (plain_for e m) (plain_message e) ≡ true

-- the third element of an event's message
abbrev pub event_name : Event → Name
event_name (sent p t to true) = codes "send"
event_name (sent p t to false) = codes "send_to_non_existing_process"
event_name (received p sender t) = codes "receive"
event_name (called p c) = codes "call"
event_name (returned p f t depth) = codes "return_from"
event_name (raised p f c t depth) = codes "exception_from"
event_name (spawning p child f args) = codes "spawn"
event_name (spawned p parent f args) = codes "spawned"
event_name (exited p r) = codes "exit"
event_name (linked p q) = codes "link"
event_name (unlinked p q) = codes "unlink"
event_name (getting_linked p q) = codes "getting_linked"
event_name (getting_unlinked p q) = codes "getting_unlinked"

-- the elements after it
abbrev pub details_of : Bool → Event → List Tree
details_of short e = drop 3 (elements_of short e)

-- `{trace,<0.N.0>,` and the third element
abbrev pub front_text : Event → List ℕ
front_text e = codes "{trace," ++ w (pid (process_of e)) ++ codes "," ++ atom_text (event_name e)

-- a brace and the elements with a comma between any two
abbrev pub elements_text : Bool → Event → List ℕ
elements_text short e = 123 ∷ comma_list (of_elements (elements_of short e))

-- what is written; where nothing is, the text of the event's elements, with all arguments of a call
abbrev pub written_for : {A : Type 0} → events.Event A → List ℕ → List ℕ
written_for e [] = elements_text false (event_of e)
written_for e (b ∷ bs) = b ∷ bs

-- nothing is written, or that text
abbrev pub IsWritten : {A : Type 0} → events.Event A → List ℕ → Type 0
IsWritten e bs = written_for e bs ≡ elements_text false (event_of e)

-- the elements after the kind, each with a comma before it
abbrev pub details_text : Bool → Event → List ℕ
details_text short e = each_after_comma (of_elements (details_of short e))

-- `,{M,F,`
abbrev pub names_text : Mfa → List ℕ
names_text f = codes ",{" ++ atom_text f.module_name ++ codes "," ++ atom_text f.function_name ++ codes ","
