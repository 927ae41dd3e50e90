-- What is kept of messages.
-- Depends on what is kept of the messages of a run.
use Rattle.std.specs.Prelude.{◌≡◌, ℕ, ◌-◌, nat_lt, if◌then◌else◌, Bool, true, false, List, [], ◌∷◌, ◌++◌, map, length, replicate, Option, Some, None}
use Rattle.std.specs.Arc.{arc_value}
use Rattle.std.specs.declared.sync.Arc.{Arc}
use Rattle.std.specs.declared.vec.Vec.{Vec}
use Rattle.def_term.specs.Alive.{FIRST_PID, PROCESSES}
use Rattle.def_term.specs.Tree.{Tree}
use Rattle.def_term.specs.Order.{same}
use Rattle.def_term.specs.Text.{w}
use Rattle.def_explore.specs.Rests.{RunQuestion, all_messages, by_process, KeptMessages, kept_messages, kept_by_process, message_process, each_process, all_pids}
use Rattle.tn_text.specs.WrittenTrees.{written_tree}
use Rattle.tn_messages.specs.declared.shared_message.SharedMessage.{SharedMessage}
use Rattle.tn_messages.specs.declared.kept_listings.KeptListings.{KeptListings}
use Rattle.tn_messages.specs.declared.messages_by_process.MessagesByProcess.{MessagesByProcess}
use Rattle.tn_messages.specs.declared.kept_listings.KeptListings.TheVariants.{Total, ByProcess}

-- ---- one message

abbrev pub message_tree : {A : Type 0} → SharedMessage A → Tree
message_tree m = written_tree m.message

-- the place of a pid among those that a run gives
abbrev pub pid_place : Option ℕ → Option ℕ
pid_place None = None
pid_place (Some n) = if nat_lt n FIRST_PID then None else if nat_lt (n - FIRST_PID) PROCESSES then Some (n - FIRST_PID) else None

-- that of the process that a message is of
abbrev pub message_place : Tree → Option ℕ
message_place t = pid_place (message_process t)

-- both are the same message
abbrev pub same_message : {A : Type 0} → SharedMessage A → SharedMessage A → Bool
same_message m n = same (message_tree m) (message_tree n)

-- a hash is of its text
abbrev pub message_writes : {A : Type 0} → SharedMessage A → List (List ℕ)
message_writes m = w (message_tree m) ∷ []

-- ---- messages of sessions

abbrev pub trees_seen : {A : Type 0} → Vec (SharedMessage A) A → List Tree
trees_seen v = map message_tree v.items

abbrev pub lists_seen : {A : Type 0} → Vec (Vec (SharedMessage A) A) A → List (List Tree)
lists_seen v = map trees_seen v.items

-- those of shared lists
abbrev pub trees_of_list : {A : Type 0} → Arc (Vec (SharedMessage A) A) A → List Tree
trees_of_list list = trees_seen (arc_value list)

abbrev pub shared_lists : {A : Type 0} → Vec (Arc (Vec (SharedMessage A) A) A) A → List (List Tree)
shared_lists v = map trees_of_list v.items

abbrev pub kept_seen : {A : Type 0} → KeptListings A → KeptMessages
kept_seen (Total v) = kept_messages (map trees_seen v.items)
kept_seen (ByProcess v) = kept_by_process (map lists_seen v.items)

-- ---- what is kept of the messages of some sessions

-- the question of a search
abbrev pub question_of : Bool → RunQuestion
question_of true = by_process
question_of false = all_messages

-- what is kept for it
abbrev pub kept_lists : Bool → List (List Tree) → KeptMessages
kept_lists true mss = kept_by_process (map (each_process all_pids) mss)
kept_lists false mss = kept_messages mss

-- ---- the messages of one session by process

-- the lists, and empty ones after them, up to this many
abbrev pub with_empty : ℕ → List (List Tree) → List (List Tree)
with_empty n mss = mss ++ replicate (n - length mss) []

-- its lists are those of each process: those that it has not are empty
abbrev pub AreByProcess : {A : Type 0} → MessagesByProcess A → List Tree → Type 0
AreByProcess k ms = with_empty PROCESSES (shared_lists k.lists) ≡ each_process all_pids ms
