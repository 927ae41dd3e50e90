-- Whether what is kept of a run begins with the messages of a trace (own).
-- Depends on what is kept of a run, and on terms that are the same but for their pids. A process sends its trace messages to the tracer in their order; of those of two processes none is promised ("Processes", "Delivery of Signals").
use Rattle.std.specs.Prelude.{◌≡◌, ◌==◌, ◌||◌, ℕ, Bool, true, false, if◌then◌else◌, List, [], ◌∷◌, ◌++◌, Option, Some, None, is_some, length, map, filter, flat_map}
use Rattle.std.specs.List.{fold, list_any}
use Rattle.def_term.specs.Tree.{Tree}
use Rattle.def_explore.specs.Rests.{KeptMessages, kept_messages, kept_by_process, message_process, is_of_process}
use Rattle.def_renaming.specs.Renaming.{IsOneToOne, HaveRenamedPrefixes, first_renaming}

-- the messages of a trace of one session, as a node printed them, and whether the run may have more of them
pub record TraceQuestion : Type 0 where
  pub messages : List Tree
  pub goes_on : Bool

-- ---- messages that are in an order

-- the processes and that of one more message
abbrev pub with_process : List ℕ → Option ℕ → List ℕ
with_process ns None = ns
with_process ns (Some n) = if list_any (λ m. m == n) ns then ns else ns ++ n ∷ []

-- the processes that messages are of, by the first message of each
abbrev pub trace_processes : List Tree → List ℕ
trace_processes ms = fold (λ ns m. with_process ns (message_process m)) [] ms

-- those of the messages that are in an order: all of them, or those of each process
abbrev pub orders_in : KeptMessages → List Tree → List (List Tree)
orders_in (kept_messages mss) ms = ms ∷ []
orders_in (kept_by_process psss) ms = map (λ n. filter (is_of_process n) ms) (trace_processes ms)

-- what is kept, as lists that are in an order
abbrev pub lists_in : KeptMessages → List (List Tree)
lists_in (kept_messages mss) = mss
lists_in (kept_by_process psss) = flat_map (λ pss. pss) psss

-- how many messages are kept
abbrev pub count_in : KeptMessages → ℕ
count_in kept = length (flat_map (λ ms. ms) (lists_in kept))

-- a list has a message
abbrev pub has_message : List Tree → Bool
has_message [] = false
has_message (m ∷ ms) = true

-- those of the lists that have one
abbrev pub lists_with_messages : KeptMessages → List (List Tree)
lists_with_messages kept = filter has_message (lists_in kept)

-- ---- a prefix

-- with each pid's partner in its place, one to one, the messages are the first that are kept, in their orders
pub record IsPrefixBy (ps : List (ℕ × ℕ)) (ms : List Tree) (kept : KeptMessages) : Type 0 where
  pub one : IsOneToOne ps
  pub first : HaveRenamedPrefixes ps (orders_in kept ms) (lists_in kept)

-- the other way round: with each pid's partner in its place, one to one, the messages that are kept are the first of the trace, in their orders
pub record BeginsTraceBy (ps : List (ℕ × ℕ)) (ms : List Tree) (kept : KeptMessages) : Type 0 where
  pub one : IsOneToOne ps
  pub first : HaveRenamedPrefixes ps (lists_with_messages kept) (orders_in kept ms)

-- the trace is a prefix of what is kept, which begins the trace too, unless the run may go on
pub record IsShownBy (ps : List (ℕ × ℕ)) (a : TraceQuestion) (kept : KeptMessages) : Type 0 where
  pub prefix : IsPrefixBy ps a.messages kept
  pub all : a.goes_on ≡ false → (rs : List (ℕ × ℕ)) × BeginsTraceBy rs a.messages kept

-- the partners by which messages are the first that are kept
abbrev pub prefix_pairs : List Tree → KeptMessages → Option (List (ℕ × ℕ))
prefix_pairs ms kept = first_renaming (orders_in kept ms) (lists_in kept)

-- what is kept begins the trace
abbrev pub begins_trace : List Tree → KeptMessages → Bool
begins_trace ms kept = is_some (first_renaming (lists_with_messages kept) (orders_in kept ms))

-- it does, or the run may go on
abbrev pub has_no_more : TraceQuestion → KeptMessages → Bool
has_no_more a kept = a.goes_on || begins_trace a.messages kept

-- those by which the run shows the trace
abbrev pub shown_pairs : TraceQuestion → KeptMessages → Option (List (ℕ × ℕ))
shown_pairs a kept = if has_no_more a kept then prefix_pairs a.messages kept else None
