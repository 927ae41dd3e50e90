-- What the picks of small programs give.
use Rattle.std.proofs.Common.{◌≡◌, ℕ, zero, suc, true, false, List, [], ◌∷◌, Some, None, refl, codes}
use Rattle.def_term.specs.Tree.{Tree, pid, tuple, list, more, none}
use Rattle.def_term.specs.Names.{Name, Mfa, word}
use Rattle.def_script.specs.Program.{Class, error, throw, exit, Step, send, receive, call_remote, call_local, catch, spawn, link, give_back, raise, Function, Entry, Program}
use Rattle.def_node.specs.Event.{Event, sent, received, called, returned, raised, spawning, spawned, exited, linked, getting_linked, getting_unlinked}
use Rattle.def_node.specs.Node.{NodeState, PickResult, gives_events, gives_command, gives_nothing, next, opening_state}
use Rattle.def_node.specs.Limits.{state_after}

abbrev shown : PickResult → List Event
shown (gives_events t es) = es
shown (gives_command t k) = []
shown (gives_nothing t) = []

-- the events of each pick
abbrev events_of : Program → NodeState → List ℕ → List (List Event)
events_of p s [] = []
events_of p s (n ∷ ns) = let m = next p s n in shown m ∷ events_of p (state_after m) ns

abbrev of_picks : Program → List ℕ → List (List Event)
of_picks p ns = events_of p (opening_state p) ns

abbrev function_named : Name → List Step → Function
function_named f steps = record { module_name = codes "m"; function_name = f; exported = true; params = []; steps = steps }

abbrev starting : Name → Entry
starting f = record { module_name = codes "m"; function_name = f; args = [] }

abbrev mfa : Name → Mfa
mfa f = record { module_name = codes "m"; function_name = f; arity = 0 }

abbrev entry_call : ℕ → Name → Event
entry_call n f = called n (record { mfa = mfa f; args = []; named = true; exported = true; caller = None; depth = 1 })

abbrev pair : List Step → List Step → Program
pair go peer = record {
  functions = function_named (codes "go") go ∷ function_named (codes "peer") peer ∷ [];
  entries = starting (codes "go") ∷ starting (codes "peer") ∷ [];
  commands = [];
}

-- an exit leaves the entry frame, and tells the partner, which takes the signal while it waits for a message
exit_signal : of_picks (pair (link (pid 101) ∷ raise exit (word "boom") ∷ []) (receive None ∷ [])) (100 ∷ 101 ∷ 101 ∷ 100 ∷ 100 ∷ 101 ∷ 101 ∷ [])
    ≡ ((entry_call 100 (codes "go") ∷ []) ∷ (entry_call 101 (codes "peer") ∷ []) ∷ [] ∷ (linked 100 101 ∷ getting_linked 101 100 ∷ [])
    ∷ (raised 100 (mfa (codes "go")) exit (word "boom") 1 ∷ exited 100 (word "boom") ∷ getting_unlinked 101 100 ∷ []) ∷ (exited 101 (word "boom") ∷ []) ∷ [] ∷ [])
exit_signal = refl

-- a link to itself gives no event, one to a process that isn't alive an exit signal
link_to_itself : of_picks (pair (link (word "Self") ∷ link (pid 163) ∷ []) []) (100 ∷ 100 ∷ 100 ∷ 100 ∷ [])
    ≡ ((entry_call 100 (codes "go") ∷ []) ∷ [] ∷ (linked 100 163 ∷ []) ∷ (exited 100 (word "noproc") ∷ []) ∷ [])
link_to_itself = refl

-- a message to a living process is received in the same step
message : of_picks (pair (send (pid 101) (word "hi") ∷ send (pid 199) (word "hi") ∷ []) (receive None ∷ [])) (100 ∷ 101 ∷ 100 ∷ 101 ∷ 100 ∷ 101 ∷ [])
    ≡ ((entry_call 100 (codes "go") ∷ []) ∷ (entry_call 101 (codes "peer") ∷ []) ∷ (sent 100 (word "hi") 101 true ∷ received 101 100 (word "hi") ∷ [])
    ∷ [] ∷ (sent 100 (word "hi") 199 false ∷ []) ∷ (returned 101 (mfa (codes "peer")) (word "ok") 1 ∷ exited 101 (word "normal") ∷ []) ∷ [])
message = refl

-- a child makes its entry call at its own first step
child : of_picks (pair (spawn None (codes "m") (codes "peer") [] ∷ []) []) (100 ∷ 100 ∷ 102 ∷ [])
    ≡ ((entry_call 100 (codes "go") ∷ []) ∷ (spawning 100 102 (mfa (codes "peer")) [] ∷ spawned 102 100 (mfa (codes "peer")) [] ∷ []) ∷ (entry_call 102 (codes "peer") ∷ []) ∷ [])
child = refl

abbrev times : ℕ → ℕ → List ℕ
times n zero = []
times n (suc k) = n ∷ times n k

abbrev last_of : List (List Event) → List Event
last_of [] = []
last_of (es ∷ []) = es
last_of (es ∷ fs ∷ rest) = last_of (fs ∷ rest)

-- the 65th call ends the process
recursion_to_the_limit : last_of (of_picks (pair (call_local None (codes "go") [] ∷ []) []) (times 100 65)) ≡ exited 100 (word "system_limit") ∷ []
recursion_to_the_limit = refl

-- ---- exceptions

abbrev three : List Step → List Step → List Step → Program
three go f g = record {
  functions = function_named (codes "go") go ∷ function_named (codes "f") f ∷ function_named (codes "g") g ∷ [];
  entries = starting (codes "go") ∷ [];
  commands = [];
}

-- a call by a function of the first process
abbrev call_by : Name → Name → ℕ → Event
call_by by f depth = called 100 (record { mfa = mfa f; args = []; named = true; exported = true; caller = Some (mfa by); depth = depth })

abbrev calls : Name → Step
calls f = call_remote None (codes "m") f []

abbrev catches : Name → Step
catches f = catch (Some (codes "X")) (codes "m") f []

abbrev raises_in : Name → Class → Tree → ℕ → Event
raises_in f c t depth = raised 100 (mfa f) c t depth

abbrev pair_of : Tree → Tree → Tree
pair_of t u = tuple (more t (more u none))

-- two frames are left, the one that the catch called too, and the value is bound after the step
caught_error : of_picks (three (catches (codes "f") ∷ give_back (word "X") ∷ []) (calls (codes "g") ∷ []) (raise error (word "bad") ∷ [])) (times 100 5)
    ≡ ((entry_call 100 (codes "go") ∷ []) ∷ (call_by (codes "go") (codes "f") 2 ∷ []) ∷ (call_by (codes "f") (codes "g") 3 ∷ [])
    ∷ (raises_in (codes "g") error (word "bad") 3 ∷ raises_in (codes "f") error (word "bad") 2 ∷ [])
    ∷ (returned 100 (mfa (codes "go")) (pair_of (word "EXIT") (pair_of (word "bad") (list none))) 1 ∷ exited 100 (word "normal") ∷ []) ∷ [])
caught_error = refl

caught_exit : last_of (of_picks (three (catches (codes "f") ∷ give_back (word "X") ∷ []) (calls (codes "g") ∷ []) (raise exit (word "bad") ∷ [])) (times 100 5))
    ≡ (returned 100 (mfa (codes "go")) (pair_of (word "EXIT") (word "bad")) 1 ∷ exited 100 (word "normal") ∷ [])
caught_exit = refl

caught_throw : last_of (of_picks (three (catches (codes "f") ∷ give_back (word "X") ∷ []) (calls (codes "g") ∷ []) (raise throw (word "bad") ∷ [])) (times 100 5))
    ≡ (returned 100 (mfa (codes "go")) (word "bad") 1 ∷ exited 100 (word "normal") ∷ [])
caught_throw = refl

-- the newest of two catches takes it
newest_catch : last_of (of_picks (three (catches (codes "f") ∷ []) (catches (codes "g") ∷ give_back (pair_of (word "f") (word "X")) ∷ []) (raise throw (word "bad") ∷ [])) (times 100 5))
    ≡ (returned 100 (mfa (codes "f")) (pair_of (word "f") (word "bad")) 2 ∷ [])
newest_catch = refl

-- a catch whose call returns gives the value
nothing_caught : last_of (of_picks (three (catches (codes "f") ∷ give_back (word "X") ∷ []) [] []) (times 100 4))
    ≡ (returned 100 (mfa (codes "go")) (word "ok") 1 ∷ exited 100 (word "normal") ∷ [])
nothing_caught = refl

-- and is after it no more: a throw after its return isn't caught
catch_is_over : last_of (of_picks (three (catches (codes "f") ∷ raise throw (word "X") ∷ []) [] []) (times 100 4))
    ≡ (raises_in (codes "go") error (pair_of (word "nocatch") (word "ok")) 1 ∷ exited 100 (pair_of (pair_of (word "nocatch") (word "ok")) (list none)) ∷ [])
catch_is_over = refl

-- without a catch all frames are left, and the process exits in the same step
uncaught_throw : last_of (of_picks (three (calls (codes "f") ∷ []) (calls (codes "g") ∷ []) (raise throw (word "bad") ∷ [])) (times 100 4))
    ≡ (raises_in (codes "g") error (pair_of (word "nocatch") (word "bad")) 3 ∷ raises_in (codes "f") error (pair_of (word "nocatch") (word "bad")) 2
    ∷ raises_in (codes "go") error (pair_of (word "nocatch") (word "bad")) 1 ∷ exited 100 (pair_of (pair_of (word "nocatch") (word "bad")) (list none)) ∷ [])
uncaught_throw = refl

uncaught_exit : last_of (of_picks (three (calls (codes "f") ∷ []) (raise exit (word "bad") ∷ []) []) (times 100 3))
    ≡ (raises_in (codes "f") exit (word "bad") 2 ∷ raises_in (codes "go") exit (word "bad") 1 ∷ exited 100 (word "bad") ∷ [])
uncaught_exit = refl

-- an exit with the reason `normal` leaves its frames too
exit_normal : last_of (of_picks (three (raise exit (word "normal") ∷ []) [] []) (times 100 2))
    ≡ (raises_in (codes "go") exit (word "normal") 1 ∷ exited 100 (word "normal") ∷ [])
exit_normal = refl

-- what ends a process by itself is raised by no step, so that no catch takes it: a send to what is no pid
badarg_is_not_caught : last_of (of_picks (three (catches (codes "f") ∷ []) (send (word "a") (word "b") ∷ []) []) (times 100 3))
    ≡ (exited 100 (word "badarg") ∷ [])
badarg_is_not_caught = refl

-- a pending exit signal: it comes before the throw
signal_is_not_caught : last_of (of_picks (three (catches (codes "f") ∷ []) (link (pid 163) ∷ raise throw (word "a") ∷ []) []) (times 100 4))
    ≡ (exited 100 (word "noproc") ∷ [])
signal_is_not_caught = refl

-- the 65th call, though it is a catch
catch_at_the_limit : last_of (of_picks (three (catches (codes "go") ∷ []) [] []) (times 100 65)) ≡ (exited 100 (word "system_limit") ∷ [])
catch_at_the_limit = refl

-- so many brackets round a term
abbrev within_brackets : ℕ → Tree → Tree
within_brackets zero t = t
within_brackets (suc n) t = list (more (within_brackets n t) none)

-- a template past the limits
template_past_the_limit : last_of (of_picks (three (catches (codes "f") ∷ []) (raise throw (within_brackets 33 (word "a")) ∷ []) []) (times 100 3))
    ≡ (exited 100 (word "system_limit") ∷ [])
template_past_the_limit = refl

-- one at the limit is raised, and its catch has a value past it, which no later template may hold
deep_value_is_caught : last_of (of_picks (three (catches (codes "f") ∷ give_back (word "ok") ∷ []) (raise error (within_brackets 32 (word "a")) ∷ []) []) (times 100 4))
    ≡ (returned 100 (mfa (codes "go")) (word "ok") 1 ∷ exited 100 (word "normal") ∷ [])
deep_value_is_caught = refl

deep_value_is_past_the_limit : last_of (of_picks (three (catches (codes "f") ∷ give_back (word "X") ∷ []) (raise error (within_brackets 32 (word "a")) ∷ []) []) (times 100 4))
    ≡ (exited 100 (word "system_limit") ∷ [])
deep_value_is_past_the_limit = refl

-- the frame of the catch keeps the variables that it had, the mailbox what it held, and the target '_' throws the value away
frame_is_kept : last_of (of_picks (three (send (word "Self") (word "a") ∷ receive (Some (codes "X")) ∷ send (word "Self") (word "b") ∷ catch None (codes "m") (codes "f") [] ∷ receive (Some (codes "Y")) ∷ give_back (pair_of (word "X") (word "Y")) ∷ []) (raise error (word "bad") ∷ []) []) (times 100 8))
    ≡ (returned 100 (mfa (codes "go")) (pair_of (word "a") (word "b")) 1 ∷ exited 100 (word "normal") ∷ [])
frame_is_kept = refl
