-- The node: all processes, and what one step of one of them does to the others (own). It knows nothing of sessions.
-- Depends on events, on the program and on what a process does by itself.
use Rattle.std.specs.Prelude.{ℕ, zero, suc, ◌+◌, ◌-◌, ◌==◌, nat_le, nat_lt, Bool, true, false, ◌&&◌, if◌then◌else◌, List, [], ◌∷◌, ◌++◌, length, map, replicate, slice_get, slice_set, Option, Some, None}
use Rattle.std.specs.Option.{option_map, unwrap_or}
use Rattle.def_term.specs.Tree.{Tree}
use Rattle.def_term.specs.Order.{same}
use Rattle.def_term.specs.Names.{word}
use Rattle.def_term.specs.Alive.{FIRST_PID, PROCESSES}
use Rattle.def_script.specs.Program.{Function, Entry, entry_mfa, Program}
use Rattle.def_node.specs.Event.{Event, sent, received, spawning, spawned, exited, linked, unlinked, getting_linked, getting_unlinked}
use Rattle.def_node.specs.Process.{Process, Act, act, waits, continues, sends, links_to, unlinks_from, spawns, exits}

-- the processes from pid 100 on; none where one has exited
pub record World : Type 0 where
  pub slots : List (Option Process)

-- what a pick of a process gives: the processes afterwards and the events in order; or nothing
pub data Move : Type 0 where
  moved : World → List Event → Move
  idle : World → Move

-- the place of a living process
abbrev pub place_in : Option (Option Process) → ℕ → Option ℕ
place_in None i = None
place_in (Some None) i = None
place_in (Some (Some q)) i = Some i

-- the place of the process with this pid, where it is alive
abbrev pub place_of_pid : World → ℕ → Option ℕ
place_of_pid w n = if nat_le FIRST_PID n then place_in (slice_get w.slots (n - FIRST_PID)) (n - FIRST_PID) else None

-- the process at this place changed, if it is alive
abbrev pub with_slot : List (Option Process) → ℕ → (Process → Process) → List (Option Process)
with_slot [] i f = []
with_slot (s ∷ ss) zero f = option_map f s ∷ ss
with_slot (s ∷ ss) (suc i) f = s ∷ with_slot ss i f

-- the processes with the one at this place changed
abbrev pub change_at : World → ℕ → (Process → Process) → World
change_at w i f = record w { slots = with_slot w.slots i f }

-- the processes with this one at this place
abbrev pub put_at : World → ℕ → Process → World
put_at w i q = change_at w i (λ _. q)

-- ---- messages

-- the message is put at the end of the mailbox
abbrev pub with_message : Tree → Process → Process
with_message t q = record q { mailbox = q.mailbox ++ t ∷ [] }

-- a send to a living process gives send, and in the same step the receive event; a send to any other pid gives only the send to a non-existing process
abbrev pub delivered_to : World → ℕ → ℕ → Tree → Option ℕ → Move
delivered_to w n m t None = moved w (sent n t m false ∷ [])
delivered_to w n m t (Some i) = moved (change_at w i (with_message t)) (sent n t m true ∷ received m n t ∷ [])

-- a send from n to m
abbrev pub deliver : World → ℕ → ℕ → Tree → Move
deliver w n m t = delivered_to w n m t (place_of_pid w m)

-- ---- links and signals

-- the process is linked to m
abbrev pub is_linked : Process → ℕ → Bool
is_linked q m = nat_le FIRST_PID m && unwrap_or (slice_get q.links (m - FIRST_PID)) false

-- whether the process at this place is linked to m
abbrev pub linked_in : Option (Option Process) → ℕ → Bool
linked_in None m = false
linked_in (Some None) m = false
linked_in (Some (Some q)) m = is_linked q m

-- whether the one at this place is
abbrev pub linked_at : World → ℕ → ℕ → Bool
linked_at w i m = linked_in (slice_get w.slots i) m

-- the link to m is there, or is removed
abbrev pub with_link : ℕ → Bool → Process → Process
with_link m b q = record q { links = slice_set q.links (m - FIRST_PID) b }

-- the oldest signal is taken, so a later one is dropped
abbrev pub first_signal : Option Tree → Tree → Option Tree
first_signal None r = Some r
first_signal (Some s) r = Some s

-- the process has that exit signal pending, unless it has an older one
abbrev pub with_signal : Tree → Process → Process
with_signal r q = record q { signal = first_signal q.signal r }

-- the process n, at the place i, links to m, which is at the place j, or isn't alive
abbrev pub linked_to : World → ℕ → ℕ → ℕ → Option ℕ → Move
linked_to w i n m None = moved (change_at w i (with_signal (word "noproc"))) (linked n m ∷ [])
linked_to w i n m (Some j) = moved (change_at (change_at w i (with_link m true)) j (with_link n true)) (linked n m ∷ getting_linked m n ∷ [])

-- a link to itself gives no event; one that is there already gives link alone
abbrev pub link_made : World → ℕ → ℕ → ℕ → Move
link_made w i n m =
    if n == m then moved w [] else
    if linked_at w i m then moved w (linked n m ∷ []) else
    linked_to w i n m (place_of_pid w m)

-- the link is removed at both ends
abbrev pub unlinked_from : World → ℕ → ℕ → ℕ → Option ℕ → Move
unlinked_from w i n m None = moved (change_at w i (with_link m false)) (unlinked n m ∷ getting_unlinked m n ∷ [])
unlinked_from w i n m (Some j) = moved (change_at (change_at w i (with_link m false)) j (with_link n false)) (unlinked n m ∷ getting_unlinked m n ∷ [])

-- unlink gives unlink, then getting_unlinked where a link was
abbrev pub link_removed : World → ℕ → ℕ → ℕ → Move
link_removed w i n m =
    if n == m then moved w [] else
    if linked_at w i m then unlinked_from w i n m (place_of_pid w m) else
    moved w (unlinked n m ∷ [])

-- ---- the end of a process

-- each linked partner loses the link, and gets the exit signal unless the reason is `normal`
abbrev pub part : ℕ → Tree → Process → Process
part n r q = if same r (word "normal") then with_link n false q else with_signal r (with_link n false q)

-- each partner of n in turn
abbrev pub partners_told : ℕ → Tree → List Bool → List (Option Process) → List (Option Process)
partners_told n r [] ss = ss
partners_told n r (b ∷ bs) [] = []
partners_told n r (b ∷ bs) (s ∷ ss) = (if b then option_map (part n r) s else s) ∷ partners_told n r bs ss

-- the pids of the partners, from this one on, by rising pid
abbrev pub partner_pids : ℕ → List Bool → List ℕ
partner_pids m [] = []
partner_pids m (true ∷ bs) = m ∷ partner_pids (suc m) bs
partner_pids m (false ∷ bs) = partner_pids (suc m) bs

-- an exit gives exit, then for each linked partner by rising pid getting_unlinked
abbrev pub exit_process : World → ℕ → ℕ → List Bool → Tree → List Event → Move
exit_process w i n partners r before =
    moved (record { slots = partners_told n r partners (slice_set w.slots i None) })
    (before ++ exited n r ∷ map (λ m. getting_unlinked m n) (partner_pids FIRST_PID partners))

-- ---- spawning

-- a process that has made no step yet
abbrev pub fresh : Entry → Process
fresh e = record { entry = Some e; frames = []; mailbox = []; signal = None; links = replicate PROCESSES false }

-- the pid that a spawn would give: pids are numbered in the order of spawns, and at most 64 processes are started in a run
abbrev pub next_pid : World → Option ℕ
next_pid w = if nat_lt (length w.slots) PROCESSES then Some (FIRST_PID + length w.slots) else None

-- a spawn gives the events spawn, then spawned
abbrev pub start_process : World → ℕ → ℕ → Entry → Move
start_process w n child e =
    moved (record { slots = w.slots ++ Some (fresh e) ∷ [] })
    (spawning n child (entry_mfa e) e.args ∷ spawned child n (entry_mfa e) e.args ∷ [])

-- ---- one step

-- the act of the process n, at the place i: first what it makes of that process, and then what it does to others
abbrev pub after_act : World → ℕ → ℕ → Act → Move
after_act w i n (waits q) = idle (put_at w i q)
after_act w i n (continues q es) = moved (put_at w i q) es
after_act w i n (sends q m t) = deliver (put_at w i q) n m t
after_act w i n (links_to q m) = link_made (put_at w i q) i n m
after_act w i n (unlinks_from q m) = link_removed (put_at w i q) i n m
after_act w i n (spawns q child e) = start_process (put_at w i q) n child e
after_act w i n (exits partners r before) = exit_process w i n partners r before

-- the step of what is at a place: nothing where no process was started, or it has exited
abbrev pub stepped_at : List Function → World → ℕ → ℕ → Option (Option Process) → Move
stepped_at ks w i n None = idle w
stepped_at ks w i n (Some None) = idle w
stepped_at ks w i n (Some (Some q)) = after_act w i n (act ks n (next_pid w) q)

-- the next step of the process n; a pick is idle where the process was never started, has exited, or waits
abbrev pub next_of : List Function → World → ℕ → Move
next_of ks w n = if nat_le FIRST_PID n then stepped_at ks w (n - FIRST_PID) n (slice_get w.slots (n - FIRST_PID)) else idle w

-- initial processes have the pids from 100 on, in the order of their forms
abbrev pub opening_world : List Entry → World
opening_world es = record { slots = map (λ e. Some (fresh e)) es }

-- ---- picks

-- the processes, and how many commands of the control list were taken
pub record NodeState : Type 0 where
  pub world : World
  pub taken : ℕ

-- what a pick gives: events, the number of the next command (from 1), or nothing
pub data PickResult : Type 0 where
  gives_events : NodeState → List Event → PickResult
  gives_command : NodeState → ℕ → PickResult
  gives_nothing : NodeState → PickResult

-- a move with the place in the control list
abbrev pub of_move : NodeState → Move → PickResult
of_move s (moved w es) = gives_events (record s { world = w }) es
of_move s (idle w) = gives_nothing (record s { world = w })

-- what a pick gives, over these functions and so many commands: pick 0 is the control list, pick n the process n
abbrev pub pick_result : List Function → ℕ → NodeState → ℕ → PickResult
pick_result ks commands s zero = if nat_lt s.taken commands then gives_command (record s { taken = suc s.taken }) (suc s.taken) else gives_nothing s
pick_result ks commands s (suc n) = of_move s (next_of ks s.world (suc n))

-- what a pick gives in a run of the program
abbrev pub next : Program → NodeState → ℕ → PickResult
next p s n = pick_result p.functions (length p.commands) s n

-- no command is taken yet
abbrev pub opening_state : Program → NodeState
opening_state p = record { world = opening_world p.entries; taken = 0 }
