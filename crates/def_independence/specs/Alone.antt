-- Moves that change one process alone (own).
-- Depends on the node, on what is known of a next step, and on runs.
use Rattle.std.specs.Prelude.{ℕ, nat_le, Bool, true, false, not, ◌&&◌, List, [], ◌∷◌, Option, Some, None, is_none, is_some}
use Rattle.std.specs.List.{list_any}
use Rattle.def_term.specs.Tree.{Tree}
use Rattle.def_script.specs.Program.{Step, receive, call_remote, call_local, catch, link, unlink, give_back, raise, Function, Program}
use Rattle.def_node.specs.Event.{Event, called, returned, raised}
use Rattle.def_node.specs.Process.{Process, Act, continues, act}
use Rattle.def_node.specs.Node.{World, next_pid, Move, moved, idle, next_of}
use Rattle.def_outlook.specs.Outlook.{has_no_message, Upcoming, takes_signal, makes_entry, has_no_step, makes_step, upcoming, runtime_error, catch_depth, process_with}
use Rattle.def_run.specs.Run.{run_state_of}

-- ---- links

-- the step makes a link
abbrev pub is_link : Step → Bool
is_link (link other) = true
is_link s = false

-- the function has such a step
abbrev pub has_link : Function → Bool
has_link k = list_any is_link k.steps

-- one of these functions has one
abbrev pub have_link : List Function → Bool
have_link ks = list_any has_link ks

-- the step removes one
abbrev pub is_unlink : Step → Bool
is_unlink (unlink other) = true
is_unlink s = false

-- the function has such a step
abbrev pub has_unlink : Function → Bool
has_unlink k = list_any is_unlink k.steps

-- one of these functions has one
abbrev pub have_unlink : List Function → Bool
have_unlink ks = list_any has_unlink ks

-- ---- a receive that takes a message

-- the step is a receive, and there are messages
abbrev pub takes_by : List Tree → Option Step → Bool
takes_by ts (Some (receive x)) = not (has_no_message ts)
takes_by ts s = false

-- that comes next
abbrev pub takes_with : List Tree → Upcoming → Bool
takes_with ts (makes_step k f count s) = takes_by ts s
takes_with ts u = false

-- the next step of the process is a receive, and a message is in its mailbox
abbrev pub takes_message : List Function → Process → Bool
takes_message ks q = takes_with q.mailbox (upcoming ks q)

-- there is a process, of which that is so
abbrev pub one_takes : List Function → Option Process → Bool
one_takes ks None = false
one_takes ks (Some q) = takes_message ks q

-- after these picks the process with this pid is alive, and takes a message from its mailbox at its next step
abbrev pub takes_message_after : Program → List ℕ → ℕ → Bool
takes_message_after p picks n = one_takes p.functions (process_with (run_state_of p picks).world n)

-- ---- an act on the process alone

-- the process goes on, and nothing else of the node changes
abbrev pub is_alone : Act → Bool
is_alone (continues q es) = true
is_alone a = false

-- there is a process with this pid, of which that is the next act
abbrev pub one_goes_alone : List Function → World → ℕ → Option Process → Bool
one_goes_alone ks w n None = false
one_goes_alone ks w n (Some q) = is_alone (act ks n (next_pid w) q)

-- after these picks the process with this pid is alive, and its next step is its entry call, a call, a return to a frame, an exception that is caught, or a receive that takes a message
abbrev pub goes_alone_after : Program → List ℕ → ℕ → Bool
goes_alone_after p picks n = let w : World = (run_state_of p picks).world in one_goes_alone p.functions w n (process_with w n)

-- ---- the same by the events of the move

-- the event is a call, a return or an exception
abbrev pub is_own_step : Event → Bool
is_own_step (called n c) = true
is_own_step (returned n m t depth) = true
is_own_step (raised n m c t depth) = true
is_own_step e = false

-- each of these is
abbrev pub are_own_steps : List Event → Bool
are_own_steps [] = true
are_own_steps (e ∷ es) = is_own_step e && are_own_steps es

-- the process moves, and shows such events alone, or none
abbrev pub shows_own_steps : Move → Bool
shows_own_steps (moved w es) = are_own_steps es
shows_own_steps (idle w) = false

-- after these picks the process with this pid does
abbrev pub shows_own_steps_after : Program → List ℕ → ℕ → Bool
shows_own_steps_after p picks n = shows_own_steps (next_of p.functions (run_state_of p picks).world n)

-- the process moves, and shows no event
abbrev pub shows_nothing : Move → Bool
shows_nothing (moved w []) = true
shows_nothing (moved w (e ∷ es)) = false
shows_nothing (idle w) = false

-- after these picks the process with this pid does
abbrev pub shows_nothing_after : Program → List ℕ → ℕ → Bool
shows_nothing_after p picks n = shows_nothing (next_of p.functions (run_state_of p picks).world n)

-- ---- the same by what is known of the next step

-- a step of the newest of so many frames, that is no error: a receive with these messages, a call, a return to a frame, or a raise that is caught
abbrev pub alone_by : List Tree → Bool → ℕ → Option Step → Bool
alone_by ts caught count None = nat_le 2 count
alone_by ts caught count (Some (receive x)) = not (has_no_message ts)
alone_by ts caught count (Some (call_remote x m g args)) = true
alone_by ts caught count (Some (call_local x g args)) = true
alone_by ts caught count (Some (catch x m g args)) = true
alone_by ts caught count (Some (give_back t)) = nat_le 2 count
alone_by ts caught count (Some (raise c t)) = caught
alone_by ts caught count s = false

-- that comes next, or the entry call
abbrev pub alone_with : List Tree → Bool → Upcoming → Bool
alone_with ts caught takes_signal = false
alone_with ts caught (makes_entry e) = true
alone_with ts caught has_no_step = false
alone_with ts caught (makes_step k f count s) = alone_by ts caught count s

-- the next step is no error, and changes the process alone
abbrev pub goes_alone_by : List Function → Option ℕ → Process → Bool
goes_alone_by ks child q = is_none (runtime_error ks child q) && alone_with q.mailbox (is_some (catch_depth q.frames)) (upcoming ks q)
