-- Which picks may move a node.
-- Depends on what is known of a next step, and on nodes.
use Rattle.std.specs.Prelude.{ℕ, zero, suc, ◌-◌, nat_le, nat_lt, Bool, false, not, if◌then◌else◌, List, length, slice_get, Option, Some, None}
use Rattle.def_term.specs.Alive.{FIRST_PID}
use Rattle.def_script.specs.Program.{Function, Program}
use Rattle.def_node.specs.Process.{Process}
use Rattle.def_outlook.specs.Outlook.{is_waiting}
use Rattle.tn_node.specs.Nodes.{NodeValue, slots_in, taken_in}

-- a process is at the place, and doesn't wait
abbrev pub is_ready : List Function → Option (Option Process) → Bool
is_ready ks None = false
is_ready ks (Some None) = false
is_ready ks (Some (Some q)) = not (is_waiting ks q)

-- at the place of this pid
abbrev pub is_ready_pid : List Function → List (Option Process) → ℕ → Bool
is_ready_pid ks ss n = if nat_le FIRST_PID n then is_ready ks (slice_get ss (n - FIRST_PID)) else false

-- of a node that isn't spent
abbrev pub is_ready_in : List Function → Option (List (Option Process)) → ℕ → Bool
is_ready_in ks None n = false
is_ready_in ks (Some ss) n = is_ready_pid ks ss n

-- fewer commands than there are were taken
abbrev pub has_command_left : ℕ → Option ℕ → Bool
has_command_left commands None = false
has_command_left commands (Some taken) = nat_lt taken commands

-- pick 0 may move where a command is left, and any other where the process with that pid is there and doesn't wait
abbrev pub may_move_by : Program → Option NodeValue → ℕ → Bool
may_move_by p node zero = has_command_left (length p.commands) (taken_in node)
may_move_by p node (suc n) = is_ready_in p.functions (slots_in node) (suc n)
