-- The pids of the processes that one run can start, and which of them are alive (own).
-- Depends on nothing.
use Rattle.std.specs.Prelude.{ℕ, ◌+◌, ◌-◌, nat_le, Bool, false, ◌&&◌, if◌then◌else◌, List, count_by, slice_get, slice_set}
use Rattle.std.specs.Option.{unwrap_or}

-- the first pid
abbrev pub FIRST_PID : ℕ
FIRST_PID = 100

-- how many processes one run can start
abbrev pub PROCESSES : ℕ
PROCESSES = 64

-- the last pid
abbrev pub LAST_PID : ℕ
LAST_PID = FIRST_PID + PROCESSES - 1

-- for each pid from the first on, whether its process is alive
abbrev pub Alive : Type 0
Alive = List Bool

-- whether the process of this pid is alive; a pid that no process can have is none's
abbrev pub is_alive : Alive → ℕ → Bool
is_alive alive n = nat_le FIRST_PID n && unwrap_or (slice_get alive (n - FIRST_PID)) false

-- the process of this pid is alive from now on, or no longer; a pid that no process can have changes nothing
abbrev pub with_alive : Alive → ℕ → Bool → Alive
with_alive alive n b = if nat_le FIRST_PID n then slice_set alive (n - FIRST_PID) b else alive

-- how many processes are alive
abbrev pub living_count : Alive → ℕ
living_count alive = count_by (λ b. b) alive
