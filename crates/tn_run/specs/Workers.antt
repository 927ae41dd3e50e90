-- How many workers there may be.
use Rattle.std.specs.Prelude.{ℕ, ◌<◌, ◌≤◌}

-- from 1 to 16
abbrev pub IsWorkerCount : ℕ → Type 0
IsWorkerCount n = (0 < n) × (n ≤ 16)
