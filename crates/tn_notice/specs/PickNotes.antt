-- Picks that name nobody, and what is said of the first (own).
-- Depends on the pids that a run gives, and on what is said.
use Rattle.std.specs.Prelude.{ℕ, ◌==◌, nat_lt, not, ◌&&◌, ◌||◌, ◌+◌, Bool, List, Option, slice_index}
use Rattle.std.specs.List.{position}
use Rattle.std.specs.Option.{option_map}
use Rattle.def_term.specs.Alive.{FIRST_PID, PROCESSES}
use Rattle.def_notice.specs.NoticeTexts.{Notice, pick_of_nobody}

-- neither 0, which takes the next command, nor the pid of one of the processes that a run may have
abbrev pub names_nobody : ℕ → Bool
names_nobody pick = not (pick == 0) && (nat_lt pick FIRST_PID || not (nat_lt pick (FIRST_PID + PROCESSES)))

-- of the first such pick, with its number from 1
abbrev pub nobody_notice : List ℕ → Option Notice
nobody_notice picks = option_map (λ place. pick_of_nobody (place + 1) (slice_index picks place)) (position names_nobody picks)
