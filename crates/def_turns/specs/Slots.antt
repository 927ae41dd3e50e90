-- Slots of turns (own): one for each number that may move a node, which are the control list's and the pids that one run may start.
-- Depends on the pids of a run.
use Rattle.std.specs.Prelude.{ℕ, zero, suc, ◌+◌, nat_eq, nat_le, nat_lt, Bool, ◌||◌, ◌&&◌, List, [], ◌∷◌}
use Rattle.def_term.specs.Alive.{FIRST_PID, PROCESSES}

-- the slot of the control list
abbrev pub CONTROL : ℕ
CONTROL = 0

-- whether a number is that of a slot
abbrev pub is_slot : ℕ → Bool
is_slot x = nat_eq x CONTROL || (nat_le FIRST_PID x && nat_lt x (FIRST_PID + PROCESSES))

-- so many numbers, from this one on
abbrev pub numbers_from : ℕ → ℕ → List ℕ
numbers_from first zero = []
numbers_from first (suc n) = first ∷ numbers_from (first + 1) n

-- all slots, in the order in which a full queue has them
unfoldable pub all_slots : List ℕ
all_slots = CONTROL ∷ numbers_from FIRST_PID PROCESSES
