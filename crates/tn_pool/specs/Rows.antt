-- The row in which an end keeps which slots it holds.
-- Depends on turns.
use Rattle.std.specs.Prelude.{◌≡◌, ℕ, ◌-◌, nat_eq, Bool, true, false, if◌then◌else◌, List, length, slice_index_or}
use Rattle.def_term.specs.Alive.{FIRST_PID}
use Rattle.def_turns.specs.Slots.{CONTROL, is_slot}
use Rattle.def_turns.specs.Turns.{times}

-- the place of a slot in a row of 65
abbrev pub row_place : ℕ → ℕ
row_place x = if nat_eq x CONTROL then 0 else x - (FIRST_PID - 1)

-- the row says which slots the view has
abbrev pub IsHeld : List Bool → List ℕ → Type 0
IsHeld held view = (length held ≡ 65) × ((x : ℕ) → is_slot x ≡ true → times x view ≡ (if slice_index_or held (row_place x) false then 1 else 0))
