-- What is promised of turns (own).
-- Depends on turns.
use Rattle.std.specs.Prelude.{◌≡◌, ◌≢◌, ◌<◌, ℕ, List, Some, slice_get, if◌then◌else◌, All}
use Rattle.def_turns.specs.Slots.{is_slot, all_slots}
use Rattle.def_turns.specs.Turns.{Turns, times, times_in, IsExclusive, Pushes, Steals, TurnStep, AreSteps, turns_start}

-- how often a number is to be among all slots: once where it is a slot's
abbrev pub once : ℕ → ℕ
once x = if is_slot x then 1 else 0

-- each slot, and nothing else, is among all slots, once
abbrev pub EachSlotIsThereOnce : Type 0
EachSlotIsThereOnce = (x : ℕ) → times x all_slots ≡ once x

-- the turns keep the rule at first
abbrev pub OpeningIsExclusive : Type 0
OpeningIsExclusive = IsExclusive turns_start

-- and at each step
abbrev pub StepsKeepTheRule : Type 0
StepsKeepTheRule = (s t : Turns) → IsExclusive s → TurnStep s t → IsExclusive t

-- no step loses a slot, or makes one
abbrev pub NoSlotIsLost : Type 0
NoSlotIsLost = (s t : Turns) (x : ℕ) → TurnStep s t → times_in x t ≡ times_in x s

-- whatever steps follow, each slot is once in the queue or in a view, and nothing else is
abbrev pub EachSlotStaysOnce : Type 0
EachSlotStaysOnce = (ts : List Turns) → AreSteps turns_start ts → All (λ t. (x : ℕ) → times_in x t ≡ once x) ts

-- by the rule no slot is held by two ends
abbrev pub NoSlotIsHeldByTwo : Type 0
NoSlotIsHeldByTwo =
    (s : Turns) → IsExclusive s → (m n x : ℕ) → (v w : List ℕ) → slice_get s.views m ≡ Some v → slice_get s.views n ≡ Some w → 0 < times x v → 0 < times x w → m ≡ n

-- a push changes no view but the pushing end's
abbrev pub PushChangesNoOtherView : Type 0
PushChangesNoOtherView = (s t : Turns) (end slot n : ℕ) (v w : List ℕ) → Pushes end slot v w s t → n ≢ end → slice_get t.views n ≡ slice_get s.views n

-- nor does a steal but the stealing end's
abbrev pub StealChangesNoOtherView : Type 0
StealChangesNoOtherView = (s t : Turns) (end slot n : ℕ) (v w : List ℕ) → Steals end slot v w s t → n ≢ end → slice_get t.views n ≡ slice_get s.views n
