-- Turns: where each slot is, in the run queue or with an end, and the steps that move it (own).
-- A run queue is a scheduler's word for what waits for a worker. `push` and `steal` are those of the crate crossbeam_deque,
-- of an `Injector`: a queue, first in first out, that all threads push to and steal from. End, view and slot are this project's words.
-- Depends on slots.
use Rattle.std.specs.Prelude.{◌≡◌, ◌≤◌, ◌+◌, ℕ, nat_eq, not, List, [], ◌∷◌, ◌++◌, Some, slice_get, slice_set}
use Rattle.std.specs.List.{count_by, sum_by, filter}
use Rattle.def_turns.specs.Slots.{all_slots}

-- the slots in the queue, front first, and for each end, by its number, the slots that it holds, which are its view
pub record Turns : Type 0 where
  pub queue : List ℕ
  pub views : List (List ℕ)

-- how often a slot is in a list
abbrev pub times : ℕ → List ℕ → ℕ
times x xs = count_by (λ y. nat_eq y x) xs

-- how often a slot is in the queue and in all views
abbrev pub times_in : ℕ → Turns → ℕ
times_in x s = times x s.queue + sum_by (λ v. times x v) s.views

-- the rule: no slot is twice in the queue, in the queue and a view, or in two views
abbrev pub IsExclusive : Turns → Type 0
IsExclusive s = (x : ℕ) → times_in x s ≤ 1

-- a view without a slot
abbrev pub list_without : ℕ → List ℕ → List ℕ
list_without x view = filter (λ y. not (nat_eq y x)) view

-- the end's view was this and is now that, and no other view has changed
pub record ChangesView (end : ℕ) (old new : List ℕ) (s t : Turns) : Type 0 where
  pub was : slice_get s.views end ≡ Some old
  pub views : t.views ≡ slice_set s.views end new

-- push: the end's view loses the slot, and the queue's back gains it
pub record Pushes (end slot : ℕ) (old new : List ℕ) (s t : Turns) : Type 0 where
  pub held : times slot old ≡ 1
  pub loses : new ≡ list_without slot old
  pub back : t.queue ≡ s.queue ++ slot ∷ []
  pub changes : ChangesView end old new s t

-- steal: the slot at the queue's front passes to the end's view
pub record Steals (end slot : ℕ) (old new : List ℕ) (s t : Turns) : Type 0 where
  pub front : s.queue ≡ slot ∷ t.queue
  pub gains : new ≡ old ++ slot ∷ []
  pub changes : ChangesView end old new s t

-- there is one more end, which holds nothing
pub record Opens (s t : Turns) : Type 0 where
  pub queue : t.queue ≡ s.queue
  pub views : t.views ≡ s.views ++ [] ∷ []

-- one step of any end
pub data TurnStep (s t : Turns) : Type 0 where
  pushes : (end slot : ℕ) → (old new : List ℕ) → Pushes end slot old new s t → TurnStep s t
  steals : (end slot : ℕ) → (old new : List ℕ) → Steals end slot old new s t → TurnStep s t
  opens : Opens s t → TurnStep s t

-- each of these comes by one step from the one before it
abbrev pub AreSteps : Turns → List Turns → Type 0
AreSteps s [] = Unit {0}
AreSteps s (t ∷ ts) = TurnStep s t × AreSteps t ts

-- at first the queue is empty, and the one end there is holds all slots
abbrev pub turns_start : Turns
turns_start = record { queue = []; views = all_slots ∷ [] }
