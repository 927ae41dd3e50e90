-- What an end may say of one of its calls (own): at one moment in it the turns were as it says, whatever other ends did before and after.
-- The turns are those of no queue that has a name: what a caller learns is what they say of the end's view.
-- Depends on turns.
use Rattle.std.specs.Prelude.{◌≡◌, ℕ, List, [], Some, slice_get}
use Rattle.def_turns.specs.Turns.{Turns, IsExclusive, Pushes, Steals}

-- the end stole this slot from the queue's front
pub record TakesTurn (old : List ℕ) (slot : ℕ) (new : List ℕ) : Type 0 where
  pub end : ℕ
  pub before : Turns
  pub after : Turns
  pub exclusive : IsExclusive before
  pub step : Steals end slot old new before after

-- the end found the queue empty, and its view stays
pub record FindsNoTurn (old new : List ℕ) : Type 0 where
  pub end : ℕ
  pub found : Turns
  pub exclusive : IsExclusive found
  pub empty : found.queue ≡ []
  pub view : slice_get found.views end ≡ Some old
  pub stays : new ≡ old

-- the end pushed this slot to the queue's back
pub record GivesTurn (old : List ℕ) (slot : ℕ) (new : List ℕ) : Type 0 where
  pub end : ℕ
  pub before : Turns
  pub after : Turns
  pub exclusive : IsExclusive before
  pub step : Pushes end slot old new before after

-- the slot comes back, and the view stays
pub record KeepsTurn (old : List ℕ) (slot back : ℕ) (new : List ℕ) : Type 0 where
  pub same : back ≡ slot
  pub stays : new ≡ old
