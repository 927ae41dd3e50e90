-- What the bound means (own): the history of a run's memory, how many bytes are in use after it, and which blocks may be taken.
use Rattle.std.specs.Prelude.{ℕ, ◌≡◌, ◌+◌, ◌-◌, ◌≤◌, ◌<◌, List, [], ◌∷◌, ◌++◌}
use Rattle.tn_memory.specs.declared.history.Use.{Use}
use Rattle.tn_memory.specs.declared.history.Use.TheVariants.{Bound, Taken, GivenBack}

-- how many bytes are in use after a use more: a block that is taken is in use until it is given back
abbrev pub count_after : ℕ → Use → ℕ
count_after n (Bound most) = n
count_after n (Taken size) = n + size
count_after n (GivenBack size) = n - size

-- how many bytes are in use after these uses, where n are before
unfoldable pub count_from : ℕ → List Use → ℕ
count_from n [] = n
count_from n (x ∷ xs) = count_from (count_after n x) xs

-- how many bytes are in use after a history
abbrev pub in_use : List Use → ℕ
in_use history = count_from 0 history

-- how many bytes may be in use: a history begins with that
abbrev pub bound_of : List Use → ℕ
bound_of [] = 0
bound_of (Bound most ∷ uses) = most
bound_of (Taken size ∷ uses) = 0
bound_of (GivenBack size ∷ uses) = 0

-- no more bytes are in use than may be
abbrev pub IsWithinBound : List Use → Type 0
IsWithinBound history = in_use history ≤ bound_of history

-- where `most` bytes may be in use, there is room for a block of so many bytes
abbrev pub HasRoom : ℕ → ℕ → List Use → Type 0
HasRoom most size history = in_use history + size ≤ most

-- the last use took a block of so many bytes, for which there was room
pub record TakesBlock (most size : ℕ) (history : List Use) : Type 0 where
  pub before : List Use
  pub last : history ≡ before ++ Taken size ∷ []
  pub room : HasRoom most size before

-- there is no room for a block of so many bytes
abbrev pub LacksRoom : ℕ → ℕ → List Use → Type 0
LacksRoom most size history = most < in_use history + size

-- the last use gave a block of so many bytes back
pub record ReturnsBlock (size : ℕ) (history : List Use) : Type 0 where
  pub before : List Use
  pub last : history ≡ before ++ GivenBack size ∷ []
