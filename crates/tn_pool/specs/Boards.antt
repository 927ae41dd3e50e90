-- The places of a board, and which line may be lent.
use Rattle.std.specs.Prelude.{◌≡◌, ◌<◌, ℕ, zero, suc, List, slice_index_or}
use Rattle.tn_listing.specs.declared.line.Line.{Line}

-- how many places the session of this number, from 1, has
abbrev pub board_places : List ℕ → ℕ → ℕ
board_places board zero = 0
board_places board (suc n) = slice_index_or board n 0

-- the board has a place for the session's line of this index
abbrev pub HasPlace : List ℕ → ℕ → ℕ → Type 0
HasPlace board session index = index < board_places board session

-- the line is of that session and has that index
abbrev pub IsLineAt : {A : Type 0} → ℕ → ℕ → Line A → Type 0
IsLineAt session index line = (line.item.session ≡ session) × (line.item.index ≡ index)
