-- The pieces of a text between its spaces (own).
use Rattle.std.specs.Prelude.{ℕ, ◌==◌, List, [], Option, Some, None}
use Rattle.std.specs.Borrow.{Bor}
use Rattle.std.specs.List.{slice_split}

abbrev pub pieces_apart : List ℕ → List (List ℕ)
pieces_apart text = slice_split (λ b. b == 32) text

-- those of a text that is there
abbrev pub pieces_left : Option (Bor (List ℕ)) → List (List ℕ)
pieces_left None = []
pieces_left (Some text) = pieces_apart text.now
