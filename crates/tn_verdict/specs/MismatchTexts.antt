-- The text of a place in a head, level by level.
use Rattle.std.specs.Prelude.{ℕ, suc, List, ◌++◌, codes, decimal}

-- the number of the element after so many
abbrev pub level_text : ℕ → List ℕ
level_text n = codes ", element " ++ decimal (suc n)
