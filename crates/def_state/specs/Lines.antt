-- A line of a state, as the terms that it has, and its text (own).
-- Depends on terms and on their written text (`~w` of `io_lib`).
use Rattle.std.specs.Prelude.{ℕ, List, [], ◌∷◌, ◌++◌, flat_map}
use Rattle.def_term.specs.Tree.{Tree, tuple, list, of_elements}
use Rattle.def_term.specs.Text.{w}

-- the terms of a line
abbrev pub StateLine : Type 0
StateLine = List Tree

-- the text of a term after a blank
abbrev pub after_blank : Tree → List ℕ
after_blank t = 32 ∷ w t

-- the terms with a blank between any two, and a line feed
abbrev pub terms_line : StateLine → List ℕ
terms_line [] = 10 ∷ []
terms_line (t ∷ ts) = w t ++ flat_map after_blank ts ++ 10 ∷ []

-- the tuple of two terms
abbrev pub pair_term : Tree → Tree → Tree
pair_term s t = tuple (of_elements (s ∷ t ∷ []))

-- the list of terms
abbrev pub list_of : List Tree → Tree
list_of ts = list (of_elements ts)
