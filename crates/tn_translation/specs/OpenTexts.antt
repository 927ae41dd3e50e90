-- The text of a list that isn't closed yet.
use Rattle.std.specs.Prelude.{ℕ, List, ◌∷◌}
use Rattle.def_term.specs.Tree.{Tree, of_elements}
use Rattle.def_term.specs.Text.{comma_list}

-- the text of the list of these, without its `]`
abbrev pub open_list_text : List Tree → List ℕ
open_list_text ts = 91 ∷ comma_list (of_elements ts)
