-- The elements of a term, and the text of the last three of a tuple.
use Rattle.std.specs.Prelude.{ℕ, List, [], ◌∷◌, ◌++◌}
use Rattle.def_term.specs.Tree.{Tree, int, atom, pid, tuple, list, elements}
use Rattle.def_term.specs.Text.{w}
use Rattle.tn_term.specs.Views.{tree_of}
use Rattle.tn_term.specs.declared.term.Term.{Term}

-- of a tuple; of any other term none
abbrev pub term_elements : Tree → List Tree
term_elements (int n) = []
term_elements (atom s) = []
term_elements (pid n) = []
term_elements (tuple ts) = elements ts
term_elements (list ts) = []

-- the texts of the last three terms of a tuple, each after a comma, and the tuple's brace
abbrev pub last_three : {A : Type 0} → (first second last : Term A) → List ℕ
last_three first second last = 44 ∷ w (tree_of first) ++ 44 ∷ w (tree_of second) ++ 44 ∷ w (tree_of last) ++ 125 ∷ []
