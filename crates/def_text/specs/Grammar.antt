-- The grammar: which tokens derive a term, and which a script.
-- Depends on trees and tokens. Terms are those of the Erlang Reference Manual ("Data Types"); a script is this project's own.
use Rattle.std.specs.Prelude.{◌≡◌, ℕ, pos, List, [], ◌∷◌, ◌++◌, ◌⊎◌}
use Rattle.def_term.specs.Tree.{Tree, int, atom, pid, tuple, list, Trees, none, more}
use Rattle.def_text.specs.Tokens as text
use Rattle.def_text.specs.Tokens.{Token}

-- a string is the list of its character codes
abbrev pub of_codes : List ℕ → Trees
of_codes [] = none
of_codes (c ∷ cs) = more (int (pos c)) (of_codes cs)

-- by cases on the term
abbrev mutual
  -- a term is an integer, an atom, a pid, `{` terms `}`, `[` terms `]`, or a string for the list of its codes
  pub Derives : List Token → Tree → Type 0
  Derives ts (int n) = ts ≡ text.integer n ∷ []
  Derives ts (atom s) = ts ≡ text.atom s ∷ []
  Derives ts (pid n) = ts ≡ text.pid n ∷ []
  Derives ts (tuple us) = (inner : List Token) × (ts ≡ text.open_brace ∷ inner) × DerivesAll text.close_brace inner us
  Derives ts (list us) = ((inner : List Token) × (ts ≡ text.open_bracket ∷ inner) × DerivesAll text.close_bracket inner us) ⊎ ((s : List ℕ) × (ts ≡ text.characters s ∷ []) × (us ≡ of_codes s))

  -- terms separated by commas, and then the closing bracket
  pub DerivesAll : Token → List Token → Trees → Type 0
  DerivesAll close ts none = ts ≡ close ∷ []
  DerivesAll close ts (more u us) = (front : List Token) × (rest : List Token) × (ts ≡ front ++ rest) × Derives front u × DerivesRest close rest us

  -- the terms that are left, with a comma before each, and then the closing bracket
  pub DerivesRest : Token → List Token → Trees → Type 0
  DerivesRest close ts none = ts ≡ close ∷ []
  DerivesRest close ts (more u us) = (front : List Token) × (rest : List Token) × (ts ≡ text.comma ∷ (front ++ rest)) × Derives front u × DerivesRest close rest us

-- a script is any number of terms, each followed by a full stop
abbrev pub DerivesScript : List Token → List Tree → Type 0
DerivesScript ts [] = ts ≡ []
DerivesScript ts (u ∷ us) = (front : List Token) × (rest : List Token) × (ts ≡ front ++ text.stop ∷ rest) × Derives front u × DerivesScript rest us
