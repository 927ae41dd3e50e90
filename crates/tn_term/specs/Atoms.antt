-- What it is to make an atom of a text.
use Rattle.std.specs.Prelude.{◌≡◌, ℕ, List, Option, MatchOption}
use Rattle.def_term.specs.Atoms.{IsAtomText}

-- the atom of this text, or none where it is no text of an atom
abbrev pub IsAtomOf : List ℕ → Option (List ℕ) → Type 0
IsAtomOf s o = MatchOption o (¬ IsAtomText s) (λ a. (a ≡ s) × IsAtomText s)
