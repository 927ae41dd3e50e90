-- What the bytes of one form spell.
-- Depends on what a text spells.
use Rattle.std.specs.Prelude.{ℕ, List, [], ◌∷◌}
use Rattle.def_term.specs.Tree.{Tree}
use Rattle.def_text.specs.Scripts.{SpellsTerms}

-- the bytes spell the first of these terms alone, where there is one
abbrev pub SpellsFirst : List ℕ → List Tree → Type 0
SpellsFirst bytes [] = Unit {0}
SpellsFirst bytes (t ∷ ts) = SpellsTerms bytes (t ∷ [])
