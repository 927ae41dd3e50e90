-- What a refusal says of its text (own): where a line is promised to be exact of a text within the length, or of one that is all tokens, a refused text is such.
-- Depends on the refusals of scripts.
use Rattle.std.specs.Prelude.{ℕ, List}
use Rattle.def_script.specs.Script.{Refusal, IsRefused}
use Rattle.tn_refusal.specs.Refusals.{refused_part}
use Rattle.tn_refusal.specs.Locations.{IsPlaced}

-- a text that is refused at an offset is within the length, and one that is refused for a form is all tokens
abbrev pub RefusedTextIsPlaced : Type 0
RefusedTextIsPlaced = (bytes : List ℕ) (r : Refusal) → IsRefused bytes r → IsPlaced bytes (refused_part r)
