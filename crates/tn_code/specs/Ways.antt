-- The ways on from an instruction, as the code has them: the one to the next place, and the one to another.
use Rattle.std.specs.Prelude.{ℕ, List, [], ◌∷◌, Option, Some, None}
use Rattle.def_machine.specs.Validity.{Way, onward, away}
use Rattle.tn_code.specs.declared.ways.Next.{Next}
use Rattle.tn_code.specs.declared.ways.Next.TheVariants.{Never, Plain, Sets}
use Rattle.tn_code.specs.declared.ways.Ways.{Ways}

abbrev pub away_list : Option ℕ → List Way
away_list None = []
away_list (Some p) = away p ∷ []

abbrev pub next_before : Next → List Way → List Way
next_before Never ws = ws
next_before Plain ws = onward [] ∷ ws
next_before (Sets r) ws = onward (r ∷ []) ∷ ws

abbrev pub ways_seen : Ways → List Way
ways_seen w = next_before w.next (away_list w.away)
