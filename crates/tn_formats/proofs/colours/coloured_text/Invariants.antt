use Rattle.std.proofs.Common.{◌≡◌, ◌++◌, length}
use Rattle.def_formats.specs.Colours.{coloured_text}
use Rattle.tn_formats.proofs.colours.coloured_text.Given as goal

-- what was written and the lines that are left are the whole output
abbrev pub invariant-loop-rest : goal.invariant-loop-rest
invariant-loop-rest g l = l.out.items ++ coloured_text l.rest ≡ coloured_text l.output

abbrev pub decreases-loop-rest : goal.decreases-loop-rest
decreases-loop-rest g l = length l.rest
