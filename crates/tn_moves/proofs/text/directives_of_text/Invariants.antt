use Rattle.std.proofs.Common.{length, ◌-◌, map}
use Rattle.tn_program.specs.Views.{program_of}
use Rattle.tn_moves.specs.Directives.{directive_seen}
use Rattle.tn_moves.proofs.Readings.{Reaches}
use Rattle.tn_moves.proofs.text.directives_of_text.Given as goal

abbrev pub invariant-loop-at : goal.invariant-loop-at
invariant-loop-at g l = Reaches (program_of l.program) l.text l.at (map directive_seen l.directives.items)

abbrev pub decreases-loop-at : goal.decreases-loop-at
decreases-loop-at g l = length l.text - l.at
