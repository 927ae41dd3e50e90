use Rattle.std.specs.List.{All}
use Rattle.tn_index.specs.Entries.{IsUnset}
use Rattle.tn_index.proofs.entry.enter.Given as goal

abbrev pub invariant-loop-function : goal.invariant-loop-function
invariant-loop-function g l = All IsUnset l.entries.items
