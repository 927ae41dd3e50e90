use Rattle.def_explore.proofs.SameEntries.{are_determined}
use Rattle.def_explore.proofs.entries_are_determined.Goals as goal

pub returns : goal.returns
returns c = are_determined
