use Rattle.std.proofs.Common.{take}
use Rattle.tn_code.specs.Rooms.{AllSetUpTo}
use Rattle.tn_code.specs.Views.{instructions_of}
use Rattle.tn_code.proofs.code.greatest_set.Given as goal

abbrev pub invariant-loop-instr : goal.invariant-loop-instr
invariant-loop-instr g l = AllSetUpTo l.greatest (instructions_of (take l.instr-index l.items))
