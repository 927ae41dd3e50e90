use Rattle.std.proofs.Common.{◌≡◌, take}
use Rattle.def_script.specs.Script.{creations}
use Rattle.tn_program.specs.Views.{program_of}
use Rattle.tn_picture.proofs.SessionNames.{names_among}
use Rattle.tn_picture.proofs.picture.names_of.Given as goal

abbrev pub invariant-loop-number : goal.invariant-loop-number
invariant-loop-number g l = l.names.items ≡ names_among (take l.number (creations (program_of l.program).commands))
