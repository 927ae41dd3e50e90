use Rattle.std.proofs.Common.{◌≡◌, ◌+◌, ◌++◌, map, drop}
use Rattle.def_moves.specs.Texts.{pids_from, pids_named}
use Rattle.tn_program.specs.Views.{program_of}
use Rattle.tn_script.specs.Views.{entry_of}
use Rattle.tn_moves.proofs.mover.pids_named.Given as goal

abbrev pub invariant-loop-i : goal.invariant-loop-i
invariant-loop-i g l = pids_named (program_of l.program) l.name ≡ l.pids.items ++ pids_from l.name (100 + l.i) (drop l.i (map entry_of l.entries))
