use Rattle.std.proofs.Common.{◌≡◌, map, drop, slice_get}
use Rattle.def_script.specs.Script.{creations}
use Rattle.tn_flags.specs.Views.{command_of}
use Rattle.tn_program.proofs.creations.find_session.Given as goal

abbrev pub invariant-loop-command : goal.invariant-loop-command
invariant-loop-command g l = slice_get (creations (map (command_of {A = g.row.A.Denot}) l.fn.commands)) l.fn.number ≡ slice_get (creations (map (command_of {A = g.row.A.Denot}) (drop l.command-index l.fn.commands))) l.left
