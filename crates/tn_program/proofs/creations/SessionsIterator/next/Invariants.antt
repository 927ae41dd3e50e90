use Rattle.std.proofs.Common.{◌≡◌, map, length}
use Rattle.def_script.specs.Script.{creations}
use Rattle.tn_flags.specs.Views.{command_of}
use Rattle.tn_program.proofs.creations.SessionsIterator.next.Given as goal

-- the commands that were passed over create no session
abbrev pub invariant-loop-command : goal.invariant-loop-command
invariant-loop-command g l = creations (map (command_of {A = g.row.A.Denot}) l.self-inside.commands.now) ≡ l.fn.self

abbrev pub decreases-loop-command : goal.decreases-loop-command
decreases-loop-command g l = length l.self-inside.commands.now
