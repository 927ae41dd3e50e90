use Rattle.std.proofs.Common.{◌≡◌, ◌+◌, ◌≤◌, length, map, drop}
use Rattle.def_script.specs.Script.{creations}
use Rattle.tn_flags.specs.Views.{command_of}
use Rattle.tn_program.proofs.creations.count_sessions.Given as goal

abbrev pub invariant-loop-command : goal.invariant-loop-command
invariant-loop-command g l = record {
  few : l.count ≤ l.command-index;
  counted : l.count + length (creations (map (command_of {A = g.row.A.Denot}) (drop l.command-index l.fn.commands))) ≡ length (creations (map (command_of {A = g.row.A.Denot}) l.fn.commands));
}
