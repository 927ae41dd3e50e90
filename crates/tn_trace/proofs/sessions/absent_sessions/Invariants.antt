use Rattle.std.proofs.Common.{map, take}
use Rattle.def_script.specs.Exports.{exports_of}
use Rattle.tn_flags.specs.Views.{command_of}
use Rattle.tn_program.specs.Views.{program_of}
use Rattle.tn_trace.proofs.Starts.{AreAbsent}
use Rattle.tn_trace.proofs.sessions.absent_sessions.Given as goal

abbrev pub invariant-loop-command : goal.invariant-loop-command
invariant-loop-command g l = AreAbsent g.K.MessageSink.keeps (exports_of (program_of l.program)) (map command_of (take l.command-index l.command-items)) l.slots.items
