use Rattle.std.proofs.Common.{length, map}
use Rattle.tn_flags.specs.Views.{event_of}
use Rattle.tn_script.specs.Views.{functions_of}
use Rattle.tn_process.specs.Views.{exception_view, process_seen}
use Rattle.tn_process.proofs.Exceptions.{UnwindsSo}
use Rattle.tn_process.proofs.process.Process.unwind.Given as goal

abbrev pub invariant-loop-frame : goal.invariant-loop-frame
invariant-loop-frame g l =
    UnwindsSo (functions_of l.fn.context.functions.now) l.fn.context.pid (exception_view l.fn.exception) (process_seen l.fn.self) (process_seen l.self) (map event_of l.events.items)

abbrev pub decreases-loop-frame : goal.decreases-loop-frame
decreases-loop-frame g l = length (process_seen l.self).frames
