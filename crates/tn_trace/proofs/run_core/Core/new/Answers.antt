use Rattle.std.proofs.Common.{[]}
use Rattle.tn_program.specs.Views.{program_of}
use Rattle.tn_trace.proofs.CoreLemmas.{own_run}
use Rattle.tn_trace.proofs.run_core.Core.new.Goals as goal

pub invariant_of-result : goal.invariant_of-result
invariant_of-result g c = own_run (program_of c.args.program) [] c.in_ok-run.run' (c.in_ok-run.ensures.start c.in_ok-recorder.ensures)
