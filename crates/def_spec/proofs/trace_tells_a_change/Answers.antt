use Rattle.def_spec.proofs.TraceFlags.{trace_tells_a_change, trace_faults, clears_before_it_sets}
use Rattle.def_spec.proofs.trace_tells_a_change.Goals as goal

pub returns : goal.returns
returns c = record { change = trace_tells_a_change; faults = trace_faults; order = clears_before_it_sets }
