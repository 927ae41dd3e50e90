use Rattle.def_explore.proofs.ReducedJournals.{reduced_bound_runs, reduced_have_ends, reduced_ends_are_complete, reduced_ends_are_shortest}
use Rattle.def_explore.proofs.reduced_journals_are_complete.Goals as goal

pub returns : goal.returns
returns c = record { bound = reduced_bound_runs; ends = reduced_have_ends; complete = reduced_ends_are_complete; shortest = reduced_ends_are_shortest }
