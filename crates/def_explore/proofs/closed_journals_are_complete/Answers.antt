use Rattle.def_explore.proofs.Closed.{closed_have_all, closed_are_complete, closed_are_shortest}
use Rattle.def_explore.proofs.closed_journals_are_complete.Goals as goal

pub returns : goal.returns
returns c = record { all = closed_have_all; complete = closed_are_complete; shortest = closed_are_shortest }
