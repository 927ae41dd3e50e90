use Rattle.def_explore.proofs.Independent.{independent_go_first, reduced_have_rests, reduced_are_complete}
use Rattle.def_explore.proofs.independent_picks_go_first.Goals as goal

pub returns : goal.returns
returns c = record { first = independent_go_first; rests = reduced_have_rests; complete = reduced_are_complete }
