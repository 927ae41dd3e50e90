use Rattle.def_compare.proofs.Matches.{match_is_possible, no_match_is_impossible, possible_is_not_impossible, possible_rests, impossible_has_no_run}
use Rattle.def_compare.proofs.a_trace_is_possible_or_impossible.Goals as goal

pub returns : goal.returns
returns c = record { possible = match_is_possible; impossible = no_match_is_impossible; not_both = possible_is_not_impossible; rests = possible_rests; no_run = impossible_has_no_run }
