use Rattle.def_explain.proofs.ClauseStops.{stop_is_computed}
use Rattle.def_explain.proofs.a_reading_stops_at_a_clause.Goals as goal

pub returns : goal.returns
returns c = stop_is_computed
