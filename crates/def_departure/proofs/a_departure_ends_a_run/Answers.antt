use Rattle.def_departure.proofs.Departures.{possible_has_no_departure, departure_ends_a_run}
use Rattle.def_departure.proofs.a_departure_ends_a_run.Goals as goal

pub returns : goal.returns
returns c = record { possible = possible_has_no_departure; ends = departure_ends_a_run }
