use Rattle.def_moves.proofs.Rests.{until_idle_takes_one, until_idle_stops_there, control_takes_each_command}
use Rattle.def_moves.proofs.until_idle_stops_where_it_is_idle.Goals as goal

pub returns : goal.returns
returns c = record { alone = until_idle_takes_one; idle = until_idle_stops_there; control = control_takes_each_command }
