use Rattle.def_explore.proofs.Alike.{alike_goes_on, idle_alike, moved_alike, idle_is_alike, moves_alike}
use Rattle.def_explore.proofs.alike_picks_go_on_alike.Goals as goal

pub returns : goal.returns
returns c = record { on = alike_goes_on; idle = idle_alike; moved = moved_alike; still = idle_is_alike; moves = moves_alike }
