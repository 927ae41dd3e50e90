use Rattle.def_moves.proofs.Rests.{times_takes_so_many}
use Rattle.def_moves.proofs.times_takes_so_many.Goals as goal

pub returns : goal.returns
returns c = times_takes_so_many
