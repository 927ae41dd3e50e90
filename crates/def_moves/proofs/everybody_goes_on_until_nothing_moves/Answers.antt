use Rattle.def_moves.proofs.Rests.{everybody_rests, everybody_is_a_round}
use Rattle.def_moves.proofs.everybody_goes_on_until_nothing_moves.Goals as goal

pub returns : goal.returns
returns c = record { rests = everybody_rests; round = everybody_is_a_round }
