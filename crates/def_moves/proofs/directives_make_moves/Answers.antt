use Rattle.def_moves.proofs.Picks.{directives_move, directives_are_bounded}
use Rattle.def_moves.proofs.Rests.{directives_grow}
use Rattle.def_moves.proofs.directives_make_moves.Goals as goal

pub returns : goal.returns
returns c = record { moves = directives_move; bounded = directives_are_bounded; grows = directives_grow }
