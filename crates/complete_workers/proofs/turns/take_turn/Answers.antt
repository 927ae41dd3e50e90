use Rattle.complete_workers.proofs.SameTurns.{same_taken}
use Rattle.complete_workers.proofs.turns.take_turn.Goals as goal

pub returns : goal.returns
returns g c =
    same_taken _ _ _ _ c.take_turn-first.result c.take_turn-second.result c.requires
    c.take_turn-first.ensures.some c.take_turn-first.ensures.none c.take_turn-second.ensures.some c.take_turn-second.ensures.none
