use Rattle.complete_workers.proofs.SameTurns.{same_back, same_given}
use Rattle.complete_workers.proofs.turns.give_turn.Goals as goal

pub returns-clause-back : goal.returns-clause-back
returns-clause-back g c =
    same_back _ _ _ _ _ _ c.give_turn-first.result c.give_turn-second.result c.requires.tokens c.give_turn-first.ensures.err c.give_turn-second.ensures.err

pub returns-clause-held : goal.returns-clause-held
returns-clause-held g c =
    same_given _ _ _ _ _ _ c.give_turn-first.result c.give_turn-second.result c.requires.views c.requires.tokens
    c.give_turn-first.ensures.ok c.give_turn-first.ensures.err c.give_turn-second.ensures.ok c.give_turn-second.ensures.err
