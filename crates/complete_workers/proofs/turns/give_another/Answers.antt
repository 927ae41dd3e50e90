use Rattle.complete_workers.proofs.SameTurns.{not_held}
use Rattle.complete_workers.proofs.turns.give_another.Goals as goal

pub returns-clause-back : goal.returns-clause-back
returns-clause-back g c = (not_held _ _ _ c.give_turn.result c.requires c.give_turn.ensures.ok c.give_turn.ensures.err).0

pub returns-clause-held : goal.returns-clause-held
returns-clause-held g c = (not_held _ _ _ c.give_turn.result c.requires c.give_turn.ensures.ok c.give_turn.ensures.err).1
