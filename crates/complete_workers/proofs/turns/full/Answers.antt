use Rattle.def_turns.specs.Slots.{all_slots}
use Rattle.complete_workers.proofs.SameTurns.{same_hands}
use Rattle.complete_workers.proofs.turns.full.Goals as goal

pub returns : goal.returns
returns g c = same_hands all_slots c.full-first.result c.full-second.result c.full-first.ensures.order c.full-second.ensures.order
