use Rattle.def_turns.proofs.Rule.{none_lost, stays_once}
use Rattle.def_turns.proofs.no_slot_is_lost.Goals as goal

pub returns : goal.returns
returns c = record { step = none_lost; run = stays_once }
