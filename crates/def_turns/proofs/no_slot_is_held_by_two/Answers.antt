use Rattle.def_turns.proofs.Rule.{held_by_one}
use Rattle.def_turns.proofs.no_slot_is_held_by_two.Goals as goal

pub returns : goal.returns
returns c = held_by_one
