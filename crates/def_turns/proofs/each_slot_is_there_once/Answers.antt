use Rattle.def_turns.proofs.Counts.{each_once}
use Rattle.def_turns.proofs.each_slot_is_there_once.Goals as goal

pub returns : goal.returns
returns c = each_once
