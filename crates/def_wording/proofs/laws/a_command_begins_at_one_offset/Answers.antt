use Rattle.def_wording.proofs.CommandOffsets.{begins_at_item, starts_are_all}
use Rattle.def_wording.proofs.laws.a_command_begins_at_one_offset.Goals as goal

pub returns : goal.returns
returns c = record { one = begins_at_item; all = starts_are_all }
