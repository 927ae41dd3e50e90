use Rattle.def_refusal.proofs.OneItem.{item_there, item_one, offset_one}
use Rattle.def_refusal.proofs.laws.a_refusal_has_one_item.Goals as goal

pub returns : goal.returns
returns c = record { there = item_there; one = item_one; place = offset_one }
