use Rattle.def_refusal.proofs.Shapeless.{no_form}
use Rattle.def_refusal.proofs.laws.a_shapeless_item_is_no_form.Goals as goal

pub returns : goal.returns
returns c = no_form
