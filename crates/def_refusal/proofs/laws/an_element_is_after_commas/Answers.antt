use Rattle.def_refusal.proofs.Elements.{element_after}
use Rattle.def_refusal.proofs.laws.an_element_is_after_commas.Goals as goal

pub returns : goal.returns
returns c = element_after
