use Rattle.def_refusal.proofs.Breaks.{item_breaks, no_item}
use Rattle.def_refusal.proofs.laws.an_item_breaks_the_rule.Goals as goal

pub returns : goal.returns
returns c = record { broken = item_breaks; kept = no_item }
