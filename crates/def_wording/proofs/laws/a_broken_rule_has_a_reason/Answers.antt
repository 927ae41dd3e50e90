use Rattle.def_wording.proofs.WordingReasons.{reasoned}
use Rattle.def_wording.proofs.laws.a_broken_rule_has_a_reason.Goals as goal

pub returns : goal.returns
returns c = reasoned
