use Rattle.def_script.proofs.FirstBroken.{first_is, first_only, none_broken}
use Rattle.def_script.proofs.laws.the_first_broken_rule_is_computed.Goals as goal

pub returns : goal.returns
returns c = record { found = first_is; only = first_only; kept = none_broken }
