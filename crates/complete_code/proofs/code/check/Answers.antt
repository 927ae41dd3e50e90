use Rattle.def_machine.specs.Acceptance.{is_checked}
use Rattle.tn_code.specs.Codes.{code_seen}
use Rattle.complete_code.proofs.Alike.{tested_alike}
use Rattle.complete_code.proofs.code.check.Goals as goal

pub returns : goal.returns
returns g c = tested_alike code_seen is_checked c.check.result c.check-2.result _ _ c.requires c.check.ensures.accepted c.check.ensures.code c.check-2.ensures.accepted c.check-2.ensures.code
