use Rattle.def_machine.proofs.Endings.{valid-ends}
use Rattle.def_machine.proofs.valid_code_ends.Goals as goal

pub returns : goal.returns
returns c = valid-ends
