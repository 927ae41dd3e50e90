use Rattle.def_machine.proofs.CheckedCode.{checked_code_is_valid}
use Rattle.def_machine.proofs.checked_code_is_valid.Goals as goal

pub returns : goal.returns
returns c = checked_code_is_valid
