use Rattle.def_machine.proofs.AcceptedCode.{compiled_code_is_accepted}
use Rattle.def_machine.proofs.compiled_code_is_accepted.Goals as goal

pub returns : goal.returns
returns c = compiled_code_is_accepted
