use Rattle.def_machine.proofs.CompiledCode.{compiled_code_is_valid, compiled_code_ends_with_the_outcome}
use Rattle.def_machine.proofs.compiled_code_gives_the_outcome.Goals as goal

pub returns : goal.returns
returns c = record { valid = compiled_code_is_valid; outcome = compiled_code_ends_with_the_outcome }
