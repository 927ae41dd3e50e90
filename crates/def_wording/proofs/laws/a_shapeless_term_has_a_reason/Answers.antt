use Rattle.def_wording.proofs.WordingShapes.{step_or_reason, command_or_reason}
use Rattle.def_wording.proofs.laws.a_shapeless_term_has_a_reason.Goals as goal

pub returns : goal.returns
returns c = record { step = step_or_reason; command = command_or_reason }
