use Rattle.def_fun.proofs.ComputedValues.{between_is_applied, before_is_applied}
use Rattle.def_fun.proofs.laws.computed_constants_change_no_value.Goals as goal

pub returns : goal.returns
returns c = record { two = between_is_applied; one = before_is_applied }
