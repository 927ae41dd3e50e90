use Rattle.def_explain.proofs.SpecReasons.{spec_fault_has_reason, spec_reason_is_computed}
use Rattle.def_explain.proofs.a_fault_of_a_specification_has_a_reason.Goals as goal

pub returns-clause-exactly : goal.returns-clause-exactly
returns-clause-exactly c = spec_fault_has_reason

pub returns-clause-computed : goal.returns-clause-computed
returns-clause-computed c = spec_reason_is_computed
