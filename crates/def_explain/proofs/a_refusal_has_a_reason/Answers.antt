use Rattle.def_explain.proofs.CommandReasons.{command_reason_is_computed, reply_is_of_reason, fault_has_reason, zero_has_reason, refusal_changes_nothing}
use Rattle.def_explain.proofs.a_refusal_has_a_reason.Goals as goal

pub returns-clause-computed : goal.returns-clause-computed
returns-clause-computed c = command_reason_is_computed

pub returns-clause-reply : goal.returns-clause-reply
returns-clause-reply c = reply_is_of_reason

pub returns-clause-fault : goal.returns-clause-fault
returns-clause-fault c = fault_has_reason

pub returns-clause-zero : goal.returns-clause-zero
returns-clause-zero c = zero_has_reason

pub returns-clause-unchanged : goal.returns-clause-unchanged
returns-clause-unchanged c = refusal_changes_nothing
