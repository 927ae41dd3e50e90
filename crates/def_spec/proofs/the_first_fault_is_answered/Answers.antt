use Rattle.def_spec.proofs.Reading.{first_faulty_clause, head_fault_first, condition_fault_next, body_fault_last, first_faulty_expression, unsupported_first}
use Rattle.def_spec.proofs.the_first_fault_is_answered.Goals as goal

pub returns : goal.returns
returns c = record { clauses = first_faulty_clause; head = head_fault_first; conditions = condition_fault_next; body = body_fault_last; expressions = first_faulty_expression; names = unsupported_first }
