use Rattle.def_explain.proofs.FaultPlaces.{fault_where_no_value}
use Rattle.def_explain.proofs.a_fault_is_where_no_value_is.Goals as goal

pub returns : goal.returns
returns c = fault_where_no_value
