use Rattle.def_trace_text.proofs.ErrorMaps.{left, map_with_parts}
use Rattle.def_trace_text.proofs.laws.a_map_of_an_error_is_empty.Goals as goal

pub returns : goal.returns
returns c = record { map = map_with_parts; others = left }
