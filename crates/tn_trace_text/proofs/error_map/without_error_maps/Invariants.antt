use Rattle.std.proofs.Common.{◌≡◌, ◌++◌, length}
use Rattle.def_trace_text.specs.ErrorMaps.{without_maps, without_error_maps}
use Rattle.tn_trace_text.proofs.error_map.without_error_maps.Given as goal

-- what is still to come; the byte after a map escapes nothing
abbrev pub invariant-loop-rest : goal.invariant-loop-rest
invariant-loop-rest g l = l.copy.items ++ without_maps 0 l.quote l.escaped l.rest ≡ without_error_maps l.fn.text

abbrev pub decreases-loop-rest : goal.decreases-loop-rest
decreases-loop-rest g l = length l.rest
