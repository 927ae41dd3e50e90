use Rattle.std.proofs.Common.{◌≡◌, length}
use Rattle.def_trace_text.specs.DbgFormats.{has_format}
use Rattle.tn_trace_text.proofs.dbg.has_format.Given as goal

-- the rest of the line has the rest of the format where the line has the format
abbrev pub invariant-loop-others : goal.invariant-loop-others
invariant-loop-others l = has_format l.others l.rest ≡ has_format l.fn.format l.fn.line

abbrev pub decreases-loop-others : goal.decreases-loop-others
decreases-loop-others l = length l.others
