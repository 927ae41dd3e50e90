use Rattle.std.proofs.Common.{◌≡◌, length}
use Rattle.def_trace_text.specs.DbgFormats.{part_of_line}
use Rattle.tn_trace_text.proofs.dbg.part_of_line.Given as goal

-- the part is that of the rest of the line
abbrev pub invariant-loop-others : goal.invariant-loop-others
invariant-loop-others l = part_of_line l.digit l.others l.rest ≡ part_of_line l.digit l.fn.format l.fn.line

abbrev pub decreases-loop-others : goal.decreases-loop-others
decreases-loop-others l = length l.others
