use Rattle.std.proofs.Common.{◌≡◌, ◌+◌, ◌≤◌, drop, None, false}
use Rattle.def_trace_text.specs.DbgFormats.{part_length}
use Rattle.tn_trace_text.proofs.dbg.part_length.Given as goal

-- the bytes before this one are in the part
abbrev pub invariant-loop-i : goal.invariant-loop-i
invariant-loop-i l = (l.depth ≤ l.i) × (l.i + part_length l.end l.quote l.escaped l.depth (drop l.i l.line) ≡ part_length l.end None false 0 l.line)
