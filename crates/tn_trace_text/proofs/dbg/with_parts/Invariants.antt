use Rattle.std.proofs.Common.{◌≡◌, ◌++◌, drop}
use Rattle.def_trace_text.specs.DbgFormats.{with_parts}
use Rattle.tn_trace_text.proofs.dbg.with_parts.Given as goal

-- what is still to come
abbrev pub invariant-loop-b : goal.invariant-loop-b
invariant-loop-b g l = l.text.items ++ with_parts (drop l.b-index l.b-items) l.format.printed.now l.line ≡ with_parts l.format.message.now l.format.printed.now l.line
