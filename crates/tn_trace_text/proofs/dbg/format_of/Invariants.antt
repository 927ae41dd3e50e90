use Rattle.std.proofs.Common.{◌≡◌, drop, map}
use Rattle.def_trace_text.specs.DbgFormats.{first_format, dbg_formats}
use Rattle.tn_trace_text.specs.DbgFormats.{dbg_format_seen}
use Rattle.tn_trace_text.proofs.dbg.format_of.Given as goal

-- no format before this one is the line's
abbrev pub invariant-loop-format : goal.invariant-loop-format
invariant-loop-format l = first_format (map dbg_format_seen (drop l.format-index l.format-items)) l.line ≡ first_format dbg_formats l.line
