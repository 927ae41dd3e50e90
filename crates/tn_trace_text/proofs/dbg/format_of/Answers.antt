use Rattle.std.proofs.Common.{◌∙◌, sym, arith}
use Rattle.def_trace_text.specs.DbgFormats.{dbg_formats, first_format}
use Rattle.tn_trace_text.proofs.DbgFormats.{format_found, format_later}
use Rattle.tn_trace_text.proofs.dbg.format_of.Goals as goal

pub returns-then-has_format : goal.returns-then-has_format
returns-then-has_format c = format_found _ c.loop-format.format-index _ c.args.line.now (first_format dbg_formats c.args.line.now) (omega arith) c.loop-format.invariant (sym c.has_format.ensures ∙ c.if-has_format.true)

pub loop-format-preserved : goal.loop-format-preserved
loop-format-preserved c = format_later _ c.loop-format.format-index _ c.args.line.now (first_format dbg_formats c.args.line.now) (omega arith) c.loop-format.invariant (sym c.has_format.ensures ∙ c.if-has_format.false)
