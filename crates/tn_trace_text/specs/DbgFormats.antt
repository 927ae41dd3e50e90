-- The code's formats of `dbg`.
-- Depends on the formats.
use Rattle.def_trace_text.specs.DbgFormats.{DbgFormat}
use Rattle.tn_trace_text.specs.declared.dbg.DbgFormat as code

-- the format that it is
abbrev pub dbg_format_seen : code.DbgFormat → DbgFormat
dbg_format_seen f = record { printed = f.printed.now; message = f.message.now }
