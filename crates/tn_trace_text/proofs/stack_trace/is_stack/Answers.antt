use Rattle.std.proofs.Common.{◌∙◌, length, sym}
use Rattle.tn_trace_text.proofs.StackTraces.{some_entries, some_there}
use Rattle.tn_trace_text.proofs.stack_trace.is_stack.Goals as goal

pub returns-then-not-is_empty : goal.returns-then-not-is_empty
returns-then-not-is_empty g c =
    c.are_stack_entries.ensures ∙ some_entries {A = g.row.A.Denot} c.args.items.now (some_there (length c.args.items.now) (sym c.is_empty.ensures ∙ c.if-not-is_empty.true))
