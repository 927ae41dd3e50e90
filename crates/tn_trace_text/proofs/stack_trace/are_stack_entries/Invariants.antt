use Rattle.std.proofs.Common.{◌≡◌, drop}
use Rattle.def_trace_text.specs.StackTraces.{are_stack_entries}
use Rattle.tn_term.specs.Views.{trees_of}
use Rattle.tn_trace_text.proofs.stack_trace.are_stack_entries.Given as goal

-- all are entries if those that are left are
abbrev pub invariant-loop-item : goal.invariant-loop-item
invariant-loop-item g l = are_stack_entries (trees_of l.items) ≡ are_stack_entries (trees_of (drop l.item-index l.items))
