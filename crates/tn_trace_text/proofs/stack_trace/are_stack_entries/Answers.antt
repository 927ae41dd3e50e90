use Rattle.std.proofs.Common.{◌≡◌, ◌∙◌, ◌+◌, ◌&&◌, drop, true, false, ap, sym, arith}
use Rattle.def_trace_text.specs.StackTraces.{is_stack_entry, are_stack_entries}
use Rattle.tn_term.specs.Views.{tree_of, trees_of}
use Rattle.tn_trace_text.proofs.StackTraces.{entries_from}
use Rattle.tn_trace_text.proofs.stack_trace.are_stack_entries.Goals as goal

pub returns-then-not-is_stack_entry : goal.returns-then-not-is_stack_entry
returns-then-not-is_stack_entry g c =
    let items = c.args.items.now in
    let none : is_stack_entry (tree_of c.item-item.result) ≡ false = sym c.is_stack_entry.ensures ∙ c.if-not-is_stack_entry.true in
    sym (c.loop-item.invariant ∙ entries_from {A = g.row.A.Denot} items c.loop-item.item-index c.item-item.result (omega arith) c.item-item.is
    ∙ ap (λ b. b && are_stack_entries (trees_of (drop (c.loop-item.item-index + 1) items))) none)

pub loop-item-preserved : goal.loop-item-preserved
loop-item-preserved g c =
    let items = c.args.items.now in
    let one : is_stack_entry (tree_of c.item-item.result) ≡ true = sym c.is_stack_entry.ensures ∙ c.if-not-is_stack_entry.false in
    c.loop-item.invariant ∙ entries_from {A = g.row.A.Denot} items c.loop-item.item-index c.item-item.result (omega arith) c.item-item.is
    ∙ ap (λ b. b && are_stack_entries (trees_of (drop (c.loop-item.item-index + 1) items))) one
