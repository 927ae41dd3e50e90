use Rattle.std.proofs.Common.{◌≡◌, map, take}
use Rattle.def_trace_text.specs.StackTraces.{without_stacks}
use Rattle.tn_term.specs.Views.{tree_of}
use Rattle.tn_trace_text.proofs.stack_trace.+copy.Given as goal

abbrev pub invariant-each_without_stacks-loop-item : goal.invariant-each_without_stacks-loop-item
invariant-each_without_stacks-loop-item g l = map tree_of l.copies.items ≡ map (λ t. without_stacks (tree_of t)) (take l.item-index l.items)
