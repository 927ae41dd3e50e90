use Rattle.std.proofs.Common.{◌≡◌, map, take}
use Rattle.tn_term.specs.Views.{tree_of}
use Rattle.tn_guard.specs.Views.{value_seen}
use Rattle.tn_guard.proofs.copies.+copy.Given as goal

abbrev pub invariant-copy_values-loop-i : goal.invariant-copy_values-loop-i
invariant-copy_values-loop-i g l = map tree_of l.copies.items ≡ map value_seen (take l.i l.items)
