use Rattle.std.proofs.Common.{◌≡◌, map, take}
use Rattle.tn_term.specs.SharedTree.{shared_tree}
use Rattle.tn_guard.specs.Views.{value_seen}
use Rattle.tn_guard.proofs.shared_terms.lent_values.Given as goal

abbrev pub invariant-loop-term : goal.invariant-loop-term
invariant-loop-term g l = map value_seen l.values.items ≡ map shared_tree (take l.term-index l.term-items)
