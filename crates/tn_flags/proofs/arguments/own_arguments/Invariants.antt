use Rattle.std.proofs.Common.{◌≡◌, ◌++◌, map}
use Rattle.std.specs.Vec.Iter.{into_iter_items}
use Rattle.tn_term.specs.SharedTree.{shared_tree}
use Rattle.tn_term.specs.Views.{tree_of}
use Rattle.tn_flags.proofs.arguments.own_arguments.Given as goal

abbrev pub invariant-loop-term : goal.invariant-loop-term
invariant-loop-term g l = map tree_of l.initial.term-iterator.rest.items ≡ map shared_tree l.args.items ++ map tree_of (into_iter_items l.term-iterator)
