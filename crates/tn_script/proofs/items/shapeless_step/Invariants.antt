use Rattle.std.specs.Vec.Iter.{into_iter_items}
use Rattle.def_script.specs.Shapes.{step_in}
use Rattle.tn_term.specs.Views.{tree_of}
use Rattle.tn_script.proofs.ItemTerms.{WithoutSo}
use Rattle.tn_script.proofs.items.shapeless_step.Given as goal

abbrev pub invariant-loop-term : goal.invariant-loop-term
invariant-loop-term g l = WithoutSo step_in (tree_of {A = g.row.A.Denot}) l.initial.term-iterator.rest.items l.yielded (into_iter_items l.term-iterator) l.position
