use Rattle.std.proofs.Common.{◌≡◌, map}
use Rattle.std.specs.Vec.Iter.{into_iter_items}
use Rattle.def_script.specs.Shapes.{each_in, step_in}
use Rattle.tn_term.specs.Views.{tree_of}
use Rattle.tn_script.specs.Views.{step_of}
use Rattle.tn_script.proofs.Each.{prepended}
use Rattle.tn_script.proofs.steps.steps.Given as goal

abbrev pub invariant-loop-term : goal.invariant-loop-term
invariant-loop-term g l = each_in step_in (map tree_of l.initial.term-iterator.rest.items) ≡ prepended (map (step_of) l.steps.items) (each_in step_in (map tree_of (into_iter_items l.term-iterator)))
