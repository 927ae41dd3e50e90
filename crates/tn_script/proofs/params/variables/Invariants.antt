use Rattle.std.proofs.Common.{◌≡◌, map}
use Rattle.std.specs.Vec.Iter.{into_iter_items}
use Rattle.def_script.specs.Shapes.{each_in, variable_in}
use Rattle.tn_term.specs.Views.{tree_of}
use Rattle.tn_script.proofs.Each.{prepended}
use Rattle.tn_script.proofs.params.variables.Given as goal

abbrev pub invariant-loop-term : goal.invariant-loop-term
invariant-loop-term g l = each_in variable_in (map tree_of l.initial.term-iterator.rest.items) ≡ prepended (map (λ s. s) l.variables.items) (each_in variable_in (map tree_of (into_iter_items l.term-iterator)))
