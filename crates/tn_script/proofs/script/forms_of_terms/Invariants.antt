use Rattle.std.specs.Vec.Iter.{into_iter_items}
use Rattle.def_script.specs.Shapes.{form_in}
use Rattle.tn_term.specs.Views.{tree_of}
use Rattle.tn_script.specs.Views.{form_of}
use Rattle.tn_script.proofs.Each.{ReadSo}
use Rattle.tn_script.proofs.script.forms_of_terms.Given as goal

abbrev pub invariant-loop-term : goal.invariant-loop-term
invariant-loop-term g l = ReadSo form_in (tree_of {A = g.row.A.Denot}) (form_of {A = g.row.A.Denot}) l.initial.term-iterator.rest.items l.yielded (into_iter_items l.term-iterator) l.forms.items
