-- The tree of a term with several owners.
use Rattle.std.specs.Arc.{arc_value}
use Rattle.def_term.specs.Tree.{Tree}
use Rattle.tn_term.specs.Views.{tree_of}
use Rattle.tn_term.specs.declared.shared_term.SharedTerm.{SharedTerm}

abbrev pub shared_tree : {A : Type 0} → SharedTerm A → Tree
shared_tree s = tree_of (arc_value s.term)
