-- The tree of a term beside its text.
use Rattle.std.specs.Arc.{arc_value}
use Rattle.def_term.specs.Tree.{Tree}
use Rattle.tn_term.specs.Views.{tree_of}
use Rattle.tn_text.specs.declared.written_term.WrittenTerm.{WrittenTerm}

abbrev pub written_tree : {A : Type 0} → WrittenTerm A → Tree
written_tree s = tree_of (arc_value s.shared).term
