-- The trees of a vector's terms.
use Rattle.std.specs.Prelude.{ℕ, drop}
use Rattle.std.specs.declared.vec.Vec.{Vec}
use Rattle.def_term.specs.Tree.{Trees}
use Rattle.tn_term.specs.declared.term.Term.{Term}
use Rattle.tn_term.specs.Views.{trees_of}

-- of those from a place on
abbrev pub terms_from : {A : Type 0} → ℕ → Vec (Term A) A → Trees
terms_from from v = trees_of (drop from v.items)
