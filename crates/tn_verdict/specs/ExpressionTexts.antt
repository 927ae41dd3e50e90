-- What is spelled of the code's expressions.
use Rattle.std.specs.Prelude.{ℕ, List, ◌∷◌, drop, decimal}
use Rattle.std.specs.declared.vec.Vec.{Vec}
use Rattle.def_term.specs.Tree.{Trees}
use Rattle.def_term.specs.Names.{Name}
use Rattle.def_term.specs.Text.{comma_list, each_after_comma}
use Rattle.def_explain.specs.Spellings.{spellings}
use Rattle.tn_spec.specs.Views.{exprs_seen}
use Rattle.tn_spec.specs.declared.expr.Expr.{Expr}

-- the terms that spell several expressions
abbrev pub spelled_list : {A : Type 0} → Vec (Expr A) A → Trees
spelled_list v = spellings (exprs_seen v.items)

-- their texts, with a comma between any two
abbrev pub joined_texts : {A : Type 0} → Vec (Expr A) A → List ℕ
joined_texts v = comma_list (spelled_list v)

-- their texts, each after a comma
abbrev pub after_commas : {A : Type 0} → Vec (Expr A) A → List ℕ
after_commas v = each_after_comma (spelled_list v)

-- the terms that spell those after the first so many
abbrev pub spelled_after : {A : Type 0} → ℕ → Vec (Expr A) A → Trees
spelled_after n v = spellings (exprs_seen (drop n v.items))

-- `$N`
abbrev pub variable_name : ℕ → Name
variable_name n = 36 ∷ decimal n
