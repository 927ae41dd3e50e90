-- The texts of a vector's terms as parts of a clause.
use Rattle.std.specs.Prelude.{ℕ, false, List, []}
use Rattle.std.specs.declared.vec.Vec.{Vec}
use Rattle.def_term.specs.Tree.{tuple}
use Rattle.def_spec.specs.Expressions.{in_body}
use Rattle.tn_term.specs.declared.term.Term.{Term}
use Rattle.tn_term.specs.Views.{tree_of, trees_of}
use Rattle.tn_spec.specs.declared.func.Dialect.{Dialect}
use Rattle.tn_spec.specs.Views.{dialect_of}
use Rattle.tn_fun_text.specs.Texts.{items_text, parts_text, fun_clause_text}

-- of a body
abbrev pub body_text_at : {A : Type 0} → Dialect → Vec (Term A) A → List ℕ
body_text_at d v = items_text (dialect_of d) in_body [] false (trees_of v.items)

-- of a clause of these three
abbrev pub three_text_at : {A : Type 0} → Dialect → Term A → Vec (Term A) A → Vec (Term A) A → List ℕ
three_text_at d h cs bs = parts_text (dialect_of d) (tree_of h) (trees_of cs.items) (trees_of bs.items)

-- of a clause of these elements
abbrev pub fields_text_at : {A : Type 0} → Dialect → Vec (Term A) A → List ℕ
fields_text_at d v = fun_clause_text (dialect_of d) (tuple (trees_of v.items))
