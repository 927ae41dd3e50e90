-- The texts of a vector's terms as expressions.
use Rattle.std.specs.Prelude.{ℕ, Bool, false, List, []}
use Rattle.std.specs.declared.vec.Vec.{Vec}
use Rattle.def_term.specs.Tree.{Tree, atom, tuple, list, Trees, more}
use Rattle.def_term.specs.Names.{Name}
use Rattle.def_fun.specs.Operators.{FunOperator, operator_binding, left_level, right_level, PREFIX_LEVEL}
use Rattle.tn_term.specs.declared.term.Term.{Term}
use Rattle.tn_spec.specs.Names.{position_seen}
use Rattle.tn_spec.specs.Views.{dialect_of}
use Rattle.tn_fun_text.specs.declared.scope.Scope.{Scope}
use Rattle.tn_fun_text.specs.Terms.{terms_from}
use Rattle.tn_fun_text.specs.Texts.{between_text, before_text, called_text, fun_expr_text, first_text, second_text, items_text}

-- of a term
abbrev pub text_at : {A : Type 0} → Scope A → ℕ → Bool → Tree → List ℕ
text_at w n k t = fun_expr_text (dialect_of w.dialect) (position_seen w.part) n k t

-- of a list
abbrev pub list_at : {A : Type 0} → Scope A → Bool → Trees → List ℕ
list_at w k ts = text_at w 0 k (list ts)

-- of the terms from a place on
abbrev pub items_at : {A : Type 0} → Scope A → Bool → Vec (Term A) A → ℕ → List ℕ
items_at w k v from = items_text (dialect_of w.dialect) (position_seen w.part) [] k (terms_from from v)

-- of a tuple of the name and the terms after the first
abbrev pub named_text_at : {A : Type 0} → Scope A → ℕ → Name → Vec (Term A) A → List ℕ
named_text_at w n s v = text_at w n false (tuple (more (atom s) (terms_from 1 v)))

-- of the first term after the first
abbrev pub first_at : {A : Type 0} → Scope A → ℕ → Bool → Vec (Term A) A → List ℕ
first_at w n k v = first_text (dialect_of w.dialect) (position_seen w.part) n k (terms_from 1 v)

-- of the second
abbrev pub second_at : {A : Type 0} → Scope A → ℕ → Bool → Vec (Term A) A → List ℕ
second_at w n k v = second_text (dialect_of w.dialect) (position_seen w.part) n k (terms_from 1 v)

-- of an operator between these two
abbrev pub between_at : {A : Type 0} → Scope A → ℕ → FunOperator → Bool → Vec (Term A) A → List ℕ
between_at w n o k v = between_text n o (first_at w (left_level (operator_binding o)) k v) (second_at w (right_level (operator_binding o)) k v)

-- of an operator before the first
abbrev pub before_at : {A : Type 0} → Scope A → FunOperator → Bool → Vec (Term A) A → List ℕ
before_at w o k v = before_text o (first_at w PREFIX_LEVEL k v)

-- of a call with those after the first
abbrev pub call_at : {A : Type 0} → Scope A → Name → Vec (Term A) A → List ℕ
call_at w s v = called_text s (items_at w false v 1)
