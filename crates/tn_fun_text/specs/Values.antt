-- The values of terms that a fun would have as constants.
use Rattle.std.specs.Prelude.{Bool, false, not, ◌&&◌, List, ◌++◌, map, Option, Some, None}
use Rattle.std.specs.Option.{option_map}
use Rattle.std.specs.declared.vec.Vec.{Vec}
use Rattle.def_term.specs.Tree.{Tree, atom, tuple, Trees, more, of_elements, count}
use Rattle.def_term.specs.Names.{Name}
use Rattle.def_spec.specs.Reading.{AtomKind, a_variable, atom_kind, is_wildcard}
use Rattle.def_fun.specs.Constants.{Computation, gives}
use Rattle.def_fun.specs.Translation.{begins_with_dollar, constant_of}
use Rattle.def_fun.specs.FunTexts.{PrintedCall, printed_call, computation_of, value_in_fun, values_in_fun, value_of_atom}
use Rattle.tn_term.specs.declared.term.Term.{Term}
use Rattle.tn_term.specs.Views.{tree_of, trees_of}
use Rattle.tn_spec.specs.Names.{position_seen}
use Rattle.tn_spec.specs.Views.{dialect_of}
use Rattle.tn_fun_text.specs.declared.scope.Scope.{Scope}
use Rattle.tn_fun_text.specs.Terms.{terms_from}

-- a value, where there is one
abbrev pub constant_seen : {A : Type 0} → Option (Term A) → Option Tree
constant_seen v = option_map tree_of v

-- several
abbrev pub constants_seen : {A : Type 0} → Option (Vec (Term A) A) → Option (List Tree)
constants_seen v = option_map (λ u. map tree_of u.items) v

-- of an atom
abbrev pub atom_value : Name → Option Tree
atom_value s = value_of_atom s (atom_kind s)

-- of a term that stands there
abbrev pub value_at : {A : Type 0} → Scope A → Tree → Option Tree
value_at w t = value_in_fun (dialect_of w.dialect) (position_seen w.part) t

-- of several
abbrev pub values_at : {A : Type 0} → Scope A → Trees → Option (List Tree)
values_at w ts = values_in_fun (dialect_of w.dialect) (position_seen w.part) ts

-- of a tuple of the name and the terms after the first
abbrev pub named_value_at : {A : Type 0} → Scope A → Name → Vec (Term A) A → Option Tree
named_value_at w s v = value_at w (tuple (more (atom s) (terms_from 1 v)))

-- the tuple of the values of these terms
abbrev pub elements_value_at : {A : Type 0} → Scope A → Vec (Term A) A → Option Tree
elements_value_at w v = constant_of (λ vs. tuple (of_elements vs)) (values_at w (trees_of v.items))

-- what an operator gives of these terms
abbrev pub computation_of_terms : {A : Type 0} → PrintedCall → List (Term A) → Computation
computation_of_terms c vs = computation_of c (Some (map tree_of vs))

-- what a fun computes of a call of the name with the terms after the first
abbrev pub computation_at : {A : Type 0} → Scope A → Name → Vec (Term A) A → Computation
computation_at w s v = computation_of (printed_call (dialect_of w.dialect) (position_seen w.part) s (count (terms_from 1 v))) (values_at w (terms_from 1 v))

-- the value, where there is one
abbrev pub value_computed : Computation → Option Tree
value_computed (gives v) = Some v
value_computed c = None

-- an atom is a constant of its kind
abbrev pub is_constant_kind : Name → AtomKind → Bool
is_constant_kind s (a_variable k) = false
is_constant_kind s kind = not (is_wildcard s) && not (begins_with_dollar s)

-- an atom is a constant
abbrev pub is_constant_atom : Name → Bool
is_constant_atom s = is_constant_kind s (atom_kind s)

-- values before others, where all are constants
abbrev pub values_onto : List Tree → Option (List Tree) → Option (List Tree)
values_onto vs None = None
values_onto vs (Some us) = Some (vs ++ us)
