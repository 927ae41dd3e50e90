-- What expressions are translated to.
use Rattle.std.specs.Prelude.{◌≡◌, ℕ, List, [], ◌∷◌, ◌++◌, map, Option, Some, None, Result, Ok, Err}
use Rattle.std.specs.Option.{option_map}
use Rattle.std.specs.declared.vec.Vec.{Vec}
use Rattle.def_term.specs.Tree.{Tree, tuple, of_elements}
use Rattle.def_fun.specs.Refusals.{OrRefusal, then_fun}
use Rattle.def_fun.specs.Translation.{TranslatedExpr, all_terms, all_constants, list_term, constant_of, doubled_tuple, onto_tail, constants_onto}
use Rattle.tn_term.specs.declared.term.Term.{Term}
use Rattle.tn_term.specs.Views.{tree_of}
use Rattle.tn_translation.specs.declared.fault.FunFault.{FunFault}
use Rattle.tn_translation.specs.declared.value.ExprTerm.{ExprTerm}
use Rattle.tn_translation.specs.declared.value.Elements.{Elements}
use Rattle.tn_translation.specs.Faults.{fun_fault_seen, RefusedBy}

abbrev pub translated_seen : {A : Type 0} → ExprTerm A → TranslatedExpr
translated_seen x = record { becomes = tree_of x.term; constant = option_map tree_of x.constant }

-- the terms of a vector
abbrev pub term_row_seen : {A : Type 0} → Vec (Term A) A → List Tree
term_row_seen v = map tree_of v.items

-- a list of these
abbrev pub translated_list : List TranslatedExpr → TranslatedExpr
translated_list xs = record { becomes = list_term (all_terms xs); constant = constant_of list_term (all_constants xs) }

-- one more value at the end, where all are constants
abbrev pub constant_after : Option (List Tree) → Option Tree → Option (List Tree)
constant_after (Some vs) (Some v) = Some (vs ++ v ∷ [])
constant_after vs v = None

-- a tuple of these
abbrev pub translated_tuple : List TranslatedExpr → TranslatedExpr
translated_tuple xs = record { becomes = doubled_tuple (all_terms xs); constant = constant_of (λ vs. tuple (of_elements vs)) (all_constants xs) }

-- the terms of these, and their values where all are constants
pub record AreElements {A : Type 0} (v : Elements A) (xs : List TranslatedExpr) : Type 0 where
  pub terms : term_row_seen v.terms ≡ all_terms xs
  pub constants : option_map term_row_seen v.constants ≡ all_constants xs

-- the definition has these elements, or this refusal
abbrev pub GivesElements : {A : Type 0} → List ℕ → Result (Elements A) FunFault → OrRefusal (List TranslatedExpr) → Type 0
GivesElements text (Ok v) r = (xs : List TranslatedExpr) × (r ≡ Ok xs) × AreElements v xs
GivesElements text (Err f) r = RefusedBy (fun_fault_seen text f) r

-- a list of these elements with a tail
abbrev pub onto_translated : ℕ → List TranslatedExpr → TranslatedExpr → OrRefusal TranslatedExpr
onto_translated at xs x = then_fun (onto_tail at (all_terms xs) x.becomes) (λ t. Ok (record { becomes = t; constant = constants_onto (all_constants xs) x.constant }))
