-- Names that are none of a table.
use Rattle.std.proofs.Common.{◌≡◌, ℕ, List, [], ◌∷◌, false, ◌&&◌, ◌||◌, if◌then◌else◌, Some, None, nat_le, refl, ap, sym, ◌∙◌}
use Rattle.std.specs.Str.{bytes_eq}
use Rattle.std.proofs.lemmas.Bool.{false_from_ne_true}
use Rattle.std.proofs.lemmas.Slice.Eq.{bytes_eq-Decides}
use Rattle.def_term.specs.Names.{Name}
use Rattle.def_spec.specs.Expressions.{Dialect}
use Rattle.def_spec.specs.Reading.{has_action}
use Rattle.def_fun.specs.Operators.{FunOperator, operator_name}
use Rattle.def_fun.specs.FunTexts.{operator_named}
use Rattle.def_fun.specs.Calls.{FunFunction, FunAction, is_function_of, is_action_of}

differs : (a s : Name) → (s ≡ a → ⊥) → bytes_eq a s ≡ false
differs a s h = false_from_ne_true (bytes_eq a s) (λ e. h (sym ((bytes_eq-Decides a s).0 e)))

-- the name is that of none of these
abbrev pub NoneNamed : List FunFunction → Name → Type 0
NoneNamed [] s = Unit {0}
NoneNamed (f ∷ fs) s = (s ≡ f.name → ⊥) × NoneNamed fs s

pub no_function_named : (fs : List FunFunction) (s : Name) (n : ℕ) → NoneNamed fs s → false ≡ is_function_of fs s n
no_function_named [] s n h = refl
no_function_named (f ∷ fs) s n h = no_function_named fs s n h.1 ∙ sym (ap (λ b. (b && nat_le n f.arguments && nat_le f.arguments n) || is_function_of fs s n) (differs f.name s h.0))

abbrev pub NoActionNamed : List FunAction → Name → Type 0
NoActionNamed [] s = Unit {0}
NoActionNamed (f ∷ fs) s = (s ≡ f.name → ⊥) × NoActionNamed fs s

pub no_action_named : (d : Dialect) (fs : List FunAction) (s : Name) (n : ℕ) → NoActionNamed fs s → false ≡ is_action_of d fs s n
no_action_named d [] s n h = refl
no_action_named d (f ∷ fs) s n h = no_action_named d fs s n h.1 ∙ sym (ap (λ b. (b && nat_le n f.arguments && nat_le f.arguments n && has_action d f.action) || is_action_of d fs s n) (differs f.name s h.0))

-- the name is that of none of these operators
abbrev pub NoOperatorNamed : List FunOperator → Name → Type 0
NoOperatorNamed [] s = Unit {0}
NoOperatorNamed (o ∷ os) s = (s ≡ operator_name o → ⊥) × NoOperatorNamed os s

pub no_operator_named : (os : List FunOperator) (s : Name) → NoOperatorNamed os s → None ≡ operator_named os s
no_operator_named [] s h = refl
no_operator_named (o ∷ os) s h = no_operator_named os s h.1 ∙ sym (ap (λ b. if b then Some o else operator_named os s) (differs (operator_name o) s h.0))
