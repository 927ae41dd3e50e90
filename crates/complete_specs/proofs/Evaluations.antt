-- Evaluations that are the same have the same value and the same effects.
use Rattle.std.proofs.Common.{◌≡◌, ◌∙◌, sym, ap, refl, List, Option, Some, None}
use Rattle.def_spec.specs.Expressions.{Effect, or_fault, its_effects, its_value}
use Rattle.tn_action.proofs.Steps.{answered_value}

answered_effects : {X : Type 0} (o : Option X) (x : List Effect) → its_effects (or_fault o x) ≡ x
answered_effects None x = refl
answered_effects (Some t) x = refl

pub same_value : {X : Type 0} (o p : Option X) (x y : List Effect) → or_fault o x ≡ or_fault p y → o ≡ p
same_value o p x y e = sym (answered_value o x) ∙ ap its_value e ∙ answered_value p y

pub same_effects : {X : Type 0} (o p : Option X) (x y : List Effect) → or_fault o x ≡ or_fault p y → x ≡ y
same_effects o p x y e = sym (answered_effects o x) ∙ ap its_effects e ∙ answered_effects p y
