-- The end of a specification's code is its outcome.
use Rattle.std.proofs.Common.{◌≡◌, true, List, subst, ap}
use Rattle.std.proofs.Math.Logic.{∥∥₁_elim}
use Rattle.std.proofs.Props.{props}
use mathlib.Core.Sum.{⊎_set}
use mathlib.Core.Bool.{Bool-set}
use mathlib.Core.HLevel.{collapsible→set}
use Rattle.def_term.specs.Tree.{Tree}
use Rattle.def_term.specs.Order.{same}
use Rattle.def_term.proofs.Same.{same-is, same-self}
use Rattle.def_spec.specs.Expressions.{Context}
use Rattle.def_spec.specs.Laws.{IsSound}
use Rattle.def_spec.specs.Outcome.{Spec, Outcome, IsOutcome, outcome_of}
use Rattle.def_spec.proofs.Outcomes.{outcome_is_unique}
use Rattle.def_machine.specs.Compilation.{code_of}
use Rattle.def_machine.specs.Instructions.{Instruction}

-- ---- two outcomes are equal in one way at most

found : (t u : Tree) → t ≡ u → same t u ≡ true
found t u e = subst (λ v. same t v ≡ true) e (same-self t)

tree-set : IsSet Tree
tree-set = collapsible→set (λ t u e. same-is t u (found t u e)) (λ t u d e. ap (same-is t u) (Bool-set (same t u) true (found t u d) (found t u e)))

outcome-set : IsSet Outcome
outcome-set = Prim.hlevel (props, tree-set, ⊎_set)

-- ---- the outcome of compiled code

pub end-of-code : (code : List Instruction) (s : Spec) (c : Context) (o : Outcome) → ∥ IsSound s.dialect s ∥₁ → ∥ code ≡ code_of s ∥₁
    → ((t : Spec) → IsSound t.dialect t → code ≡ code_of t → IsOutcome t c o) → o ≡ outcome_of s c
end-of-code code s c o sound its end =
    ∥∥₁_elim sound (outcome-set o (outcome_of s c)) (λ h. ∥∥₁_elim its (outcome-set o (outcome_of s c)) (λ e. outcome_is_unique s c o (end s h e)))
