-- The outcome of a specification ("Match Specifications in Erlang", "Execution of the Match").
-- Depends on matching, values and effects.
-- `IsOutcome` defines it as that of the least-numbered clause that fires; the same is computed below.
use Rattle.std.specs.Prelude.{◌≡◌, Bool, true, ◌⊎◌, ◌&&◌, if◌then◌else◌, List, [], ◌∷◌, Option, Some, None}
use Rattle.std.specs.Option.{option_and_then}
use Rattle.def_term.specs.Tree.{Tree, list, of_elements}
use Rattle.def_spec.specs.Matching.{Pattern, Bindings, Matches, bindings_of}
use Rattle.def_spec.specs.Functions.{truth}
use Rattle.def_spec.specs.Expressions.{Dialect, Exprs, no_exprs, and_expr, Context, in_condition, value, Effect, effects_of_all, is_true_value}

-- {Head,Conditions,Body}
pub record Clause : Type 0 where
  pub head : Pattern
  pub conditions : Exprs
  pub body : Exprs

-- a specification keeps what it is for
pub record Spec : Type 0 where
  pub dialect : Dialect
  pub clauses : List Clause

-- no clause fires, or the effects of the body of the one that is chosen
pub data Outcome : Type 0 where
  no_match : Outcome
  matched : List Effect → Outcome

-- the list that is matched, as one term
abbrev pub matched_term : Context → Tree
matched_term c = list (of_elements c.matched_list)

-- each condition is `true`
abbrev pub EachTrue : Dialect → Bindings → Context → Exprs → Type 0
EachTrue d b c no_exprs = Unit {0}
EachTrue d b c (and_expr e es) = (value d in_condition b c e ≡ Some (truth true)) × EachTrue d b c es

-- the clause's head matches with b, and all its conditions are true
pub record Fires (d : Dialect) (k : Clause) (c : Context) (b : Bindings) : Type 0 where
  pub matches : Matches k.head (matched_term c) b
  pub conditions : EachTrue d b c k.conditions

-- the least-numbered clause that fires gives its body's effects; no match where none does
abbrev pub IsOutcomeOf : Dialect → List Clause → Context → Outcome → Type 0
IsOutcomeOf d [] c o = o ≡ no_match
IsOutcomeOf d (k ∷ ks) c o =
    ((b : Bindings) × Fires d k c b × (o ≡ matched (effects_of_all d b c k.body)))
    ⊎ (((b : Bindings) → ¬ Fires d k c b) × IsOutcomeOf d ks c o)

-- the outcome of a specification in a context
abbrev pub IsOutcome : Spec → Context → Outcome → Type 0
IsOutcome s c o = IsOutcomeOf s.dialect s.clauses c o

-- ---- the same, computed

-- each condition is `true`
abbrev pub each_true : Dialect → Bindings → Context → Exprs → Bool
each_true d b c no_exprs = true
each_true d b c (and_expr e es) = is_true_value (value d in_condition b c e) && each_true d b c es

-- the binding with which a clause fires, where it does
abbrev pub firing_bindings : Dialect → Clause → Context → Option Bindings
firing_bindings d k c = option_and_then (λ b. if each_true d b c k.conditions then Some b else None) (bindings_of k.head (matched_term c))

-- the effects of the clause that fires, or what the clauses after it give
abbrev pub or_next : Dialect → Option Bindings → Context → Exprs → Outcome → Outcome
or_next d (Some b) c body o = matched (effects_of_all d b c body)
or_next d None c body o = o

-- the first clause that fires
abbrev pub outcome_in : Dialect → List Clause → Context → Outcome
outcome_in d [] c = no_match
outcome_in d (k ∷ ks) c = or_next d (firing_bindings d k c) c k.body (outcome_in d ks c)

-- the outcome of a specification in a context
abbrev pub outcome_of : Spec → Context → Outcome
outcome_of s c = outcome_in s.dialect s.clauses c
