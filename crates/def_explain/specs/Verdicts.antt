-- What becomes of each clause of a specification (own; "Match Specifications in Erlang", "Execution of the Match").
-- Depends on reasons and on which clause fires.
use Rattle.std.specs.Prelude.{◌≡◌, List, [], ◌∷◌, Option, Some, None, unwrap_or}
use Rattle.def_spec.specs.Matching.{Bindings, bindings_of}
use Rattle.def_spec.specs.Expressions.{Dialect, Context, Effect, effects_of_all}
use Rattle.def_spec.specs.Outcome.{Clause, Fires, Outcome, no_match, matched, matched_term}
use Rattle.def_explain.specs.Reasons.{Reason, IsReason, reason_of}

-- why it doesn't fire, or with which binding it does, and what its body asks for
pub data Verdict : Type 0 where
  fails : Reason → Verdict
  fires : Bindings → List Effect → Verdict

-- what becomes of the clause
abbrev pub IsVerdict : Dialect → Clause → Context → Verdict → Type 0
IsVerdict d k c (fails r) = IsReason d k c r
IsVerdict d k c (fires b es) = Fires d k c b × (es ≡ effects_of_all d b c k.body)

-- ---- the same, computed

-- with this binding
abbrev pub fires_with : Dialect → Clause → Context → Bindings → Verdict
fires_with d k c b = fires b (effects_of_all d b c k.body)

-- where there is no reason the head matches
abbrev pub verdict_by : Dialect → Clause → Context → Option Reason → Verdict
verdict_by d k c (Some r) = fails r
verdict_by d k c None = fires_with d k c (unwrap_or (bindings_of k.head (matched_term c)) [])

-- what becomes of the clause
abbrev pub verdict_of : Dialect → Clause → Context → Verdict
verdict_of d k c = verdict_by d k c (reason_of d k c)

-- the effects of the clause that fires, or what the clauses after it give
abbrev pub outcome_after : Verdict → Outcome → Outcome
outcome_after (fails r) o = o
outcome_after (fires b es) o = matched es

-- the outcome, clause by clause
abbrev pub outcome_by_verdicts : Dialect → List Clause → Context → Outcome
outcome_by_verdicts d [] c = no_match
outcome_by_verdicts d (k ∷ ks) c = outcome_after (verdict_of d k c) (outcome_by_verdicts d ks c)
