-- Why a clause doesn't fire (own; "Match Specifications in Erlang", "Execution of the Match").
-- Depends on why heads don't match, on where expressions fault, and on which clause fires.
use Rattle.std.specs.Prelude.{◌≡◌, ℕ, zero, suc, ◌==◌, Bool, true, false, ◌||◌, filter, Option, Some, None, if◌then◌else◌}
use Rattle.def_term.specs.Tree.{Tree}
use Rattle.def_spec.specs.Matching.{Bindings, Matches, bindings_of}
use Rattle.def_spec.specs.Functions.{is_true, truth}
use Rattle.def_spec.specs.Expressions.{Dialect, Expr, bound_to, whole_list, all_bound, constant, tuple_of, list_of, call, and_also, or_else, perform, Exprs, no_exprs, and_expr, Context, in_condition, value}
use Rattle.def_spec.specs.Outcome.{Clause, matched_term}
use Rattle.def_explain.specs.Heads.{HeadReason, IsHeadReason, head_reason}
use Rattle.def_explain.specs.Values.{FaultsAt, fault_in}

-- the variable stands in the expression; `'$$'` has all variables
abbrev mutual
  pub stands_in : ℕ → Expr → Bool
  stands_in n (bound_to m) = n == m
  stands_in n whole_list = false
  stands_in n all_bound = true
  stands_in n (constant t) = false
  stands_in n (tuple_of es) = stands_in_one n es
  stands_in n (list_of es) = stands_in_one n es
  stands_in n (call f es) = stands_in_one n es
  stands_in n (and_also es) = stands_in_one n es
  stands_in n (or_else es) = stands_in_one n es
  stands_in n (perform a es) = stands_in_one n es

  -- in one of them
  pub stands_in_one : ℕ → Exprs → Bool
  stands_in_one n no_exprs = false
  stands_in_one n (and_expr e es) = stands_in n e || stands_in_one n es

-- the variables that stand in an expression, with what they are bound to, by rising number
abbrev pub bound_within : Expr → Bindings → Bindings
bound_within e b = filter (λ p. stands_in p.0 e) b

-- a condition has another value than `true`, where its variables are bound to these terms; or it faults at a part of it
pub data ConditionReason : Type 0 where
  has_value : Tree → Bindings → ConditionReason
  faults_at : Expr → ConditionReason

-- the head doesn't match, or the condition after so many isn't true
pub data Reason : Type 0 where
  by_head : HeadReason → Reason
  by_condition : ℕ → ConditionReason → Reason

module _ (d : Dialect) (b : Bindings) (c : Context) where
  -- why a condition isn't true
  abbrev pub IsUntrue : Expr → ConditionReason → Type 0
  IsUntrue e (has_value t bound) = (value d in_condition b c e ≡ Some t) × (is_true t ≡ false) × (bound ≡ bound_within e b)
  IsUntrue e (faults_at x) = FaultsAt d b c e x

  -- the first n conditions are true, and the next isn't
  abbrev pub StopsAt : Exprs → ℕ → ConditionReason → Type 0
  StopsAt no_exprs n w = ⊥
  StopsAt (and_expr e es) zero w = IsUntrue e w
  StopsAt (and_expr e es) (suc n) w = (value d in_condition b c e ≡ Some (truth true)) × StopsAt es n w

-- why the clause doesn't fire
abbrev pub IsReason : Dialect → Clause → Context → Reason → Type 0
IsReason d k c (by_head h) = IsHeadReason k.head c.matched_list h
IsReason d k c (by_condition n w) = (b : Bindings) × Matches k.head (matched_term c) b × StopsAt d b c k.conditions n w

-- ---- the same, computed

-- of a condition with this value, or with none and this fault, and with these variables
abbrev pub untrue_by : ℕ → Bindings → Option Tree → Option Expr → Option Reason → Option Reason
untrue_by n bound None None r = None
untrue_by n bound None (Some x) r = Some (by_condition n (faults_at x))
untrue_by n bound (Some t) x r = if is_true t then r else Some (by_condition n (has_value t bound))

-- of the first condition that isn't true, after so many
abbrev pub untrue_in : Dialect → Bindings → Context → ℕ → Exprs → Option Reason
untrue_in d b c n no_exprs = None
untrue_in d b c n (and_expr e es) = untrue_by n (bound_within e b) (value d in_condition b c e) (fault_in d b c e) (untrue_in d b c (suc n) es)

-- of the head
abbrev pub as_reason : Option HeadReason → Option Reason
as_reason None = None
as_reason (Some h) = Some (by_head h)

-- of the head where it doesn't match, else of the conditions
abbrev pub reason_by : Dialect → Clause → Context → Option Bindings → Option Reason
reason_by d k c None = as_reason (head_reason k.head c.matched_list)
reason_by d k c (Some b) = untrue_in d b c 0 k.conditions

-- why the clause doesn't fire; none where it does
abbrev pub reason_of : Dialect → Clause → Context → Option Reason
reason_of d k c = reason_by d k c (bindings_of k.head (matched_term c))
