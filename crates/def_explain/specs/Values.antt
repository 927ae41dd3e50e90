-- Where an expression of a condition faults (own; "Match Specifications in Erlang", "Function Descriptions").
-- Depends on values. Actions are in bodies alone, and have no value in a condition.
use Rattle.std.specs.Prelude.{◌≡◌, true, false, ◌⊎◌, List, Option, Some, None, if◌then◌else◌}
use Rattle.std.specs.Option.{option_and_then}
use Rattle.def_term.specs.Tree.{Tree}
use Rattle.def_spec.specs.Matching.{Bindings, value_bound}
use Rattle.def_spec.specs.Functions.{Func, is_true, apply}
use Rattle.def_spec.specs.Expressions.{Dialect, Expr, bound_to, whole_list, all_bound, constant, tuple_of, list_of, call, and_also, or_else, perform, Exprs, no_exprs, and_expr, Context, in_condition, value, values}

-- ---- parts of what is computed below

-- a fault of the arguments, else the call itself where it has no value
abbrev pub or_itself : Option Expr → Expr → Option Tree → Option Expr
or_itself (Some x) e r = Some x
or_itself None e None = Some e
or_itself None e (Some t) = None

-- the fault, else that of what follows
abbrev pub or_after : Option Expr → Option Expr → Option Expr
or_after (Some x) r = Some x
or_after None r = r

-- what follows a true value
abbrev pub after_true : Option Tree → Option Expr → Option Expr
after_true None r = None
after_true (Some t) r = if is_true t then r else None

-- what follows another value
abbrev pub after_other : Option Tree → Option Expr → Option Expr
after_other None r = None
after_other (Some t) r = if is_true t then None else r

-- ---- where an expression faults, and the same computed

module _ (d : Dialect) (b : Bindings) (c : Context) where
  -- the expression has a value
  abbrev pub HasValue : Expr → Type 0
  HasValue e = (t : Tree) × (value d in_condition b c e ≡ Some t)

  -- its value is true, or another one
  abbrev pub HasTruth : Expr → Type 0
  HasTruth e = (t : Tree) × (value d in_condition b c e ≡ Some t) × (is_true t ≡ true)

  abbrev pub HasOther : Expr → Type 0
  HasOther e = (t : Tree) × (value d in_condition b c e ≡ Some t) × (is_true t ≡ false)

  -- a function on the values of its arguments
  abbrev pub function_value : Func → Exprs → Option Tree
  function_value f es = option_and_then (λ ts. apply f ts c.self_pid) (values d in_condition b c es)

  -- several expressions have values
  abbrev pub HaveValues : Exprs → Type 0
  HaveValues es = (ts : List Tree) × (values d in_condition b c es ≡ Some ts)

  -- the arguments have values, and the call has none
  abbrev pub FaultsItself : Exprs → Option Tree → Type 0
  FaultsItself es r = HaveValues es × (r ≡ None)

  abbrev mutual
    -- the part x of the expression is where it faults: x faults itself, and what is evaluated before it doesn't
    pub FaultsAt : Expr → Expr → Type 0
    FaultsAt (bound_to n) x = (x ≡ bound_to n) × (value_bound b n ≡ None)
    FaultsAt whole_list x = ⊥
    FaultsAt all_bound x = ⊥
    FaultsAt (constant t) x = ⊥
    FaultsAt (tuple_of es) x = FaultsInOne es x
    FaultsAt (list_of es) x = FaultsInOne es x
    FaultsAt (call f es) x = FaultsInOne es x ⊎ ((x ≡ call f es) × FaultsItself es (function_value f es))
    FaultsAt (and_also es) x = FaultsWhileTrue es x
    FaultsAt (or_else es) x = FaultsUntilTrue es x
    FaultsAt (perform a es) x = FaultsInOne es x ⊎ ((x ≡ perform a es) × HaveValues es)

    -- in the first of several expressions that faults
    pub FaultsInOne : Exprs → Expr → Type 0
    FaultsInOne no_exprs x = ⊥
    FaultsInOne (and_expr e es) x = FaultsAt e x ⊎ (HasValue e × FaultsInOne es x)

    -- in one before which all are true
    pub FaultsWhileTrue : Exprs → Expr → Type 0
    FaultsWhileTrue no_exprs x = ⊥
    FaultsWhileTrue (and_expr e es) x = FaultsAt e x ⊎ (HasTruth e × FaultsWhileTrue es x)

    -- in one before which none is true
    pub FaultsUntilTrue : Exprs → Expr → Type 0
    FaultsUntilTrue no_exprs x = ⊥
    FaultsUntilTrue (and_expr e es) x = FaultsAt e x ⊎ (HasOther e × FaultsUntilTrue es x)

  abbrev mutual
    -- where the expression faults
    pub fault_in : Expr → Option Expr
    fault_in (bound_to n) = or_itself None (bound_to n) (value_bound b n)
    fault_in whole_list = None
    fault_in all_bound = None
    fault_in (constant t) = None
    fault_in (tuple_of es) = fault_in_one es
    fault_in (list_of es) = fault_in_one es
    fault_in (call f es) = or_itself (fault_in_one es) (call f es) (function_value f es)
    fault_in (and_also es) = fault_while_true es
    fault_in (or_else es) = fault_until_true es
    fault_in (perform a es) = or_itself (fault_in_one es) (perform a es) None

    -- in the first that faults
    pub fault_in_one : Exprs → Option Expr
    fault_in_one no_exprs = None
    fault_in_one (and_expr e es) = or_after (fault_in e) (fault_in_one es)

    -- stops after the first that isn't true
    pub fault_while_true : Exprs → Option Expr
    fault_while_true no_exprs = None
    fault_while_true (and_expr e es) = or_after (fault_in e) (after_true (value d in_condition b c e) (fault_while_true es))

    -- stops after the first that is true
    pub fault_until_true : Exprs → Option Expr
    fault_until_true no_exprs = None
    fault_until_true (and_expr e es) = or_after (fault_in e) (after_other (value d in_condition b c e) (fault_until_true es))
