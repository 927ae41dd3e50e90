-- Logic on what is no boolean: it counts as `false` here. On a node it is a fault, but the last argument of `andalso` and `orelse` is their value
-- (own, as measured on OTP 27.3.4 (erts 15.2.7)).
-- Depends on what expressions come to after the effects before them, and on the functions of logic.
use Rattle.std.specs.Prelude.{◌≡◌, Bool, true, false, not, ◌&&◌, ◌||◌, ◌⊎◌, if◌then◌else◌, List, []}
use Rattle.std.specs.List.{list_any}
use Rattle.def_term.specs.Tree.{Tree}
use Rattle.def_spec.specs.Matching.{Bindings}
use Rattle.def_spec.specs.Functions.{Func, all_of, one_of, just_one_of, is_false, boolean_test, is_true}
use Rattle.def_spec.specs.Expressions.{Dialect, Expr, bound_to, whole_list, all_bound, constant, tuple_of, list_of, call, and_also, or_else, perform, Exprs, no_exprs, and_expr, Context, Effect, Position, in_condition, in_body, Evaluation, comes_to, faults, evaluation, evaluation_of_all}
use Rattle.def_spec.specs.Outcome.{Clause}
use Rattle.def_explain.specs.Lists.{One}

-- and, or, xor and not
abbrev pub is_logic : Func → Bool
is_logic all_of = true
is_logic one_of = true
is_logic just_one_of = true
is_logic is_false = true
is_logic f = false

-- one of these terms is neither `true` nor `false`
abbrev pub OneIsNoBoolean : List Tree → Type 0
OneIsNoBoolean ts = One (λ t. boolean_test t ≡ false) ts

-- ---- the same, computed

abbrev pub one_is_no_boolean : List Tree → Bool
one_is_no_boolean ts = list_any (λ t. not (boolean_test t)) ts

-- what holds of a value and the effects with it; of a fault nothing
abbrev pub on_value : {X : Type 0} → Evaluation X → (X → List Effect → Bool) → Bool
on_value (comes_to t y) f = f t y
on_value (faults y) f = false

-- ---- an expression in which logic is called so, after these effects

module _ (d : Dialect) (part : Position) (b : Bindings) (c : Context) where
  -- the function is one of logic, and its arguments have values of which one is no boolean
  abbrev pub IsLogicOnOther : Func → Exprs → List Effect → Type 0
  IsLogicOnOther f es x = (ts : List Tree) × (y : List Effect) × (is_logic f ≡ true) × (evaluation_of_all d part b c es x ≡ comes_to ts y) × OneIsNoBoolean ts

  abbrev mutual
    -- a part of the expression that is evaluated is such a call
    pub HasLogicOnOther : Expr → List Effect → Type 0
    HasLogicOnOther (bound_to n) x = ⊥
    HasLogicOnOther whole_list x = ⊥
    HasLogicOnOther all_bound x = ⊥
    HasLogicOnOther (constant t) x = ⊥
    HasLogicOnOther (tuple_of es) x = OneHasLogicOnOther es x
    HasLogicOnOther (list_of es) x = OneHasLogicOnOther es x
    HasLogicOnOther (call f es) x = IsLogicOnOther f es x ⊎ OneHasLogicOnOther es x
    HasLogicOnOther (and_also es) x = HasLogicOnOtherWhile true es x
    HasLogicOnOther (or_else es) x = HasLogicOnOtherWhile false es x
    HasLogicOnOther (perform a es) x = OneHasLogicOnOther es x

    -- a part of the first, or of one after it where the first has a value
    pub OneHasLogicOnOther : Exprs → List Effect → Type 0
    OneHasLogicOnOther no_exprs x = ⊥
    OneHasLogicOnOther (and_expr e es) x = HasLogicOnOther e x ⊎ ((t : Tree) × (y : List Effect) × (evaluation d part b c e x ≡ comes_to t y) × OneHasLogicOnOther es y)

    -- a part of the first, or the first is no boolean itself, or one after it is such where the first is true, or isn't
    pub HasLogicOnOtherWhile : Bool → Exprs → List Effect → Type 0
    HasLogicOnOtherWhile q no_exprs x = ⊥
    HasLogicOnOtherWhile q (and_expr e es) x =
        HasLogicOnOther e x ⊎ ((t : Tree) × (y : List Effect) × (evaluation d part b c e x ≡ comes_to t y) × ((boolean_test t ≡ false) ⊎ ((is_true t ≡ q) × HasLogicOnOtherWhile q es y)))

  -- ---- the same, computed

  -- the call itself
  abbrev pub is_logic_on_other : Func → Exprs → List Effect → Bool
  is_logic_on_other f es x = is_logic f && on_value (evaluation_of_all d part b c es x) (λ ts y. one_is_no_boolean ts)

  abbrev mutual
    pub has_logic_on_other : Expr → List Effect → Bool
    has_logic_on_other (bound_to n) x = false
    has_logic_on_other whole_list x = false
    has_logic_on_other all_bound x = false
    has_logic_on_other (constant t) x = false
    has_logic_on_other (tuple_of es) x = one_has_logic_on_other es x
    has_logic_on_other (list_of es) x = one_has_logic_on_other es x
    has_logic_on_other (call f es) x = is_logic_on_other f es x || one_has_logic_on_other es x
    has_logic_on_other (and_also es) x = has_logic_on_other_while true es x
    has_logic_on_other (or_else es) x = has_logic_on_other_while false es x
    has_logic_on_other (perform a es) x = one_has_logic_on_other es x

    -- of one of several that are evaluated
    pub one_has_logic_on_other : Exprs → List Effect → Bool
    one_has_logic_on_other no_exprs x = false
    one_has_logic_on_other (and_expr e es) x = has_logic_on_other e x || on_value (evaluation d part b c e x) (λ t y. one_has_logic_on_other es y)

    -- of one up to the first that isn't true, or is
    pub has_logic_on_other_while : Bool → Exprs → List Effect → Bool
    has_logic_on_other_while q no_exprs x = false
    has_logic_on_other_while q (and_expr e es) x =
        has_logic_on_other e x || on_value (evaluation d part b c e x) (λ t y. not (boolean_test t) || (if is_true t then (q && has_logic_on_other_while q es y) else (not q && has_logic_on_other_while q es y)))

-- ---- a clause that fires with these bindings

-- one of its conditions has such a call, or an expression of its body
abbrev pub ClauseHasLogicOnOther : Dialect → Clause → Bindings → Context → Type 0
ClauseHasLogicOnOther d k b c = OneHasLogicOnOther d in_condition b c k.conditions [] ⊎ OneHasLogicOnOther d in_body b c k.body []

abbrev pub clause_has_logic_on_other : Dialect → Clause → Bindings → Context → Bool
clause_has_logic_on_other d k b c = one_has_logic_on_other d in_condition b c k.conditions [] || one_has_logic_on_other d in_body b c k.body []
