-- What is promised of specifications ("Match Specifications in Erlang") and of flags (trace:process/4).
-- Depends on all definitions of specifications.
use Rattle.std.specs.Prelude.{◌≡◌, ◌↔◌, ◌≤◌, ◌⊎◌, ℕ, suc, nat_le, Bool, true, false, not, ◌&&◌, ◌||◌, List, [], ◌∷◌, ◌++◌, length, Option, Some, None, is_some, Ok, Err}
use Rattle.std.specs.Bool.{⊤}
use Rattle.def_term.specs.Tree.{Tree, atom, pid, tuple, list, Trees, none, more}
use Rattle.def_term.specs.Text.{is_among}
use Rattle.def_term.specs.Names.{Name}
use Rattle.def_term.specs.Alive.{is_alive}
use Rattle.def_spec.specs.Flags.{Flag, Flags, FlagTable, flags_in, flags_listed, only, set_on_spawn, set_on_first_spawn, set_on_link, set_on_first_link, after_spawn, after_link}
use Rattle.def_spec.specs.Matching.{Pattern, Bindings, Matches, bindings_of, occurs}
use Rattle.def_spec.specs.Functions as fn
use Rattle.def_spec.specs.Functions.{Func, truth}
use Rattle.def_spec.specs.Expressions.{Dialect, Action, message, return_trace, exception_trace, silent, enable_trace, disable_trace, trace, caller, Expr, bound_to, whole_list, all_bound, constant, tuple_of, list_of, call, and_also, or_else, perform, Exprs, no_exprs, and_expr, Context, Effect, changes, change_flags, living_pid, trace_on, Position, in_condition, in_body, Evaluation, comes_to, faults, or_fault, evaluation, its_value, its_effects, value, values}
use Rattle.def_spec.specs.Outcome.{Clause, Spec, Outcome, IsOutcome, outcome_of}
use Rattle.def_spec.specs.Reading.{SpecFault, unsupported, Callee, a_function, an_and_also, an_or_else, an_action, has_action, is_at_most, unsupported_names, expr_of, exprs_of, head_of, clause_of, spec_of}

-- ---- matching

-- the walk finds b exactly where b is the binding
abbrev pub WalkIsMatching : Type 0
WalkIsMatching = (p : Pattern) (t : Tree) (b : Bindings) → (bindings_of p t ≡ Some b) ↔ Matches p t b

-- there is one at most
abbrev pub BindingIsUnique : Type 0
BindingIsUnique = (p : Pattern) (t : Tree) (b c : Bindings) → Matches p t b → Matches p t c → b ≡ c

-- the walk finds none exactly where there is none
abbrev pub WalkMissesNone : Type 0
WalkMissesNone = (p : Pattern) (t : Tree) → (bindings_of p t ≡ None) ↔ ((b : Bindings) → ¬ Matches p t b)

-- ---- outcomes

-- what is computed is the outcome of the least-numbered clause that fires, or no match
abbrev pub OutcomeIsComputed : Type 0
OutcomeIsComputed = (s : Spec) (c : Context) → IsOutcome s c (outcome_of s c)

-- and there is no other
abbrev pub OutcomeIsUnique : Type 0
OutcomeIsUnique = (s : Spec) (c : Context) (o : Outcome) → IsOutcome s c o → o ≡ outcome_of s c

-- ---- values

-- the head binds each variable of the expression
abbrev mutual
  pub IsCovered : Pattern → Expr → Type 0
  IsCovered p (bound_to n) = occurs n p ≡ true
  IsCovered p whole_list = ⊤
  IsCovered p all_bound = ⊤
  IsCovered p (constant t) = ⊤
  IsCovered p (tuple_of es) = AreCovered p es
  IsCovered p (list_of es) = AreCovered p es
  IsCovered p (call f es) = AreCovered p es
  IsCovered p (and_also es) = AreCovered p es
  IsCovered p (or_else es) = AreCovered p es
  IsCovered p (perform a es) = AreCovered p es

  -- of several expressions
  pub AreCovered : Pattern → Exprs → Type 0
  AreCovered p no_exprs = ⊤
  AreCovered p (and_expr e es) = IsCovered p e × AreCovered p es

-- in a body each expression has a term as its value, whatever was done before
abbrev pub BodiesHaveValues : Type 0
BodiesHaveValues =
    (d : Dialect) (head : Pattern) (t : Tree) (b : Bindings) (c : Context) (e : Expr) (x : List Effect) → Matches head t b → IsCovered head e →
    is_some (its_value (evaluation d in_body b c e x)) ≡ true

-- a condition adds no effect, and has the same value with any flags and after any effects
abbrev pub ConditionsHaveNoEffects : Type 0
ConditionsHaveNoEffects =
    (d : Dialect) (b : Bindings) (c : Context) (flags : FlagTable) (e : Expr) (x : List Effect) →
    evaluation d in_condition b (record c { flags = flags }) e x ≡ or_fault (value d in_condition b c e) x

-- ---- effects

-- the effects of what is evaluated come after those so far
abbrev pub EffectsStandAfter : Type 0
EffectsStandAfter = (d : Dialect) (part : Position) (b : Bindings) (c : Context) (e : Expr) (x : List Effect) → (own : List Effect) × (its_effects (evaluation d part b c e x) ≡ x ++ own)

-- an action that isn't `trace`
abbrev pub IsOther : Action → Type 0
IsOther trace = ⊥
IsOther a = ⊤

-- `trace` doesn't occur in the expression
abbrev mutual
  pub IsTraceless : Expr → Type 0
  IsTraceless (bound_to n) = ⊤
  IsTraceless whole_list = ⊤
  IsTraceless all_bound = ⊤
  IsTraceless (constant t) = ⊤
  IsTraceless (tuple_of es) = AreTraceless es
  IsTraceless (list_of es) = AreTraceless es
  IsTraceless (call f es) = AreTraceless es
  IsTraceless (and_also es) = AreTraceless es
  IsTraceless (or_else es) = AreTraceless es
  IsTraceless (perform a es) = IsOther a × AreTraceless es

  -- nor in any of several
  pub AreTraceless : Exprs → Type 0
  AreTraceless no_exprs = ⊤
  AreTraceless (and_expr e es) = IsTraceless e × AreTraceless es

-- the same with these effects in front
abbrev pub after_effects : {X : Type 0} → List Effect → Evaluation X → Evaluation X
after_effects x (comes_to t y) = comes_to t (x ++ y)
after_effects x (faults y) = faults (x ++ y)

-- without `trace` an expression has the value and the effects that it has alone, with any flags and after any effects
abbrev pub OnlyTraceReadsFlags : Type 0
OnlyTraceReadsFlags =
    (d : Dialect) (part : Position) (b : Bindings) (c : Context) (flags : FlagTable) (e : Expr) (x : List Effect) → IsTraceless e →
    evaluation d part b (record c { flags = flags }) e x ≡ after_effects x (evaluation d part b c e [])

-- each expression has the value that it has alone
abbrev pub EachValue : Dialect → Position → Bindings → Context → Exprs → List Tree → Type 0
EachValue d part b c no_exprs [] = ⊤
EachValue d part b c no_exprs (t ∷ ts) = ⊥
EachValue d part b c (and_expr e es) [] = ⊥
EachValue d part b c (and_expr e es) (t ∷ ts) = (value d part b c e ≡ Some t) × EachValue d part b c es ts

-- without `trace` the values of several expressions are the values of each by itself: what was evaluated before, and the effects that it had, change none
abbrev pub EffectsChangeNoValue : Type 0
EffectsChangeNoValue =
    (d : Dialect) (part : Position) (b : Bindings) (c : Context) (es : Exprs) (ts : List Tree) → AreTraceless es →
    (values d part b c es ≡ Some ts) ↔ EachValue d part b c es ts

-- ---- the action `trace`

-- two lists of flags on a living process are a change of its flags, whose value is `false` exactly where each flag stays as it was just before
abbrev pub TraceTellsAChange : Type 0
TraceTellsAChange =
    (c : Context) (n : ℕ) (disable enable : Tree) (off on : Flags) → is_alive c.alive n ≡ true → flags_listed disable ≡ Some off → flags_listed enable ≡ Some on →
    (b : Bool) × (trace_on c (pid n) disable enable ≡ Some (truth b, changes n off on ∷ []))
    × ((b ≡ false) ↔ ((f : Flag) → change_flags (flags_in c.flags n) off on f ≡ flags_in c.flags n f))

-- anything else is a fault
abbrev pub TraceFaults : Type 0
TraceFaults =
    (c : Context) (p disable enable : Tree) →
    (trace_on c p disable enable ≡ None) ↔ ((living_pid c.alive p ≡ None) ⊎ ((flags_listed disable ≡ None) ⊎ (flags_listed enable ≡ None)))

-- a flag that is set is there whether it is cleared too or not; any other is there if it was and isn't cleared
abbrev pub ClearsBeforeItSets : Type 0
ClearsBeforeItSets = (f off on : Flags) (x : Flag) → (on x ≡ true → change_flags f off on x ≡ true) × (on x ≡ false → change_flags f off on x ≡ (f x && not (off x)))

-- ---- reading

-- the number of arguments
abbrev pub count_of : Exprs → ℕ
count_of no_exprs = 0
count_of (and_expr e es) = suc (count_of es)

-- the least and the greatest number of arguments, where there is a greatest
abbrev pub numbers_of_function : Func → ℕ × Option ℕ
numbers_of_function fn.own_pid = (0, Some 0)
numbers_of_function fn.own_node = (0, Some 1)
numbers_of_function fn.element = (2, Some 2)
numbers_of_function fn.add = (2, Some 2)
numbers_of_function fn.subtract = (2, Some 2)
numbers_of_function fn.multiply = (2, Some 2)
numbers_of_function fn.divide = (2, Some 2)
numbers_of_function fn.remainder = (2, Some 2)
numbers_of_function fn.bit_and = (2, Some 2)
numbers_of_function fn.bit_or = (2, Some 2)
numbers_of_function fn.bit_xor = (2, Some 2)
numbers_of_function fn.greater = (2, Some 2)
numbers_of_function fn.greater_or_equal = (2, Some 2)
numbers_of_function fn.less = (2, Some 2)
numbers_of_function fn.less_or_equal = (2, Some 2)
numbers_of_function fn.equal = (2, Some 2)
numbers_of_function fn.exactly_equal = (2, Some 2)
numbers_of_function fn.not_equal = (2, Some 2)
numbers_of_function fn.exactly_not_equal = (2, Some 2)
numbers_of_function fn.just_one_of = (2, Some 2)
numbers_of_function fn.all_of = (1, None)
numbers_of_function fn.one_of = (1, None)
numbers_of_function _ = (1, Some 1)

-- those of an action
abbrev pub numbers_of_action : Action → ℕ × Option ℕ
numbers_of_action message = (1, Some 1)
numbers_of_action return_trace = (0, Some 0)
numbers_of_action exception_trace = (0, Some 0)
numbers_of_action silent = (1, Some 1)
numbers_of_action enable_trace = (1, Some 2)
numbers_of_action disable_trace = (1, Some 2)
numbers_of_action trace = (2, Some 3)
numbers_of_action caller = (0, Some 0)

-- those of what is called
abbrev pub numbers_of : Callee → ℕ × Option ℕ
numbers_of (a_function f) = numbers_of_function f
numbers_of an_and_also = (1, None)
numbers_of an_or_else = (1, None)
numbers_of (an_action a) = numbers_of_action a

-- a call in a part where it is allowed: a condition has no action, and a body none that the dialect lacks
abbrev pub IsAllowed : Dialect → Position → Callee → Type 0
IsAllowed d in_condition (an_action a) = ⊥
IsAllowed d in_body (an_action a) = has_action d a ≡ true
IsAllowed d part (a_function f) = ⊤
IsAllowed d part an_and_also = ⊤
IsAllowed d part an_or_else = ⊤

-- the number of arguments is one that the function has, and the call is allowed there
pub record IsFitting (d : Dialect) (part : Position) (f : Callee) (n : ℕ) : Type 0 where
  pub least : nat_le (numbers_of f).0 n ≡ true
  pub most : is_at_most (numbers_of f).1 n ≡ true
  pub allowed : IsAllowed d part f

abbrev mutual
  -- each call in the expression fits
  pub AllCallsFit : Dialect → Position → Expr → Type 0
  AllCallsFit d part (bound_to n) = ⊤
  AllCallsFit d part whole_list = ⊤
  AllCallsFit d part all_bound = ⊤
  AllCallsFit d part (constant t) = ⊤
  AllCallsFit d part (tuple_of es) = CallsOfAllFit d part es
  AllCallsFit d part (list_of es) = CallsOfAllFit d part es
  AllCallsFit d part (call f es) = IsFitting d part (a_function f) (count_of es) × CallsOfAllFit d part es
  AllCallsFit d part (and_also es) = IsFitting d part an_and_also (count_of es) × CallsOfAllFit d part es
  AllCallsFit d part (or_else es) = IsFitting d part an_or_else (count_of es) × CallsOfAllFit d part es
  AllCallsFit d part (perform a es) = IsFitting d part (an_action a) (count_of es) × CallsOfAllFit d part es

  -- of several expressions
  pub CallsOfAllFit : Dialect → Position → Exprs → Type 0
  CallsOfAllFit d part no_exprs = ⊤
  CallsOfAllFit d part (and_expr e es) = AllCallsFit d part e × CallsOfAllFit d part es

-- variables that the head binds, and calls that fit, in conditions and in the body
pub record IsSoundClause (d : Dialect) (k : Clause) : Type 0 where
  pub conditions_covered : AreCovered k.head k.conditions
  pub conditions_fit : CallsOfAllFit d in_condition k.conditions
  pub body_covered : AreCovered k.head k.body
  pub body_fits : CallsOfAllFit d in_body k.body

-- each clause so
abbrev pub AreSoundClauses : Dialect → List Clause → Type 0
AreSoundClauses d [] = ⊤
AreSoundClauses d (k ∷ ks) = IsSoundClause d k × AreSoundClauses d ks

-- the dialect that it is read for, one clause or more, and each clause sound
pub record IsSound (d : Dialect) (s : Spec) : Type 0 where
  pub dialect : s.dialect ≡ d
  pub nonempty : nat_le 1 (length s.clauses) ≡ true
  pub clauses : AreSoundClauses d s.clauses

-- a specification that is read has its dialect, clauses, variables that the heads bind, and calls that fit
abbrev pub ReadSpecsAreSound : Type 0
ReadSpecsAreSound = (d : Dialect) (t : Tree) (s : Spec) → spec_of d t ≡ Ok s → IsSound d s

-- ---- the first fault

-- these terms before the others
abbrev pub trees_before : List Tree → Trees → Trees
trees_before [] ts = ts
trees_before (u ∷ us) ts = more u (trees_before us ts)

-- each of these terms is read as a clause
abbrev pub AreRead : Dialect → List Tree → Type 0
AreRead d [] = ⊤
AreRead d (t ∷ ts) = ((k : Clause) × (clause_of d t ≡ Ok k)) × AreRead d ts

-- the fault is that of the first clause that has one, whatever follows
abbrev pub FirstFaultyClause : Type 0
FirstFaultyClause =
    (d : Dialect) (before : List Tree) (t : Tree) (after : Trees) (e : SpecFault) → AreRead d before → clause_of d t ≡ Err e →
    spec_of d (list (trees_before before (more t after))) ≡ Err e

-- of a clause the head's comes first
abbrev pub HeadFaultFirst : Type 0
HeadFaultFirst = (d : Dialect) (h : Tree) (cs bs : Trees) (e : SpecFault) → head_of h ≡ Err e → clause_of d (tuple (more h (more (list cs) (more (list bs) none)))) ≡ Err e

-- then that of the conditions
abbrev pub ConditionFaultNext : Type 0
ConditionFaultNext =
    (d : Dialect) (h : Tree) (p : Pattern) (cs bs : Trees) (e : SpecFault) → head_of h ≡ Ok p → exprs_of d in_condition p cs ≡ Err e →
    clause_of d (tuple (more h (more (list cs) (more (list bs) none)))) ≡ Err e

-- then that of the body
abbrev pub BodyFaultLast : Type 0
BodyFaultLast =
    (d : Dialect) (h : Tree) (p : Pattern) (cs bs : Trees) (es : Exprs) (e : SpecFault) → head_of h ≡ Ok p → exprs_of d in_condition p cs ≡ Ok es → exprs_of d in_body p bs ≡ Err e →
    clause_of d (tuple (more h (more (list cs) (more (list bs) none)))) ≡ Err e

-- of several expressions the first fault
abbrev pub FirstFaultyExpression : Type 0
FirstFaultyExpression =
    (d : Dialect) (part : Position) (p : Pattern) (t : Tree) (ts : Trees) (e : SpecFault) → expr_of d part p t ≡ Err e → exprs_of d part p (more t ts) ≡ Err e

-- an unsupported name is a fault of its own, whatever its arguments
abbrev pub UnsupportedFirst : Type 0
UnsupportedFirst = (d : Dialect) (part : Position) (p : Pattern) (s : Name) (ts : Trees) → is_among unsupported_names s ≡ true → expr_of d part p (tuple (more (atom s) ts)) ≡ Err (unsupported s)

-- ---- inheritance

-- what a giving process keeps and what the other has afterwards, in the four cases of the two flags
pub record Inherits (always first : Flag) (after : Flags → Flags → Flags × Flags) : Type 0 where
  -- without either nothing is given
  pub neither : (giver taker : Flags) → giver always ≡ false → giver first ≡ false → (x : Flag) →
      ((after giver taker).0 x ≡ giver x) × ((after giver taker).1 x ≡ taker x)
  -- with the first all are given, that one too, and none is lost
  pub always_alone : (giver taker : Flags) → giver always ≡ true → giver first ≡ false → (x : Flag) →
      ((after giver taker).0 x ≡ giver x) × ((after giver taker).1 x ≡ (taker x || giver x))
  -- with the second all but that one are given, and that one is lost
  pub first_alone : (giver taker : Flags) → giver always ≡ false → giver first ≡ true → (x : Flag) →
      ((after giver taker).0 x ≡ (giver x && not (only first x))) × ((after giver taker).1 x ≡ (taker x || (giver x && not (only first x))))
  -- with both all but both are given, and both are lost
  pub both : (giver taker : Flags) → giver always ≡ true → giver first ≡ true → (x : Flag) →
      ((after giver taker).0 x ≡ (giver x && not (only always x || only first x)))
      × ((after giver taker).1 x ≡ (taker x || (giver x && not (only always x || only first x))))

-- at a spawn, from the parent to the child
abbrev pub SpawnInherits : Type 0
SpawnInherits = Inherits set_on_spawn set_on_first_spawn after_spawn

-- at a link, from the linking process to its partner
abbrev pub LinkInherits : Type 0
LinkInherits = Inherits set_on_link set_on_first_link after_link

-- ---- variables

-- the variables of each clause's head are numbered from 0 to 999
abbrev pub AreNumbered : List Clause → Type 0
AreNumbered [] = ⊤
AreNumbered (k ∷ ks) = ((n : ℕ) → occurs n k.head ≡ true → n ≤ 999) × AreNumbered ks

-- the variables of a specification that is read are numbered from 0 to 999
abbrev pub VariablesAreNumbered : Type 0
VariablesAreNumbered = (d : Dialect) (t : Tree) (s : Spec) → spec_of d t ≡ Ok s → AreNumbered s.clauses
