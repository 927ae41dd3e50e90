-- The names that a fun calls, and those of operators.
use Rattle.std.proofs.Common.{◌≡◌, ℕ, ◌==◌, nat_le, List, [], ◌∷◌, Bool, true, false, not, ◌&&◌, cond, Option, Some, None, Ok, Err, codes, refl, ap, ◌∙◌, subst, inl, inr}
use Rattle.std.specs.Str.{bytes_eq}
use Rattle.std.specs.Option.{is_some}
use Rattle.std.proofs.lemmas.Bool.{and_parts, or_cases, not-true}
use Rattle.def_term.specs.Names.{Name}
use Rattle.def_term.specs.Text.{is_among}
use Rattle.def_spec.specs.Expressions.{Dialect, Position, in_condition, in_body}
use Rattle.def_spec.specs.Reading.{has_action, unsupported_names}
use Rattle.def_fun.specs.Operators as op
use Rattle.def_fun.specs.Operators.{FunOperator, operator_name, is_infix}
use Rattle.def_fun.specs.Refusals.{FunRefusal, unsupported, no_function, OrRefusal}
use Rattle.def_fun.specs.Calls.{FunFunction, fun_functions, FunAction, fun_actions, is_function_of, is_action_of, may_call, is_object, is_bindings, FunCall, the_object, the_bindings, a_call, named_fun_call}
use Rattle.def_fun.specs.FunTexts.{infix_operators, prefix_operators, operator_named, PrintedCall, prints_between, prints_call, prints_nothing, or_call, between_or, before_or, printed_call}
use Rattle.def_fun.proofs.NumberedNames.{same_name}

-- a name that is no operator, no name that is left out, and neither `const`, `object` nor `bindings`
abbrev pub is_plain_call : Name → Bool
is_plain_call s =
    not (is_some (operator_named infix_operators s)) && (not (is_some (operator_named prefix_operators s)) && (not (bytes_eq s (codes "const")) && (not (is_among unsupported_names s) && (not (is_object s) && not (is_bindings s)))))

abbrev functions_pass : List FunFunction → Bool
functions_pass [] = true
functions_pass (f ∷ fs) = is_plain_call f.name && functions_pass fs

abbrev actions_pass : List FunAction → Bool
actions_pass [] = true
actions_pass (f ∷ fs) = is_plain_call f.name && actions_pass fs

named_plain : (s u : Name) → bytes_eq u s ≡ true → is_plain_call u ≡ true → is_plain_call s ≡ true
named_plain s u e h = subst (λ x. is_plain_call x ≡ true) (same_name u s e) h

function_plain : (fs : List FunFunction) (s : Name) (n : ℕ) → functions_pass fs ≡ true → is_function_of fs s n ≡ true → is_plain_call s ≡ true
function_plain [] s n all h = absurd (let no : false ≡ true = h in cc)
function_plain (f ∷ fs) s n all h =
    let p = and_parts (is_plain_call f.name) (functions_pass fs) all in
    elim (or_cases (bytes_eq f.name s && nat_le n f.arguments && nat_le f.arguments n) (is_function_of fs s n) h) [
      | inl a ↦ named_plain s f.name (and_parts (bytes_eq f.name s) (nat_le n f.arguments) (and_parts (bytes_eq f.name s && nat_le n f.arguments) (nat_le f.arguments n) a).0).0 p.0
      | inr a ↦ function_plain fs s n p.1 a
    ]

action_plain : (d : Dialect) (fs : List FunAction) (s : Name) (n : ℕ) → actions_pass fs ≡ true → is_action_of d fs s n ≡ true → is_plain_call s ≡ true
action_plain d [] s n all h = absurd (let no : false ≡ true = h in cc)
action_plain d (f ∷ fs) s n all h =
    let p = and_parts (is_plain_call f.name) (actions_pass fs) all in
    elim (or_cases (bytes_eq f.name s && nat_le n f.arguments && nat_le f.arguments n && has_action d f.action) (is_action_of d fs s n) h) [
      | inl a ↦
          (let b = and_parts (bytes_eq f.name s && nat_le n f.arguments && nat_le f.arguments n) (has_action d f.action) a in
          let c = and_parts (bytes_eq f.name s && nat_le n f.arguments) (nat_le f.arguments n) b.0 in
          named_plain s f.name (and_parts (bytes_eq f.name s) (nat_le n f.arguments) c.0).0 p.0)
      | inr a ↦ action_plain d fs s n p.1 a
    ]

call_plain : (d : Dialect) (part : Position) (s : Name) (n : ℕ) → may_call d part s n ≡ true → is_plain_call s ≡ true
call_plain d in_condition s n h = function_plain fun_functions s n refl h
call_plain d in_body s n h =
    elim (or_cases (is_function_of fun_functions s n) (is_action_of d fun_actions s n) h) [ inl a ↦ function_plain fun_functions s n refl a | inr a ↦ action_plain d fun_actions s n refl a ]

none_there : {A : Type 0} (o : Option A) → not (is_some o) ≡ true → o ≡ None
none_there None h = refl
none_there (Some x) h = absurd (let no : false ≡ true = h in cc)

-- what a name that a fun may call is not
pub record IsPlainCall (s : Name) : Type 0 where
  pub between : operator_named infix_operators s ≡ None
  pub before : operator_named prefix_operators s ≡ None
  pub const : bytes_eq s (codes "const") ≡ false
  pub supported : is_among unsupported_names s ≡ false
  pub object : is_object s ≡ false
  pub bindings : is_bindings s ≡ false

pub plain_call : (d : Dialect) (part : Position) (s : Name) (n : ℕ) → may_call d part s n ≡ true → IsPlainCall s
plain_call d part s n h =
    let a = and_parts (not (is_some (operator_named infix_operators s))) _ (call_plain d part s n h) in
    let b = and_parts (not (is_some (operator_named prefix_operators s))) _ a.1 in
    let c = and_parts (not (bytes_eq s (codes "const"))) _ b.1 in
    let e = and_parts (not (is_among unsupported_names s)) _ c.1 in
    let f = and_parts (not (is_object s)) (not (is_bindings s)) e.1 in
    record {
      between = none_there (operator_named infix_operators s) a.0;
      before = none_there (operator_named prefix_operators s) b.0;
      const = not-true (bytes_eq s (codes "const")) c.0;
      supported = not-true (is_among unsupported_names s) e.0;
      object = not-true (is_object s) f.0;
      bindings = not-true (is_bindings s) f.1;
    }

by_arguments : (a b : Bool) (o p : Option FunOperator) (c : PrintedCall) → o ≡ None → p ≡ None → cond a (between_or o c) (cond b (before_or p c) c) ≡ c
by_arguments true b o p c e f = ap (λ x. between_or x c) e
by_arguments false true o p c e f = ap (λ x. before_or x c) f
by_arguments false false o p c e f = refl

-- it is printed as a call
pub printed_as_call : (d : Dialect) (part : Position) (s : Name) (n : ℕ) → may_call d part s n ≡ true → printed_call d part s n ≡ prints_call
printed_as_call d part s n h =
    let p = plain_call d part s n h in
    by_arguments (n == 2) (n == 1) (operator_named infix_operators s) (operator_named prefix_operators s) (or_call d part s n) p.between p.before ∙ ap (λ b. cond b prints_call prints_nothing) h

may_by : (b x y m : Bool) (e f : FunRefusal) → cond b (Err e) (cond x (Ok the_object) (cond y (Ok the_bindings) (cond m (Ok a_call) (Err f)))) ≡ Ok a_call → m ≡ true
may_by true x y m e f h = absurd (let no : ◌≡◌ {A = OrRefusal FunCall} (Err e) (Ok a_call) = h in cc)
may_by false true y m e f h = absurd (let no : ◌≡◌ {A = OrRefusal FunCall} (Ok the_object) (Ok a_call) = h in cc)
may_by false false true m e f h = absurd (let no : ◌≡◌ {A = OrRefusal FunCall} (Ok the_bindings) (Ok a_call) = h in cc)
may_by false false false true e f h = refl
may_by false false false false e f h = absurd (let no : ◌≡◌ {A = OrRefusal FunCall} (Err f) (Ok a_call) = h in cc)

-- a call of a fun is one that may be there
pub call_may : (d : Dialect) (part : Position) (s : Name) (n at : ℕ) → named_fun_call d part s n at ≡ Ok a_call → may_call d part s n ≡ true
call_may d part s n at h = may_by (is_among unsupported_names s) (is_object s && nat_le n 0) (is_bindings s && nat_le n 0) (may_call d part s n) (unsupported s at) (no_function s n at) h

-- ---- operators

pub no_const_name : (o : FunOperator) → bytes_eq (operator_name o) (codes "const") ≡ false
no_const_name op.or_else = refl
no_const_name op.and_also = refl
no_const_name op.equal = refl
no_const_name op.not_equal = refl
no_const_name op.less_or_equal = refl
no_const_name op.less = refl
no_const_name op.greater_or_equal = refl
no_const_name op.greater = refl
no_const_name op.exactly_equal = refl
no_const_name op.exactly_not_equal = refl
no_const_name op.plus = refl
no_const_name op.minus = refl
no_const_name op.bit_or = refl
no_const_name op.bit_xor = refl
no_const_name op.one_of = refl
no_const_name op.just_one_of = refl
no_const_name op.times = refl
no_const_name op.divide = refl
no_const_name op.remainder = refl
no_const_name op.bit_and = refl
no_const_name op.all_of = refl
no_const_name op.bit_not = refl
no_const_name op.negation = refl

pub printed_between : (d : Dialect) (part : Position) (o : FunOperator) → is_infix o ≡ true → printed_call d part (operator_name o) 2 ≡ prints_between o
printed_between d part op.or_else h = refl
printed_between d part op.and_also h = refl
printed_between d part op.equal h = refl
printed_between d part op.not_equal h = refl
printed_between d part op.less_or_equal h = refl
printed_between d part op.less h = refl
printed_between d part op.greater_or_equal h = refl
printed_between d part op.greater h = refl
printed_between d part op.exactly_equal h = refl
printed_between d part op.exactly_not_equal h = refl
printed_between d part op.plus h = refl
printed_between d part op.minus h = refl
printed_between d part op.bit_or h = refl
printed_between d part op.bit_xor h = refl
printed_between d part op.one_of h = refl
printed_between d part op.just_one_of h = refl
printed_between d part op.times h = refl
printed_between d part op.divide h = refl
printed_between d part op.remainder h = refl
printed_between d part op.bit_and h = refl
printed_between d part op.all_of h = refl
printed_between d part op.bit_not h = absurd (let no : false ≡ true = h in cc)
printed_between d part op.negation h = absurd (let no : false ≡ true = h in cc)
