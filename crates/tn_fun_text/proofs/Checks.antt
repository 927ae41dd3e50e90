-- Why no fun has an expression.
use Rattle.std.proofs.Common.{◌≡◌, ◌∙◌, ℕ, ℤ, ◌+◌, ◌<◌, Bool, true, false, not, ◌||◌, if◌then◌else◌, List, [], ◌∷◌, length, get_or, drop, Option, Some, None, Result, Ok, Err, codes, refl, sym, ap, subst, arith}
use Rattle.std.specs.Str.{bytes_eq}
use Rattle.std.specs.Option.{option_or}
use Rattle.def_term.specs.Tree.{Tree, int, atom, pid, tuple, list, Trees, none, more, count}
use Rattle.def_term.specs.Names.{Name}
use Rattle.def_spec.specs.Expressions.{Dialect, Position}
use Rattle.def_spec.specs.Reading.{AtomKind, a_variable, a_wrong_variable, a_plain_atom, is_wildcard}
use Rattle.def_fun.specs.Trees as tree
use Rattle.def_fun.specs.Trees.{FunExpr, FunExprs}
use Rattle.def_fun.specs.Operators.{FunOperator}
use Rattle.def_fun.specs.Variables.{ANY}
use Rattle.def_fun.specs.Translation.{begins_with_dollar}
use Rattle.def_fun.specs.FunTexts.{OrReason, NoFunReason, no_dollar_atom, no_other_const, no_such_call, then_print, is_text, string_expr, have_list, PrintedCall, prints_between, prints_before, prints_call, prints_nothing, printed_call, computation_of, would_compute, values_in_fun, operator_expr, operands_kept, atom_printed, const_printed, unless_computed, call_printed, expr_of_term, exprs_of_terms}
use Rattle.tn_term.specs.declared.term.Term.{Term}
use Rattle.tn_term.specs.Views.{tree_of, trees_of}
use Rattle.tn_term.proofs.Trees.{count_seen}
use Rattle.tn_fun_text.specs.declared.check.CheckFault.{CheckFault}
use Rattle.tn_fun_text.specs.declared.check.CheckFault.TheVariants as faults
use Rattle.tn_fun_text.specs.Reasons.{no_fun_reason, SaysReason}
use Rattle.tn_fun_text.specs.Checks.{is_dollar_const, computed_reason, fun_call_reason}
use Rattle.tn_fun_text.proofs.Places.{first_is, alone_is, crowd}
use Rattle.tn_fun_text.proofs.Loops.{of_next}

-- ---- what is said of a result

-- the reason of the first is that of both
pub says_first : {A : Type 0} (U V : Type 0) (o p : Option NoFunReason) (e : CheckFault A) → SaysReason {A = A} {U = U} o (Err e) → SaysReason {A = A} {U = V} (option_or o p) (Err e)
says_first U V o p (faults.Reason r) said = ap (λ q. option_or q p) said
says_first U V o p faults.OutOfMemory said = tt

-- where the first has none, that of the second is
pub says_second : {A U : Type 0} (o p : Option NoFunReason) (result : Result U (CheckFault A)) → o ≡ None → SaysReason p result → SaysReason (option_or o p) result
says_second o p result without said = subst (λ q. SaysReason (option_or q p) result) (sym without) said

-- ---- rows

both_reasons : {X Y Z : Type 0} (r : OrReason X) (q : OrReason Y) (f : X → Y → Z) → no_fun_reason (then_print r (λ x. then_print q (λ y. Ok (f x y)))) ≡ option_or (no_fun_reason r) (no_fun_reason q)
both_reasons (Ok x) (Ok y) f = refl
both_reasons (Ok x) (Err s) f = refl
both_reasons (Err s) q f = refl

same_reason : {X Y : Type 0} (r : OrReason X) (f : X → Y) → no_fun_reason (then_print r (λ x. Ok (f x))) ≡ no_fun_reason r
same_reason (Ok x) f = refl
same_reason (Err s) f = refl

-- ---- atoms

-- an atom that is no variable
abbrev plain_printed : Bool → Bool → Bool → Bool → Name → OrReason FunExpr
plain_printed w a b c s =
    if w then Ok (tree.variable 0 ANY)
    else (if a then Ok (tree.call 0 (codes "object") tree.none)
    else (if b then Ok (tree.call 0 (codes "bindings") tree.none)
    else (if c then Err (no_dollar_atom s)
    else Ok (tree.atom 0 s))))

printed_if : (w a b c : Bool) (s : Name) → ((w || a || b) || not c) ≡ true → no_fun_reason (plain_printed w a b c s) ≡ None
printed_if true a b c s e = refl
printed_if false true b c s e = refl
printed_if false false true c s e = refl
printed_if false false false false s e = refl
printed_if false false false true s e = absurd (cc)

dollar_if : (w a b c : Bool) (s : Name) → ((w || a || b) || not c) ≡ false → no_fun_reason (plain_printed w a b c s) ≡ Some (no_dollar_atom s)
dollar_if false false false true s e = refl
dollar_if true a b c s e = absurd (cc)
dollar_if false true b c s e = absurd (cc)
dollar_if false false true c s e = absurd (cc)
dollar_if false false false false s e = absurd (cc)

abbrev pub is_printed_plain : Name → Bool
is_printed_plain s = (is_wildcard s || bytes_eq s (codes "$_") || bytes_eq s (codes "$*")) || not (begins_with_dollar s)

pub atom_has_none : (s : Name) (k : AtomKind) → is_printed_plain s ≡ true → no_fun_reason (atom_printed s k) ≡ None
atom_has_none s (a_variable n) e = refl
atom_has_none s a_wrong_variable e = printed_if (is_wildcard s) (bytes_eq s (codes "$_")) (bytes_eq s (codes "$*")) (begins_with_dollar s) s e
atom_has_none s a_plain_atom e = printed_if (is_wildcard s) (bytes_eq s (codes "$_")) (bytes_eq s (codes "$*")) (begins_with_dollar s) s e

pub wrong_atom_has : (s : Name) → is_printed_plain s ≡ false → no_fun_reason (atom_printed s a_wrong_variable) ≡ Some (no_dollar_atom s)
wrong_atom_has s e = dollar_if (is_wildcard s) (bytes_eq s (codes "$_")) (bytes_eq s (codes "$*")) (begins_with_dollar s) s e

pub plain_atom_has : (s : Name) → is_printed_plain s ≡ false → no_fun_reason (atom_printed s a_plain_atom) ≡ Some (no_dollar_atom s)
plain_atom_has s e = dollar_if (is_wildcard s) (bytes_eq s (codes "$_")) (bytes_eq s (codes "$*")) (begins_with_dollar s) s e

-- ---- {const,T}

const_if : (b : Bool) (s : Name) (t : Tree) → no_fun_reason (if b then Ok (tree.atom 0 s) else Err (no_other_const t)) ≡ (if b then None else Some (no_other_const t))
const_if true s t = refl
const_if false s t = refl

pub const_reason : (t : Tree) (ts : Trees) → no_fun_reason (const_printed t ts) ≡ (if is_dollar_const ts then None else Some (no_other_const t))
const_reason t none = refl
const_reason t (more (atom s) none) = const_if (begins_with_dollar s) s t
const_reason t (more (int z) none) = refl
const_reason t (more (pid n) none) = refl
const_reason t (more (tuple us) none) = refl
const_reason t (more (list us) none) = refl
const_reason t (more (atom s) (more u us)) = refl
const_reason t (more (int z) (more u us)) = refl
const_reason t (more (pid n) (more u us)) = refl
const_reason t (more (tuple vs) (more u us)) = refl
const_reason t (more (list vs) (more u us)) = refl

pub several_none : (t u : Tree) (us : Trees) → is_dollar_const (more t (more u us)) ≡ false
several_none t u us = refl

-- ---- operators and calls

unless_reason : (t : Tree) (a h : Bool) (r : OrReason FunExpr) → no_fun_reason (unless_computed t a h r) ≡ option_or (computed_reason t a h) (no_fun_reason r)
unless_reason t true true r = refl
unless_reason t true false r = refl
unless_reason t false h r = refl

operator_reason : (o : FunOperator) (t : Tree) (ts : Trees) (a : Bool) (es : OrReason FunExprs)
    → no_fun_reason (unless_computed t a (have_list ts) (then_print es (λ fs. Ok (operator_expr o (operands_kept a fs))))) ≡ option_or (computed_reason t a (have_list ts)) (no_fun_reason es)
operator_reason o t ts a es =
    unless_reason t a (have_list ts) (then_print es (λ fs. Ok (operator_expr o (operands_kept a fs))))
    ∙ ap (option_or (computed_reason t a (have_list ts))) (same_reason es (λ fs. operator_expr o (operands_kept a fs)))

call_printed_reason : (c : PrintedCall) (s : Name) (t : Tree) (ts : Trees) (a : Bool) (es : OrReason FunExprs) → no_fun_reason (call_printed c s t ts a es) ≡ option_or (fun_call_reason c s t ts a) (no_fun_reason es)
call_printed_reason (prints_between o) s t ts a es = operator_reason o t ts a es
call_printed_reason (prints_before o) s t ts a es = operator_reason o t ts a es
call_printed_reason prints_call s t ts a es = same_reason es (λ fs. tree.call 0 s fs)
call_printed_reason prints_nothing s t ts a es = refl

reason_if : {X : Type 0} (b : Bool) (r q : OrReason X) → no_fun_reason (if b then r else q) ≡ (if b then no_fun_reason r else no_fun_reason q)
reason_if true r q = refl
reason_if false r q = refl

-- one that is decided by a test
pub if_true : {X : Type 0} (b : Bool) (x y : X) → b ≡ true → (if b then x else y) ≡ x
if_true true x y e = refl
if_true false x y e = absurd (cc)

pub if_false : {X : Type 0} (b : Bool) (x y : X) → b ≡ false → (if b then x else y) ≡ y
if_false false x y e = refl
if_false true x y e = absurd (cc)

module _ (d : Dialect) (part : Position) where
  pub each_reason : (t : Tree) (ts : Trees) → no_fun_reason (exprs_of_terms d part (more t ts)) ≡ option_or (no_fun_reason (expr_of_term d part t)) (no_fun_reason (exprs_of_terms d part ts))
  each_reason t ts = both_reasons (expr_of_term d part t) (exprs_of_terms d part ts) (λ e es. tree.more e es)

  -- the reason of one of several is that of all
  pub element_fails : {A : Type 0} (U V : Type 0) (xs : List (Term A)) (i : ℕ) (x : Term A) (e : CheckFault A) (whole : Option NoFunReason) → i < length xs → x ≡ get_or xs i x
      → SaysReason {A = A} {U = U} (no_fun_reason (expr_of_term d part (tree_of x))) (Err e) → no_fun_reason (exprs_of_terms d part (trees_of (drop i xs))) ≡ whole → SaysReason {A = A} {U = V} whole (Err e)
  element_fails {A} U V xs i x e whole below is said so_far =
      subst (λ o. SaysReason {A = A} {U = V} o (Err e))
      (sym (of_next option_or (λ ts. no_fun_reason (exprs_of_terms d part ts)) (λ ts. no_fun_reason (exprs_of_terms d part ts)) (λ t. no_fun_reason (expr_of_term d part t)) each_reason xs i x below is) ∙ so_far)
      (says_first {A = A} U V (no_fun_reason (expr_of_term d part (tree_of x))) (no_fun_reason (exprs_of_terms d part (trees_of (drop (i + 1) xs)))) e said)

  pub text_has_none : (ts : Trees) → true ≡ is_text ts → no_fun_reason (expr_of_term d part (list ts)) ≡ None
  text_has_none ts text = ap (λ b. no_fun_reason (if b then Ok (string_expr ts) else then_print (exprs_of_terms d part ts) (λ es. Ok (tree.list 0 es)))) (sym text)

  pub list_reason : (ts : Trees) → false ≡ is_text ts → no_fun_reason (expr_of_term d part (list ts)) ≡ no_fun_reason (exprs_of_terms d part ts)
  list_reason ts text =
      ap (λ b. no_fun_reason (if b then Ok (string_expr ts) else then_print (exprs_of_terms d part ts) (λ es. Ok (tree.list 0 es)))) (sym text) ∙ same_reason (exprs_of_terms d part ts) (tree.list 0)

  pub tuple_reason : (ts : Trees) → no_fun_reason (expr_of_term d part (tuple (more (tuple ts) none))) ≡ no_fun_reason (exprs_of_terms d part ts)
  tuple_reason ts = same_reason (exprs_of_terms d part ts) (tree.tuple 0)

  -- a name and terms, whose tree this is said to be
  abbrev pub named_reason : Name → Tree → Trees → Option NoFunReason
  named_reason s t ts =
      if bytes_eq s (codes "const") then no_fun_reason (const_printed t ts)
      else option_or (fun_call_reason (printed_call d part s (count ts)) s t ts (would_compute (computation_of (printed_call d part s (count ts)) (values_in_fun d part ts)))) (no_fun_reason (exprs_of_terms d part ts))

  pub named_has : (s : Name) (ts : Trees) → no_fun_reason (expr_of_term d part (tuple (more (atom s) ts))) ≡ named_reason s (tuple (more (atom s) ts)) ts
  named_has s ts =
      let t = tuple (more (atom s) ts) in
      let c = printed_call d part s (count ts) in
      let a = would_compute (computation_of c (values_in_fun d part ts)) in
      let is = bytes_eq s (codes "const") in
      reason_if is (const_printed t ts) (call_printed c s t ts a (exprs_of_terms d part ts))
      ∙ ap (λ o. if is then no_fun_reason (const_printed t ts) else o) (call_printed_reason c s t ts a (exprs_of_terms d part ts))

  -- a tuple of these terms, of which the first is a name
  pub named_tuple_says : {A U : Type 0} (xs : List (Term A)) (x : Term A) (s : Name) (t : Tree) (result : Result U (CheckFault A)) → 0 < length xs → x ≡ get_or xs 0 x → tree_of x ≡ atom s
      → t ≡ tuple (trees_of xs) → SaysReason (named_reason s t (trees_of (drop 1 xs))) result → SaysReason (no_fun_reason (expr_of_term d part (tuple (trees_of xs)))) result
  named_tuple_says xs x s t result some is e same said =
      let ts = trees_of (drop 1 xs) in
      let whole = first_is xs x (atom s) some is e in
      subst (λ us. SaysReason (no_fun_reason (expr_of_term d part (tuple us))) result) (sym whole)
      (subst (λ o. SaysReason o result) (sym (named_has s ts))
      (subst (λ u. SaysReason (named_reason s u ts) result) (same ∙ ap tuple whole) said))

  -- of which the only one is a tuple
  pub nested_says : {A U : Type 0} (xs ys : List (Term A)) (x : Term A) (result : Result U (CheckFault A)) → length xs ≡ 1 → x ≡ get_or xs 0 x → tree_of x ≡ tuple (trees_of ys)
      → SaysReason (no_fun_reason (exprs_of_terms d part (trees_of ys))) result → SaysReason (no_fun_reason (expr_of_term d part (tuple (trees_of xs)))) result
  nested_says xs ys x result one is e said =
      subst (λ o. SaysReason o result) (sym (ap (λ us. no_fun_reason (expr_of_term d part (tuple us))) (alone_is xs x (tuple (trees_of ys)) one is e) ∙ tuple_reason (trees_of ys))) said

  -- an operator between two operands, or before one
  pub between_says : {A U : Type 0} (s : Name) (t : Tree) (ts : Trees) (a : Bool) (o : FunOperator) (result : Result U (CheckFault A)) → prints_between o ≡ printed_call d part s (count ts)
      → SaysReason (computed_reason t a (have_list ts)) result → SaysReason (fun_call_reason (printed_call d part s (count ts)) s t ts a) result
  between_says s t ts a o result kind said = subst (λ c. SaysReason (fun_call_reason c s t ts a) result) kind said

  pub before_says : {A U : Type 0} (s : Name) (t : Tree) (ts : Trees) (a : Bool) (o : FunOperator) (result : Result U (CheckFault A)) → prints_before o ≡ printed_call d part s (count ts)
      → SaysReason (computed_reason t a (have_list ts)) result → SaysReason (fun_call_reason (printed_call d part s (count ts)) s t ts a) result
  before_says s t ts a o result kind said = subst (λ c. SaysReason (fun_call_reason c s t ts a) result) kind said

  -- a tuple that is none of a fun
  abbrev NoneOf : Trees → Type 0
  NoneOf ts = no_fun_reason (expr_of_term d part (tuple ts)) ≡ Some (no_such_call [] (count ts))

  with_count : {A : Type 0} (xs : List (Term A)) (n : ℕ) → n ≡ length xs → NoneOf (trees_of xs) → no_fun_reason (expr_of_term d part (tuple (trees_of xs))) ≡ Some (no_such_call [] n)
  with_count xs n counted so = so ∙ ap (λ m. Some (no_such_call [] m)) (count_seen tree_of xs ∙ sym counted)

  pub crowd_is_none : {A : Type 0} (xs ys : List (Term A)) (x : Term A) (n : ℕ) → 1 < length xs → x ≡ get_or xs 0 x → tree_of x ≡ tuple (trees_of ys) → n ≡ length xs
      → no_fun_reason (expr_of_term d part (tuple (trees_of xs))) ≡ Some (no_such_call [] n)
  crowd_is_none xs ys x n several is e counted = with_count xs n counted (crowd NoneOf (tuple (trees_of ys)) (λ u us. refl) xs x several is e)

  pub int_is_none : {A : Type 0} (xs : List (Term A)) (x : Term A) (z : ℤ) (n : ℕ) → 0 < length xs → x ≡ get_or xs 0 x → tree_of x ≡ int z → n ≡ length xs
      → no_fun_reason (expr_of_term d part (tuple (trees_of xs))) ≡ Some (no_such_call [] n)
  int_is_none xs x z n some is e counted = with_count xs n counted (subst NoneOf (sym (first_is xs x (int z) some is e)) refl)

  pub pid_is_none : {A : Type 0} (xs : List (Term A)) (x : Term A) (p n : ℕ) → 0 < length xs → x ≡ get_or xs 0 x → tree_of x ≡ pid p → n ≡ length xs
      → no_fun_reason (expr_of_term d part (tuple (trees_of xs))) ≡ Some (no_such_call [] n)
  pid_is_none xs x p n some is e counted = with_count xs n counted (subst NoneOf (sym (first_is xs x (pid p) some is e)) refl)

  pub list_is_none : {A : Type 0} (xs : List (Term A)) (x : Term A) (ts : Trees) (n : ℕ) → 0 < length xs → x ≡ get_or xs 0 x → tree_of x ≡ list ts → n ≡ length xs
      → no_fun_reason (expr_of_term d part (tuple (trees_of xs))) ≡ Some (no_such_call [] n)
  list_is_none xs x ts n some is e counted = with_count xs n counted (subst NoneOf (sym (first_is xs x (list ts) some is e)) refl)

  pub empty_is_none : {A : Type 0} (xs : List (Term A)) → length xs ≡ 0 → no_fun_reason (expr_of_term d part (tuple (trees_of xs))) ≡ Some (no_such_call [] 0)
  empty_is_none [] none_there = refl
  empty_is_none (x ∷ xs) none_there = absurd (omega (arith, none_there))
