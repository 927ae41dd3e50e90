-- What is written of expressions, and what a name is printed as.
use Rattle.std.proofs.Common.{◌≡◌, ◌≢◌, ◌∙◌, ℕ, ◌+◌, ◌<◌, ◌==◌, Bool, true, false, not, ◌&&◌, if◌then◌else◌, List, [], ◌∷◌, ◌++◌, length, get_or, drop, Option, Some, None, codes, refl, sym, ap, ap₂, append_assoc, append-nil, eqb-true, arith}
use Rattle.std.specs.Prelude.{ℤ}
use Rattle.std.specs.Str.{bytes_eq}
use Rattle.def_term.specs.Tree.{Tree, int, atom, pid, tuple, list, Trees, none, more, count}
use Rattle.def_term.specs.Names.{Name}
use Rattle.def_spec.specs.Expressions.{Dialect, Position, in_condition}
use Rattle.def_fun.specs.Operators.{FunOperator, operator_name, operator_binding, left_level, right_level, PREFIX_LEVEL}
use Rattle.def_fun.specs.FunTexts.{is_text, has_list, PrintedCall, prints_between, prints_before, prints_call, prints_nothing, operator_named, infix_operators, prefix_operators, between_or, before_or, printed_call}
use Rattle.def_fun.specs.Calls.{may_call}
use Rattle.tn_term.specs.declared.term.Term.{Term}
use Rattle.tn_term.specs.Views.{tree_of, trees_of}
use Rattle.tn_fun_text.specs.Texts.{only_if, with_ends, fun_string_text, const_text, list_text, fun_call_text, computes_with, fun_expr_text, first_text, second_text, items_text, conditions_text}
use Rattle.tn_fun_text.proofs.Loops.{next_written}
use Rattle.tn_fun_text.proofs.Places.{first_is, alone_is, two_are, second_is, crowd}

-- ---- nothing is written

pub nothing_written : (o u : List ℕ) → u ≡ [] → o ≡ o ++ u
nothing_written o u empty = sym (append-nil o) ∙ ap (λ v. o ++ v) (sym empty)

-- ---- {const,A}

pub several_consts_text : (t u : Tree) (us : Trees) → const_text (more t (more u us)) ≡ []
several_consts_text (int z) u us = refl
several_consts_text (atom s) u us = refl
several_consts_text (pid n) u us = refl
several_consts_text (tuple ts) u us = refl
several_consts_text (list ts) u us = refl

-- anything but an atom
pub no_const_text : {A : Type 0} (o : List ℕ) (xs : List (Term A)) (x : Term A) (t : Tree) → length xs ≡ 2 → x ≡ get_or xs 1 x → tree_of x ≡ t → const_text (more t none) ≡ [] → o ≡ o ++ const_text (trees_of (drop 1 xs))
no_const_text o xs x t two is e empty = nothing_written o (const_text (trees_of (drop 1 xs))) (ap const_text (second_is xs x t two is e) ∙ empty)

-- ---- lists

pub some_list : {A : Type 0} (k : Bool) (xs : List (Term A)) (u : List ℕ) → length xs ≢ 0 → codes "[" ++ u ++ only_if k (codes "|\"\"") ++ codes "]" ≡ list_text k (trees_of xs) u
some_list k [] u some = absurd (some refl)
some_list true (x ∷ xs) u some = refl
some_list false (x ∷ xs) u some = refl

-- ---- what a name is printed as

before_is_none : (o : Option FunOperator) (b : Bool) (p : FunOperator) → before_or o (if b then prints_call else prints_nothing) ≡ prints_between p → ⊥
before_is_none (Some o) b p e = cc
before_is_none None true p e = cc
before_is_none None false p e = cc

between_is_none : (o : Option FunOperator) (b : Bool) (p : FunOperator) → between_or o (if b then prints_call else prints_nothing) ≡ prints_before p → ⊥
between_is_none (Some o) b p e = cc
between_is_none None true p e = cc
between_is_none None false p e = cc

call_is_none : (b : Bool) (p : FunOperator) → (if b then prints_call else prints_nothing) ≡ prints_between p → ⊥
call_is_none true p e = cc
call_is_none false p e = cc

call_is_no_prefix : (b : Bool) (p : FunOperator) → (if b then prints_call else prints_nothing) ≡ prints_before p → ⊥
call_is_no_prefix true p e = cc
call_is_no_prefix false p e = cc

abbrev printed_by : Bool → Bool → Option FunOperator → Option FunOperator → Bool → PrintedCall
printed_by a b i j m = if a then between_or i (if m then prints_call else prints_nothing) else (if b then before_or j (if m then prints_call else prints_nothing) else (if m then prints_call else prints_nothing))

two_by : (n : ℕ) (a b : Bool) (i j : Option FunOperator) (m : Bool) (p : FunOperator) → (a ≡ true → n ≡ 2) → printed_by a b i j m ≡ prints_between p → n ≡ 2
two_by n true b i j m p two e = two refl
two_by n false true i j m p two e = absurd (before_is_none j m p e)
two_by n false false i j m p two e = absurd (call_is_none m p e)

one_by : (n : ℕ) (a b : Bool) (i j : Option FunOperator) (m : Bool) (p : FunOperator) → (b ≡ true → n ≡ 1) → printed_by a b i j m ≡ prints_before p → n ≡ 1
one_by n true b i j m p one e = absurd (between_is_none i m p e)
one_by n false true i j m p one e = one refl
one_by n false false i j m p one e = absurd (call_is_no_prefix m p e)

pub between_has_two : (d : Dialect) (part : Position) (s : Name) (n : ℕ) (p : FunOperator) → printed_call d part s n ≡ prints_between p → n ≡ 2
between_has_two d part s n p e = two_by n (n == 2) (n == 1) (operator_named infix_operators s) (operator_named prefix_operators s) (may_call d part s n) p (λ h. eqb-true n 2 h) e

pub before_has_one : (d : Dialect) (part : Position) (s : Name) (n : ℕ) (p : FunOperator) → printed_call d part s n ≡ prints_before p → n ≡ 1
before_has_one d part s n p e = one_by n (n == 2) (n == 1) (operator_named infix_operators s) (operator_named prefix_operators s) (may_call d part s n) p (λ h. eqb-true n 1 h) e

-- ---- expressions

kept_later : (k h : Bool) → (k && not h) ≡ (k && not (k && h))
kept_later true h = refl
kept_later false h = refl

module _ (d : Dialect) (part : Position) where
  -- one more of several
  pub item_next : {A : Type 0} (xs : List (Term A)) (i : ℕ) (x : Term A) (k here later : Bool) (s a b e z : List ℕ) → i < length xs → x ≡ get_or xs i x
      → here ≡ (k && has_list (tree_of x)) → later ≡ (k && not here) → a ++ items_text d part s k (trees_of (drop i xs)) ≡ z → b ≡ a ++ s → e ≡ b ++ fun_expr_text d part 0 here (tree_of x)
      → e ++ items_text d part (codes ", ") later (trees_of (drop (i + 1) xs)) ≡ z
  item_next xs i x k here later s a b e z below is here_is later_is so_far between text =
      next_written (items_text d part s k) (items_text d part (codes ", ") later) xs i x s (fun_expr_text d part 0 here (tree_of x)) a b e z
      (λ ts. ap₂ (λ h l. s ++ fun_expr_text d part 0 h (tree_of x) ++ items_text d part (codes ", ") l ts) (sym here_is) (kept_later k (has_list (tree_of x)) ∙ ap (λ h. k && not h) (sym here_is) ∙ sym later_is))
      below is so_far between text

  pub string_text_of : (n : ℕ) (k : Bool) (ts : Trees) → true ≡ is_text ts → fun_string_text ts ≡ fun_expr_text d part n k (list ts)
  string_text_of n k ts text = ap (λ b. if b then fun_string_text ts else list_text k ts (items_text d part [] false ts)) text

  pub list_text_of : (n : ℕ) (k : Bool) (ts : Trees) → false ≡ is_text ts → list_text k ts (items_text d part [] false ts) ≡ fun_expr_text d part n k (list ts)
  list_text_of n k ts text = ap (λ b. if b then fun_string_text ts else list_text k ts (items_text d part [] false ts)) text

  module _ (n : ℕ) (k : Bool) where
    pub nested_text : {A : Type 0} (xs ys : List (Term A)) (x : Term A) → length xs ≡ 1 → x ≡ get_or xs 0 x → tree_of x ≡ tuple (trees_of ys)
        → with_ends (codes "{") (items_text d part [] k (trees_of ys)) (codes "}") ≡ fun_expr_text d part n k (tuple (trees_of xs))
    nested_text xs ys x one is e = sym (ap (λ ts. fun_expr_text d part n k (tuple ts)) (alone_is xs x (tuple (trees_of ys)) one is e))

    pub crowd_text : {A : Type 0} (xs ys : List (Term A)) (x : Term A) → 1 < length xs → x ≡ get_or xs 0 x → tree_of x ≡ tuple (trees_of ys) → fun_expr_text d part n k (tuple (trees_of xs)) ≡ []
    crowd_text xs ys x several is e = crowd (λ ts. fun_expr_text d part n k (tuple ts) ≡ []) (tuple (trees_of ys)) (λ u us. refl) xs x several is e

    pub named_text : {A : Type 0} (xs : List (Term A)) (x : Term A) (s : Name) → 0 < length xs → x ≡ get_or xs 0 x → tree_of x ≡ atom s
        → fun_expr_text d part n false (tuple (more (atom s) (trees_of (drop 1 xs)))) ≡ fun_expr_text d part n k (tuple (trees_of xs))
    named_text xs x s some is e = sym (ap (λ ts. fun_expr_text d part n k (tuple ts)) (first_is xs x (atom s) some is e))

    pub int_text : {A : Type 0} (xs : List (Term A)) (x : Term A) (z : ℤ) → 0 < length xs → x ≡ get_or xs 0 x → tree_of x ≡ int z → fun_expr_text d part n k (tuple (trees_of xs)) ≡ []
    int_text xs x z some is e = ap (λ ts. fun_expr_text d part n k (tuple ts)) (first_is xs x (int z) some is e)

    pub pid_text : {A : Type 0} (xs : List (Term A)) (x : Term A) (p : ℕ) → 0 < length xs → x ≡ get_or xs 0 x → tree_of x ≡ pid p → fun_expr_text d part n k (tuple (trees_of xs)) ≡ []
    pid_text xs x p some is e = ap (λ ts. fun_expr_text d part n k (tuple ts)) (first_is xs x (pid p) some is e)

    pub list_tuple_text : {A : Type 0} (xs : List (Term A)) (x : Term A) (us : Trees) → 0 < length xs → x ≡ get_or xs 0 x → tree_of x ≡ list us → fun_expr_text d part n k (tuple (trees_of xs)) ≡ []
    list_tuple_text xs x us some is e = ap (λ ts. fun_expr_text d part n k (tuple ts)) (first_is xs x (list us) some is e)

  -- ---- a name and terms

  module _ (n : ℕ) (s : Name) (ts : Trees) where
    abbrev called_in : Bool → PrintedCall → Bool → List ℕ
    called_in b c k = if b then const_text ts else fun_call_text c n s (λ m. first_text d part m k ts) (λ m. second_text d part m k ts) (items_text d part [] false ts)

    pub const_text_of : bytes_eq s (codes "const") ≡ true → const_text ts ≡ fun_expr_text d part n false (tuple (more (atom s) ts))
    const_text_of is = ap (λ b. called_in b (printed_call d part s (count ts)) (computes_with d part s ts)) (sym is)

    pub call_text_of : bytes_eq s (codes "const") ≡ false → (c : PrintedCall) (m : ℕ) (k : Bool) → c ≡ printed_call d part s m → m ≡ count ts → k ≡ computes_with d part s ts
        → called_in false c k ≡ fun_expr_text d part n false (tuple (more (atom s) ts))
    call_text_of is c m k kind counted computes =
        ap₂ (λ p l. called_in false p l) (kind ∙ ap (printed_call d part s) counted) computes ∙ ap (λ b. called_in b (printed_call d part s (count ts)) (computes_with d part s ts)) (sym is)

  -- ---- operators

  regroup : (o p u s m r v q : List ℕ) → ((((((o ++ p) ++ u) ++ s) ++ m) ++ r) ++ v) ++ q ≡ o ++ (p ++ (u ++ s ++ m ++ r ++ v) ++ q)
  regroup o p u s m r v q = simp append_assoc

  pub between_written : {A : Type 0} (xs : List (Term A)) (x y : Term A) (n : ℕ) (op : FunOperator) (k l later r b : Bool) (o a1 a2 a3 a4 a5 a6 : List ℕ) → length xs ≡ 3 → x ≡ get_or xs 1 x → y ≡ get_or xs 2 y
      → l ≡ (k && has_list (tree_of x)) → later ≡ (k && not l) → r ≡ (later && has_list (tree_of y))
      → a1 ≡ o ++ only_if b (codes "(") → a2 ≡ a1 ++ fun_expr_text d part (left_level (operator_binding op)) l (tree_of x) → a3 ≡ a2 ++ codes " " → a4 ≡ a3 ++ operator_name op → a5 ≡ a4 ++ codes " "
      → a6 ≡ a5 ++ fun_expr_text d part (right_level (operator_binding op)) r (tree_of y)
      → a6 ++ only_if b (codes ")") ≡ o ++ (only_if b (codes "(") ++ (first_text d part (left_level (operator_binding op)) k (trees_of (drop 1 xs)) ++ codes " " ++ operator_name op ++ codes " " ++ second_text d part (right_level (operator_binding op)) k (trees_of (drop 1 xs))) ++ only_if b (codes ")"))
  between_written xs x y n op k l later r b o a1 a2 a3 a4 a5 a6 three is js left after right e1 e2 e3 e4 e5 e6 =
      let ll = left_level (operator_binding op) in
      let rl = right_level (operator_binding op) in
      let parts = two_are xs x y three is js in
      let first = ap (λ h. fun_expr_text d part ll h (tree_of x)) left ∙ sym (ap (first_text d part ll k) parts) in
      let right_is = right ∙ ap (λ h. h && has_list (tree_of y)) (after ∙ ap (λ h. k && not h) left ∙ sym (kept_later k (has_list (tree_of x)))) in
      let second = ap (λ h. fun_expr_text d part rl h (tree_of y)) right_is ∙ sym (ap (second_text d part rl k) parts) in
      ap (λ w. w ++ only_if b (codes ")"))
      (e6 ∙ ap₂ (λ w v. w ++ v) (e5 ∙ ap (λ w. w ++ codes " ") (e4 ∙ ap (λ w. w ++ operator_name op) (e3 ∙ ap (λ w. w ++ codes " ") (e2 ∙ ap₂ (λ w v. w ++ v) e1 first)))) second)
      ∙ regroup o (only_if b (codes "(")) (first_text d part ll k (trees_of (drop 1 xs))) (codes " ") (operator_name op) (codes " ") (second_text d part rl k (trees_of (drop 1 xs))) (only_if b (codes ")"))

  pub before_written : {A : Type 0} (xs : List (Term A)) (x : Term A) (k l : Bool) → length xs ≡ 2 → x ≡ get_or xs 1 x → l ≡ (k && has_list (tree_of x))
      → fun_expr_text d part PREFIX_LEVEL l (tree_of x) ≡ first_text d part PREFIX_LEVEL k (trees_of (drop 1 xs))
  before_written xs x k l two is left = ap (λ h. fun_expr_text d part PREFIX_LEVEL h (tree_of x)) left ∙ sym (ap (first_text d part PREFIX_LEVEL k) (second_is xs x (tree_of x) two is refl))

  pub empty_tuple_text : {A : Type 0} (n : ℕ) (k : Bool) (xs : List (Term A)) → length xs ≡ 0 → fun_expr_text d part n k (tuple (trees_of xs)) ≡ []
  empty_tuple_text n k [] none_there = refl
  empty_tuple_text n k (x ∷ xs) none_there = absurd (omega (arith, none_there))

  pub empty_list_text : {A : Type 0} (n : ℕ) (k : Bool) (xs : List (Term A)) → length xs ≡ 0 → fun_expr_text d part n k (list (trees_of xs)) ≡ list_text k none []
  empty_list_text n k [] none_there = refl
  empty_list_text n k (x ∷ xs) none_there = absurd (omega (arith, none_there))

-- ---- conditions

pub some_conditions : {A : Type 0} (d : Dialect) (xs : List (Term A)) → length xs ≢ 0 → codes " when " ++ items_text d in_condition [] false (trees_of xs) ≡ conditions_text d (trees_of xs)
some_conditions d [] some = absurd (some refl)
some_conditions d (x ∷ xs) some = refl
