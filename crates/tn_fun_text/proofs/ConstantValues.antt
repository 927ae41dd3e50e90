-- The values of terms that a fun would have as constants.
use Rattle.std.proofs.Common.{◌≡◌, ◌≢◌, ◌∙◌, ℕ, ◌+◌, ◌-◌, ◌<◌, ◌≤◌, Bool, true, false, not, ◌&&◌, ◌||◌, if◌then◌else◌, List, [], ◌∷◌, ◌++◌, length, get_or, drop, map, Option, Some, None, Result, Ok, Err, codes, refl, sym, ap, ap₂, append_assoc, append-nil, arith}
use Rattle.std.proofs.lemmas.List.{map-append}
use Rattle.std.specs.Result.{IfOk}
use Rattle.std.specs.Str.{bytes_eq}
use Rattle.def_term.specs.Tree.{Tree, int, atom, pid, tuple, list, Trees, more, count}
use Rattle.def_term.specs.Names.{Name}
use Rattle.def_spec.specs.Expressions.{Dialect, Position}
use Rattle.def_spec.specs.Reading.{AtomKind, a_variable, a_wrong_variable, a_plain_atom, is_wildcard}
use Rattle.def_fun.specs.Operators.{FunOperator}
use Rattle.def_fun.specs.Constants.{Computation, not_computed, gives, gives_too_large, computed_between, computed_before}
use Rattle.def_fun.specs.Translation.{begins_with_dollar, with_constant, constant_of, list_term}
use Rattle.def_fun.specs.FunTexts.{PrintedCall, prints_between, prints_before, prints_call, prints_nothing, printed_call, computation_of, is_text, have_list, value_in_fun, values_in_fun, value_of_atom, value_of_const, value_unless}
use Rattle.tn_term.specs.declared.term.Term.{Term}
use Rattle.tn_term.specs.Views.{tree_of, trees_of}
use Rattle.tn_term.proofs.Trees.{here, past}
use Rattle.tn_fun_text.proofs.Places.{counted}
use Rattle.tn_fun_text.specs.Values.{is_constant_kind, values_onto, value_computed}

-- ---- atoms

constant_if : (a b : Bool) (s : Name) → (not a && not b) ≡ true → (if a || b then None else Some (atom s)) ≡ Some (atom s)
constant_if false false s e = refl
constant_if false true s e = absurd (cc)
constant_if true b s e = absurd (cc)

none_if : (a b : Bool) (s : Name) → (not a && not b) ≡ false → ◌≡◌ {A = Option Tree} (if a || b then None else Some (atom s)) None
none_if false false s e = absurd (cc)
none_if false true s e = refl
none_if true b s e = refl

pub atom_constant : (s : Name) (k : AtomKind) → is_constant_kind s k ≡ true → value_of_atom s k ≡ Some (atom s)
atom_constant s (a_variable n) e = absurd (cc)
atom_constant s a_wrong_variable e = constant_if (is_wildcard s) (begins_with_dollar s) s e
atom_constant s a_plain_atom e = constant_if (is_wildcard s) (begins_with_dollar s) s e

pub atom_no_constant : (s : Name) (k : AtomKind) → is_constant_kind s k ≡ false → value_of_atom s k ≡ None
atom_no_constant s (a_variable n) e = refl
atom_no_constant s a_wrong_variable e = none_if (is_wildcard s) (begins_with_dollar s) s e
atom_no_constant s a_plain_atom e = none_if (is_wildcard s) (begins_with_dollar s) s e

-- ---- {const,A}

pub several_consts : (t u : Tree) (us : Trees) → value_of_const (more t (more u us)) ≡ None
several_consts (int z) u us = refl
several_consts (atom s) u us = refl
several_consts (pid n) u us = refl
several_consts (tuple ts) u us = refl
several_consts (list ts) u us = refl

-- ---- operators

pub before_value : {A : Type 0} (o : FunOperator) (vs : List (Term A)) (x : Term A) → length vs ≡ 1 → x ≡ get_or vs 0 x → computation_of (prints_before o) (Some (map tree_of vs)) ≡ computed_before o (tree_of x)
before_value o [] x one is = absurd (omega (arith, one))
before_value o (v ∷ []) x one is = ap (λ y. computed_before o (tree_of y)) (sym is)
before_value o (v ∷ u ∷ us) x one is = absurd (omega (arith, one))

pub before_none : {A : Type 0} (o : FunOperator) (vs : List (Term A)) → length vs ≢ 1 → computation_of (prints_before o) (Some (map tree_of vs)) ≡ not_computed
before_none o [] other = refl
before_none o (v ∷ []) other = absurd (other refl)
before_none o (v ∷ u ∷ us) other = refl

pub between_value : {A : Type 0} (o : FunOperator) (vs : List (Term A)) (x y : Term A) → length vs ≡ 2 → x ≡ get_or vs 0 x → y ≡ get_or vs 1 y → computation_of (prints_between o) (Some (map tree_of vs)) ≡ computed_between o (tree_of x) (tree_of y)
between_value o [] x y two is js = absurd (omega (arith, two))
between_value o (v ∷ []) x y two is js = absurd (omega (arith, two))
between_value o (v ∷ u ∷ []) x y two is js = ap₂ (λ a b. computed_between o (tree_of a) (tree_of b)) (sym is) (sym js)
between_value o (v ∷ u ∷ z ∷ zs) x y two is js = absurd (omega (arith, two))

pub between_none : {A : Type 0} (o : FunOperator) (vs : List (Term A)) → length vs ≢ 2 → computation_of (prints_between o) (Some (map tree_of vs)) ≡ not_computed
between_none o [] other = refl
between_none o (v ∷ []) other = refl
between_none o (v ∷ u ∷ []) other = absurd (other refl)
between_none o (v ∷ u ∷ z ∷ zs) other = refl

pub none_of_none : (c : PrintedCall) → computation_of c None ≡ not_computed
none_of_none (prints_between o) = refl
none_of_none (prints_before o) = refl
none_of_none prints_call = refl
none_of_none prints_nothing = refl

-- ---- values of a row

pub onto_none : (r : Option (List Tree)) → values_onto [] r ≡ r
onto_none None = refl
onto_none (Some us) = refl

onto_some : (vs : List Tree) (v : Tree) (r : Option (List Tree)) → values_onto vs (with_constant (Some v) r) ≡ values_onto (vs ++ v ∷ []) r
onto_some vs v None = refl
onto_some vs v (Some us) = ap Some (sym (append_assoc vs (v ∷ []) us))

computed_unless : (c : Computation) → value_unless false c ≡ value_computed c
computed_unless not_computed = refl
computed_unless (gives v) = refl
computed_unless gives_too_large = refl

module _ (d : Dialect) (part : Position) where
  -- the values so far before those of the terms from there on
  abbrev pub ValuesSo : {A : Type 0} → List (Term A) → ℕ → List (Term A) → Option (List Tree) → Type 0
  ValuesSo xs i done whole = values_onto (map tree_of done) (values_in_fun d part (trees_of (drop i xs))) ≡ whole

  row_here : {A : Type 0} (xs : List (Term A)) (i : ℕ) (x : Term A) → i < length xs → x ≡ get_or xs i x
      → values_in_fun d part (trees_of (drop i xs)) ≡ with_constant (value_in_fun d part (tree_of x)) (values_in_fun d part (trees_of (drop (i + 1) xs)))
  row_here xs i x below is = ap (values_in_fun d part) (here tree_of xs i x below is)

  pub value_next : {A : Type 0} (xs : List (Term A)) (i : ℕ) (x : Term A) (done new : List (Term A)) (y : Term A) (whole : Option (List Tree)) → i < length xs → x ≡ get_or xs i x
      → Some (tree_of y) ≡ value_in_fun d part (tree_of x) → new ≡ done ++ y ∷ [] → ValuesSo xs i done whole → ValuesSo xs (i + 1) new whole
  value_next xs i x done new y whole below is read pushed so_far =
      let rest = values_in_fun d part (trees_of (drop (i + 1) xs)) in
      ap (λ zs. values_onto zs rest) (ap (map tree_of) pushed ∙ map-append tree_of done (y ∷ []))
      ∙ sym (onto_some (map tree_of done) (tree_of y) rest)
      ∙ ap (values_onto (map tree_of done)) (ap (λ o. with_constant o rest) read ∙ sym (row_here xs i x below is)) ∙ so_far

  pub value_fails : {A : Type 0} (xs : List (Term A)) (i : ℕ) (x : Term A) (done : List (Term A)) (whole : Option (List Tree)) → i < length xs → x ≡ get_or xs i x
      → None ≡ value_in_fun d part (tree_of x) → ValuesSo xs i done whole → None ≡ whole
  value_fails xs i x done whole below is read so_far =
      let rest = values_in_fun d part (trees_of (drop (i + 1) xs)) in
      ap (λ o. values_onto (map tree_of done) (with_constant o rest)) read ∙ ap (values_onto (map tree_of done)) (sym (row_here xs i x below is)) ∙ so_far

  pub values_end : {A : Type 0} (xs : List (Term A)) (i : ℕ) (done : List (Term A)) (whole : Option (List Tree)) → length xs ≤ i → ValuesSo xs i done whole → Some (map tree_of done) ≡ whole
  values_end xs i done whole over so_far =
      ap Some (sym (append-nil (map tree_of done))) ∙ ap (values_onto (map tree_of done)) (sym (ap (values_in_fun d part) (past tree_of xs i over))) ∙ so_far

  pub text_value : (ts : Trees) → true ≡ is_text ts → None ≡ value_in_fun d part (list ts)
  text_value ts text = ap (λ b. if b then None else constant_of list_term (values_in_fun d part ts)) text

  pub list_value : (ts : Trees) (vs : Option (List Tree)) → false ≡ is_text ts → vs ≡ values_in_fun d part ts → constant_of list_term vs ≡ value_in_fun d part (list ts)
  list_value ts vs text read = ap (constant_of list_term) read ∙ ap (λ b. if b then None else constant_of list_term (values_in_fun d part ts)) text

  -- what is computed of the values of a call
  pub computation_is : {A : Type 0} (xs : List (Term A)) (s u : Name) (n : ℕ) (c : PrintedCall) (vs : Option (List Tree)) → c ≡ printed_call d part u n → u ≡ s → n ≡ length xs - 1 → vs ≡ values_in_fun d part (trees_of (drop 1 xs))
      → computation_of c vs ≡ computation_of (printed_call d part s (count (trees_of (drop 1 xs)))) (values_in_fun d part (trees_of (drop 1 xs)))
  computation_is xs s u n c vs kind same some values = ap₂ computation_of (kind ∙ ap₂ (printed_call d part) same (counted xs n some)) values

  -- of a tuple of a name and these terms
  module _ (s : Name) (ts : Trees) where
    abbrev pub computation_in : Computation
    computation_in = computation_of (printed_call d part s (count ts)) (values_in_fun d part ts)

    abbrev value_if : Bool → Option Tree
    value_if b = if b then value_of_const ts else value_unless (have_list ts) computation_in

    pub const_value : bytes_eq s (codes "const") ≡ true → value_of_const ts ≡ value_in_fun d part (tuple (more (atom s) ts))
    const_value is = ap value_if (sym is)

    pub kept_value : bytes_eq s (codes "const") ≡ false → true ≡ have_list ts → None ≡ value_in_fun d part (tuple (more (atom s) ts))
    kept_value is keeps = ap (λ b. value_unless b computation_in) keeps ∙ ap value_if (sym is)

    pub computed_value : bytes_eq s (codes "const") ≡ false → false ≡ have_list ts → (c : Computation) → c ≡ computation_in → value_computed c ≡ value_in_fun d part (tuple (more (atom s) ts))
    computed_value is keeps c same = ap value_computed same ∙ sym (computed_unless computation_in) ∙ ap (λ b. value_unless b computation_in) keeps ∙ ap value_if (sym is)

  pub several_in_tuple : (ts us : Trees) (u : Tree) → value_in_fun d part (tuple (more (tuple ts) (more u us))) ≡ None
  several_in_tuple ts us u = refl

-- ---- what a call answers

-- the same value under another name
pub as_value : {T E : Type 0} (r : Result T E) (f : T → Option Tree) (o p : Option Tree) → o ≡ p → IfOk r (λ v. f v ≡ o) → IfOk r (λ v. f v ≡ p)
as_value (Ok v) f o p same said = said ∙ same
as_value (Err e) f o p same said = tt

pub empty_tuple_value : {A : Type 0} (d : Dialect) (part : Position) (xs : List (Term A)) → length xs ≡ 0 → None ≡ value_in_fun d part (tuple (trees_of xs))
empty_tuple_value d part [] none_there = refl
empty_tuple_value d part (x ∷ xs) none_there = absurd (omega (arith, none_there))
