-- The expression that a term is printed as is translated to that term.
use Rattle.std.proofs.Common.{◌≡◌, ℕ, suc, ◌+◌, ◌≤◌, ◌==◌, ℤ, pos, negsuc, nat_le, map, List, [], ◌∷◌, ◌++◌, length, Bool, true, false, not, ◌&&◌, ◌||◌, cond, Option, Some, None, Ok, Err, codes, decimal, refl, ap, ap₂, sym, ◌∙◌, subst, arith, append-nil}
use Rattle.std.specs.Option.{unwrap_or}
use Rattle.std.specs.Str.{bytes_eq}
use Rattle.std.proofs.lemmas.Bool.{and_parts, and_from, and_left, cond_both, cond-true, cond-false, leb-true, le-leb, ltb-true, eqb-true, both_ways}
use Rattle.std.proofs.lemmas.Bool.Decides.{nat_tests}
use Rattle.std.proofs.lemmas.Fmt.{length-decimal-le}
use Rattle.def_term.specs.Tree.{Tree, Trees, count, elements, of_elements, depth, greatest_depth}
use Rattle.def_term.specs.Tree as term
use Rattle.def_term.specs.Names.{Name, word}
use Rattle.def_term.specs.Text.{is_digit, is_name_byte, are_name_bytes, is_among}
use Rattle.def_text.specs.Grammar.{of_codes}
use Rattle.def_text.specs.Limits.{LIST_LENGTH, in_range, sizes_fit, all_sizes_fit}
use Rattle.def_text.specs.Tokens.{all_are, is_printable}
use Rattle.def_text.specs.Writable.{is_writable, are_writable}
use Rattle.def_spec.specs.Expressions.{Dialect, Position, Expr, Exprs}
use Rattle.def_spec.specs.Matching.{Pattern, occurs}
use Rattle.def_spec.specs.Reading.{badarg, AtomKind, a_variable, a_wrong_variable, a_plain_atom, atom_kind, is_wildcard, named_call, atom_expr_of_kind, is_constant, unsupported_names, expr_of, exprs_of}
use Rattle.def_fun.specs.Operators as op
use Rattle.def_fun.specs.Operators.{FunOperator, operator_name, operator_binding, level_of, left_level, right_level, PREFIX_LEVEL, is_infix, is_prefix}
use Rattle.def_fun.specs.Trees as tree
use Rattle.def_fun.specs.Trees.{FunExpr, FunExprs, each_expr, nesting_depth, greatest_nesting, joined_codes}
use Rattle.def_fun.specs.Tokens.{is_variable_name}
use Rattle.def_fun.specs.Grammar.{has_one, has_level, have_levels}
use Rattle.def_fun.specs.Limits.{GREATEST_INTEGER, is_sized, are_sized}
use Rattle.def_fun.specs.Refusals.{too_large_at, then_fun}
use Rattle.def_fun.specs.Variables.{ClauseNames, ANY, dollar_name, anything_there, of_number, variable_kind}
use Rattle.def_fun.specs.Constants.{Computation, not_computed, gives, gives_too_large, gives_any_truth, or_computed, truth_value, if_negation}
use Rattle.def_fun.specs.Calls.{may_call, is_object, is_bindings, a_call, named_fun_call}
use Rattle.def_fun.specs.Translation.{VARIABLES, variable_term, onto_tail, TranslatedExpr, no_constant, constant_as, begins_with_dollar, const_of, all_terms, with_constant, all_constants, constant_of, list_term, doubled_tuple, name_tuple, constants_onto, operator_translated, prefix_translated, computed_if_one, computed_if_two, call_translated, expr_translated, exprs_translated}
use Rattle.def_fun.specs.FunTexts.{OrReason, no_dollar_atom, no_other_const, no_such_call, is_computed, no_pid, then_print, numbered_variable, integer_expr, are_character_codes, character_code, is_text, string_expr, expr_level, in_level, first_changed, tuple_changed, with_string, with_string_in, infix_operators, prefix_operators, operator_named, PrintedCall, prints_between, prints_before, prints_call, prints_nothing, between_or, before_or, printed_call, would_compute, computation_of, value_unless, value_of_atom, has_list, have_list, value_in_fun, values_in_fun, operator_expr, operands_kept, atom_printed, const_printed, unless_computed, call_printed, expr_of_term, exprs_of_terms}
use Rattle.def_fun.proofs.NumberedNames.{same_name}
use Rattle.def_fun.proofs.OpenParts.{lower_level, level_bounds}
use Rattle.def_fun_printing.proofs.NumberAtoms.{number_digits, dollar_back}
use Rattle.def_fun_printing.proofs.CallNames.{plain_call}
use Rattle.def_fun_printing.proofs.Offsets.{unplaced, unplaced_each}
use Rattle.def_fun_printing.proofs.ExprTexts.{HasText, HaveText}
use Rattle.def_fun_printing.proofs.Results.{same_ok, no_ok, print_ok, read_ok, neither}

-- ---- results

-- ---- operators by their names

abbrev all_pass : (FunOperator → Bool) → List FunOperator → Bool
all_pass p [] = true
all_pass p (o ∷ os) = p o && all_pass p os

named_by : (p : FunOperator → Bool) (x : FunOperator) (os : List FunOperator) (s : Name) (o : FunOperator) (b : Bool) → bytes_eq (operator_name x) s ≡ b → p x ≡ true → cond b (Some x) (operator_named os s) ≡ Some o → (operator_named os s ≡ Some o → (operator_name o ≡ s) × (p o ≡ true)) → (operator_name o ≡ s) × (p o ≡ true)
named_by p x os s o true e q h later = let same : x ≡ o = cc in (ap operator_name (sym same) ∙ same_name (operator_name x) s e, ap p (sym same) ∙ q)
named_by p x os s o false e q h later = later h

may_by : (m : Bool) → cond m prints_call prints_nothing ≡ prints_call → m ≡ true
may_by true h = refl
may_by false h = absurd (let no : prints_nothing ≡ prints_call = h in cc)

named_is : (p : FunOperator → Bool) (os : List FunOperator) (s : Name) (o : FunOperator) → all_pass p os ≡ true → operator_named os s ≡ Some o → (operator_name o ≡ s) × (p o ≡ true)
named_is p [] s o all h = absurd (let no : None ≡ Some o = h in cc)
named_is p (x ∷ os) s o all h = let q = and_parts (p x) (all_pass p os) all in named_by p x os s o (bytes_eq (operator_name x) s) refl q.0 h (λ g. named_is p os s o q.1 g)

-- what is printed between two operands, or before one, and what is called
between_by : (a b : Bool) (x y : Option FunOperator) (m : Bool) (o : FunOperator) → cond a (between_or x (cond m prints_call prints_nothing)) (cond b (before_or y (cond m prints_call prints_nothing)) (cond m prints_call prints_nothing)) ≡ prints_between o → (a ≡ true) × (x ≡ Some o)
between_by true b (Some x) y m o h = (refl, let e : x ≡ o = cc in ap (λ z. Some z) e)
between_by true b None y true o h = absurd (let no : prints_call ≡ prints_between o = h in cc)
between_by true b None y false o h = absurd (let no : prints_nothing ≡ prints_between o = h in cc)
between_by false true x (Some y) m o h = absurd (let no : prints_before y ≡ prints_between o = h in cc)
between_by false true x None true o h = absurd (let no : prints_call ≡ prints_between o = h in cc)
between_by false true x None false o h = absurd (let no : prints_nothing ≡ prints_between o = h in cc)
between_by false false x y true o h = absurd (let no : prints_call ≡ prints_between o = h in cc)
between_by false false x y false o h = absurd (let no : prints_nothing ≡ prints_between o = h in cc)

before_parts : (a b : Bool) (x y : Option FunOperator) (m : Bool) (o : FunOperator) → cond a (between_or x (cond m prints_call prints_nothing)) (cond b (before_or y (cond m prints_call prints_nothing)) (cond m prints_call prints_nothing)) ≡ prints_before o → (b ≡ true) × (y ≡ Some o)
before_parts true b (Some x) y m o h = absurd (let no : prints_between x ≡ prints_before o = h in cc)
before_parts true b None y true o h = absurd (let no : prints_call ≡ prints_before o = h in cc)
before_parts true b None y false o h = absurd (let no : prints_nothing ≡ prints_before o = h in cc)
before_parts false true x (Some y) m o h = (refl, let e : y ≡ o = cc in ap (λ z. Some z) e)
before_parts false true x None true o h = absurd (let no : prints_call ≡ prints_before o = h in cc)
before_parts false true x None false o h = absurd (let no : prints_nothing ≡ prints_before o = h in cc)
before_parts false false x y true o h = absurd (let no : prints_call ≡ prints_before o = h in cc)
before_parts false false x y false o h = absurd (let no : prints_nothing ≡ prints_before o = h in cc)

call_by : (a b : Bool) (x y : Option FunOperator) (m : Bool) → cond a (between_or x (cond m prints_call prints_nothing)) (cond b (before_or y (cond m prints_call prints_nothing)) (cond m prints_call prints_nothing)) ≡ prints_call → m ≡ true
call_by true b (Some x) y m h = absurd (let no : prints_between x ≡ prints_call = h in cc)
call_by true b None y m h = may_by m h
call_by false true x (Some y) m h = absurd (let no : prints_before y ≡ prints_call = h in cc)
call_by false true x None m h = may_by m h
call_by false false x y m h = may_by m h

abbrev is_before : FunOperator → Bool
is_before o = is_prefix o && not (is_infix o)

-- ---- what is computed

unless_parts : (t : Tree) (b k : Bool) (r : OrReason FunExpr) (e : FunExpr) → unless_computed t b k r ≡ Ok e → (r ≡ Ok e) × (b ≡ true → k ≡ true)
unless_parts t true true r e h = (h, λ x. refl)
unless_parts t true false r e h = absurd (no_ok (is_computed t) e h)
unless_parts t false k r e h = (h, λ x. absurd (let no : false ≡ true = x in cc))

not_by : (c : Computation) → would_compute c ≡ false → c ≡ not_computed
not_by not_computed h = refl
not_by (gives v) h = absurd (let no : true ≡ false = h in cc)
not_by gives_too_large h = absurd (let no : true ≡ false = h in cc)

-- the constants of a row
abbrev pub all_of : List (Option Tree) → Option (List Tree)
all_of [] = Some []
all_of (c ∷ cs) = with_constant c (all_of cs)

no_constant_of : (c : Option Tree) → with_constant c None ≡ None
no_constant_of None = refl
no_constant_of (Some v) = refl

onto_none : (o : Option (List Tree)) → constants_onto o None ≡ None
onto_none None = refl
onto_none (Some vs) = refl

two_computed : (o : FunOperator) (c k : Option Tree) → computation_of (prints_between o) (with_constant c (with_constant k (Some []))) ≡ computed_if_two o c k
two_computed o None k = refl
two_computed o (Some v) None = refl
two_computed o (Some v) (Some u) = refl

one_computed : (o : FunOperator) (c : Option Tree) → computation_of (prints_before o) (with_constant c (Some [])) ≡ computed_if_one o c
one_computed o None = refl
one_computed o (Some v) = refl

none_computed : (p : PrintedCall) → computation_of p None ≡ not_computed
none_computed (prints_between o) = refl
none_computed (prints_before o) = refl
none_computed prints_call = refl
none_computed prints_nothing = refl

call_computed : (o : Option (List Tree)) → computation_of prints_call o ≡ not_computed
call_computed o = refl

unless_not : (b : Bool) → value_unless b not_computed ≡ None
unless_not true = refl
unless_not false = refl

unless_kept : (c : Computation) → value_unless true c ≡ None
unless_kept not_computed = refl
unless_kept (gives v) = refl
unless_kept gives_too_large = refl

abbrev made : Tree → Option Tree → TranslatedExpr
made t c = record { becomes = t; constant = c }

elements_counted : (ts : List Tree) → length ts ≡ count (of_elements ts)
elements_counted [] = refl
elements_counted (t ∷ ts) = let later = elements_counted ts in omega (arith, later)

-- ---- variables

digit_name : (d : ℕ) → is_digit d ≡ true → is_name_byte d ≡ true
digit_name d h = grind (arith, nat_tests)

name_bytes : (ds : List ℕ) → all_are is_digit ds ≡ true → are_name_bytes ds ≡ true
name_bytes [] h = refl
name_bytes (d ∷ ds) h = let p = and_parts (is_digit d) (all_are is_digit ds) h in and_from (is_name_byte d) (are_name_bytes ds) (digit_name d p.0) (name_bytes ds p.1)

pub number_name : (k : ℕ) → k ≤ 999 → is_variable_name (codes "X" ++ decimal k) ≡ true
number_name k h = name_bytes (decimal k) (number_digits k (omega (arith, h))).all

pub number_sized : (k : ℕ) → k ≤ 999 → nat_le (length (codes "X" ++ decimal k)) 255 ≡ true
number_sized k h = le-leb (length (codes "X" ++ decimal k)) 255 (let few = length-decimal-le 3 k (omega arith) (omega (arith, h)) (omega (arith, h)) in omega (arith, few))

-- ---- strings

characters_back : (ts : Trees) → are_character_codes ts ≡ true → of_codes (map character_code (elements ts)) ≡ ts
characters_back term.none h = refl
characters_back (term.more (term.int (pos c)) ts) h = ap (term.more (term.int (pos c))) (characters_back ts (and_parts (is_printable c) (are_character_codes ts) h).1)
characters_back (term.more (term.int (negsuc c)) ts) h = absurd (let no : false ≡ true = h in cc)
characters_back (term.more (term.atom s) ts) h = absurd (let no : false ≡ true = h in cc)
characters_back (term.more (term.pid n) ts) h = absurd (let no : false ≡ true = h in cc)
characters_back (term.more (term.tuple us) ts) h = absurd (let no : false ≡ true = h in cc)
characters_back (term.more (term.list us) ts) h = absurd (let no : false ≡ true = h in cc)

characters_printable : (ts : Trees) → are_character_codes ts ≡ true → all_are is_printable (map character_code (elements ts)) ≡ true
characters_printable term.none h = refl
characters_printable (term.more (term.int (pos c)) ts) h = let p = and_parts (is_printable c) (are_character_codes ts) h in and_from (is_printable c) (all_are is_printable (map character_code (elements ts))) p.0 (characters_printable ts p.1)
characters_printable (term.more (term.int (negsuc c)) ts) h = absurd (let no : false ≡ true = h in cc)
characters_printable (term.more (term.atom s) ts) h = absurd (let no : false ≡ true = h in cc)
characters_printable (term.more (term.pid n) ts) h = absurd (let no : false ≡ true = h in cc)
characters_printable (term.more (term.tuple us) ts) h = absurd (let no : false ≡ true = h in cc)
characters_printable (term.more (term.list us) ts) h = absurd (let no : false ≡ true = h in cc)

characters_counted : (ts : Trees) → length (map character_code (elements ts)) ≡ count ts
characters_counted term.none = refl
characters_counted (term.more t ts) = let later = characters_counted ts in omega (arith, later)

text_characters : (ts : Trees) → is_text ts ≡ true → are_character_codes ts ≡ true
text_characters term.none h = absurd (let no : false ≡ true = h in cc)
text_characters (term.more t ts) h = h

-- what a string that is printed is
pub record IsTextBack (ts : Trees) : Type 0 where
  pub codes_are : of_codes (map character_code (elements ts)) ≡ ts
  pub printable : all_are is_printable (map character_code (elements ts)) ≡ true
  pub sized : nat_le (length (map character_code (elements ts))) LIST_LENGTH ≡ true

pub text_back : (ts : Trees) → is_text ts ≡ true → nat_le (count ts) LIST_LENGTH ≡ true → IsTextBack ts
text_back ts h size =
    let c = text_characters ts h in
    record { codes_are = characters_back ts c; printable = characters_printable ts c; sized = ap (λ n. nat_le n LIST_LENGTH) (characters_counted ts) ∙ size }

-- ---- levels

level_at : (n m : ℕ) (e : FunExpr) → nat_le n m ≡ true → has_level m e ≡ true → has_level n e ≡ true
level_at n m e h l = lower_level n m e (leb-true n m h) l

module _ (d : Dialect) (part : Position) (ns : ClauseNames) where
  -- an expression that is translated to the term, with that constant; it may stand where its level says
  pub record IsBack (t : Tree) (e : FunExpr) (c : Option Tree) : Type 0 where
    pub text : HasText e
    pub bare : unplaced e ≡ e
    pub level : has_level (expr_level e) e ≡ true
    pub least : 1 ≤ expr_level e
    pub sized : is_sized e ≡ true
    pub deep : nesting_depth e ≤ depth t + depth t + 1
    pub back : expr_translated d part ns e ≡ Ok (record { becomes = t; constant = c })

  -- so of each
  abbrev pub AreBack : Trees → FunExprs → List (Option Tree) → Type 0
  AreBack term.none fs cs = (fs ≡ tree.none) × (cs ≡ [])
  AreBack (term.more t ts) fs cs = (e : FunExpr) × (es : FunExprs) × (c : Option Tree) × (ks : List (Option Tree)) × (fs ≡ tree.more e es) × (cs ≡ c ∷ ks) × IsBack t e c × AreBack ts es ks

  -- what follows for all of them
  pub record RowBack (ts : Trees) (fs : FunExprs) (cs : List (Option Tree)) : Type 0 where
    pub text : HaveText fs
    pub bare : unplaced_each fs ≡ fs
    pub levels : have_levels fs ≡ true
    pub sized : are_sized fs ≡ true
    pub deep : greatest_nesting fs ≤ greatest_depth ts + greatest_depth ts + 1
    pub counted : length (each_expr fs) ≡ count ts
    pub all : List TranslatedExpr
    pub back : exprs_translated d part ns fs ≡ Ok all
    pub terms : of_elements (all_terms all) ≡ ts
    pub constants : all_constants all ≡ all_of cs

  pub row_back : (ts : Trees) (fs : FunExprs) (cs : List (Option Tree)) → AreBack ts fs cs → RowBack ts fs cs
  row_back term.none fs cs h =
      subst (λ es. RowBack term.none es cs) (sym h.0) (subst (λ ks. RowBack term.none tree.none ks) (sym h.1) (record { text = tt; bare = refl; levels = refl; sized = refl; deep = omega arith; counted = refl; all = []; back = refl; terms = refl; constants = refl }))
  row_back (term.more t ts) fs cs h =
      let e = h.0 in
      let es = h.1 in
      let p = h.6 in
      let r = row_back ts es h.3 h.7 in
      let deep = p.deep in
      let more_deep = r.deep in
      let counted = r.counted in
      let first : has_level 1 e ≡ true = lower_level 1 (expr_level e) e p.least p.level in
      subst (λ gs. RowBack (term.more t ts) gs cs) (sym h.4)
      (subst (λ ks. RowBack (term.more t ts) (tree.more e es) ks) (sym h.5)
      (record {
        text = (p.text, r.text);
        bare = ap₂ tree.more p.bare r.bare;
        levels = and_from (has_level 1 e) (have_levels es) first r.levels;
        sized = and_from (is_sized e) (are_sized es) p.sized r.sized;
        deep = omega (arith, deep, more_deep);
        counted = omega (arith, counted);
        all = record { becomes = t; constant = h.2 } ∷ r.all;
        back = ap (λ z. then_fun z (λ x. then_fun (exprs_translated d part ns es) (λ xs. Ok (x ∷ xs)))) p.back ∙ ap (λ z. then_fun z (λ xs. Ok (record { becomes = t; constant = h.2 } ∷ xs))) r.back;
        terms = ap (term.more t) r.terms;
        constants = ap (with_constant h.2) r.constants;
      }))

  -- ---- leaves

  int_back : (z : ℤ) → in_range z ≡ true → IsBack (term.int z) (integer_expr (term.int z)) (Some (term.int z))
  int_back (pos n) h =
      let small = ltb-true n 9223372036854775808 h in
      record { text = omega (arith, small); bare = refl; level = refl; least = omega arith; sized = le-leb n GREATEST_INTEGER (omega (arith, small)); deep = omega arith; back = refl }
  int_back (negsuc n) h =
      let small = ltb-true n 9223372036854775808 h in
      record {
        text = omega (arith, small);
        bare = refl;
        level = refl;
        least = omega arith;
        sized = le-leb (suc n) (GREATEST_INTEGER + 1) (omega (arith, small));
        deep = omega arith;
        back = ap (λ b. prefix_translated 0 op.minus (term.int (pos (suc n))) (or_computed (cond b (gives (term.int (negsuc n))) gives_too_large) (gives_any_truth (if_negation op.minus (truth_value (term.int (pos (suc n)))))))) h;
      }

  number_back : (k : ℕ) → k ≤ 999 → variable_kind ns (codes "X" ++ decimal k) ≡ of_number k → IsBack (term.atom (dollar_name k)) (numbered_variable k) None
  number_back k h kind = record {
    text = number_name k h;
    bare = refl;
    level = refl;
    least = omega arith;
    sized = number_sized k h;
    deep = omega arith;
    back =
        ap (λ v. then_fun (variable_term (codes "X" ++ decimal k) 0 v) (λ t. Ok (no_constant t))) kind
        ∙ ap (λ b. then_fun (cond b (Ok (term.atom (dollar_name k))) (Err (too_large_at 0))) (λ t. Ok (no_constant t))) (le-leb k VARIABLES h);
  }

  any_back : variable_kind ns ANY ≡ anything_there → IsBack (word "_") (tree.variable 0 ANY) None
  any_back kind = record { text = refl; bare = refl; level = refl; least = omega arith; sized = refl; deep = omega arith; back = ap (λ v. then_fun (variable_term ANY 0 v) (λ t. Ok (no_constant t))) kind }

  object_back : IsBack (word "$_") (tree.call 0 (codes "object") tree.none) None
  object_back = record { text = (refl, tt); bare = refl; level = refl; least = omega arith; sized = refl; deep = omega arith; back = refl }

  bindings_back : IsBack (word "$*") (tree.call 0 (codes "bindings") tree.none) None
  bindings_back = record { text = (refl, tt); bare = refl; level = refl; least = omega arith; sized = refl; deep = omega arith; back = refl }

  atom_back : (s : Name) → all_are is_printable s ≡ true → nat_le (length s) 255 ≡ true → begins_with_dollar s ≡ false → IsBack (term.atom s) (tree.atom 0 s) (Some (term.atom s))
  atom_back s h size plain = record { text = h; bare = refl; level = refl; least = omega arith; sized = size; deep = omega arith; back = ap (λ t. Ok (constant_as t (term.atom s))) (cond-false (begins_with_dollar s) _ _ plain) }

  const_back : (s : Name) → all_are is_printable s ≡ true → nat_le (length s) 255 ≡ true → begins_with_dollar s ≡ true → IsBack (const_of (term.atom s)) (tree.atom 0 s) (Some (term.atom s))
  const_back s h size dollar = record { text = h; bare = refl; level = refl; least = omega arith; sized = size; deep = omega arith; back = ap (λ t. Ok (constant_as t (term.atom s))) (cond-true (begins_with_dollar s) _ _ dollar) }

  string_back : (ts : Trees) → is_text ts ≡ true → nat_le (count ts) LIST_LENGTH ≡ true → IsBack (term.list ts) (string_expr ts) None
  string_back ts h size =
      let s = text_back ts h size in
      record { text = (s.printable, refl); bare = refl; level = refl; least = omega arith; sized = s.sized; deep = omega arith; back = ap (λ us. Ok (no_constant (term.list us))) s.codes_are }

  -- ---- lists, tuples and calls

  list_back : (ts : Trees) (fs : FunExprs) (cs : List (Option Tree)) → nat_le (count ts) LIST_LENGTH ≡ true → RowBack ts fs cs → IsBack (term.list ts) (tree.list 0 fs) (constant_of list_term (all_of cs))
  list_back ts fs cs size r =
      let deep = r.deep in
      record {
        text = r.text;
        bare = ap (tree.list 0) r.bare;
        level = r.levels;
        least = omega arith;
        sized = and_from (nat_le (length (each_expr fs)) LIST_LENGTH) (are_sized fs) (ap (λ n. nat_le n LIST_LENGTH) r.counted ∙ size) r.sized;
        deep = omega (arith, deep);
        back =
            ap (λ z. then_fun z (λ xs. Ok (record { becomes = list_term (all_terms xs); constant = constant_of list_term (all_constants xs) }))) r.back
            ∙ ap₂ (λ us vs. Ok (made (term.list us) (constant_of list_term vs))) r.terms r.constants;
      }

  -- a list with the tail ""
  tail_back : (t : Tree) (ts : Trees) (e : FunExpr) (es : FunExprs) (cs : List (Option Tree)) → nat_le (count (term.more t ts)) LIST_LENGTH ≡ true → RowBack (term.more t ts) (tree.more e es) cs → IsBack (term.list (term.more t ts)) (tree.list_onto 0 (tree.more e es) (tree.strings 0 [] [])) None
  tail_back t ts e es cs size r =
      let deep = r.deep in
      let us = term.more t ts in
      let fs = tree.more e es in
      let xs = r.all in
      let vs = all_terms xs in
      let joined : of_elements (vs ++ []) ≡ us = ap of_elements (append-nil vs) ∙ r.terms in
      let counted : length (vs ++ []) ≡ count us = ap length (append-nil vs) ∙ (elements_counted vs ∙ ap count r.terms) in
      record {
        text = (r.text, tt);
        bare = ap (λ gs. tree.list_onto 0 gs (tree.strings 0 [] [])) r.bare;
        level = and_from (has_one fs) (have_levels fs && true) refl (and_from (have_levels fs) true r.levels refl);
        least = omega arith;
        sized = and_from (nat_le (length (each_expr fs)) LIST_LENGTH) (are_sized fs && true) (ap (λ n. nat_le n LIST_LENGTH) r.counted ∙ size) (and_from (are_sized fs) true r.sized refl);
        deep = omega (arith, deep);
        back =
            ap (λ z. then_fun z (λ ys. then_fun (onto_tail 0 (all_terms ys) (term.list term.none)) (λ u. Ok (made u (constants_onto (all_constants ys) None))))) r.back
            ∙ ap (λ b. then_fun (cond b (Ok (term.list (of_elements (vs ++ [])))) (Err (too_large_at 0))) (λ u. Ok (made u (constants_onto (all_constants xs) None)))) (ap (λ n. nat_le n LIST_LENGTH) counted ∙ size)
            ∙ ap₂ (λ u c. Ok (made (term.list u) c)) joined (onto_none (all_constants xs));
      }

  tuple_back : (ts : Trees) (fs : FunExprs) (cs : List (Option Tree)) → nat_le (count ts) 255 ≡ true → RowBack ts fs cs → IsBack (term.tuple (term.more (term.tuple ts) term.none)) (tree.tuple 0 fs) (constant_of (λ vs. term.tuple (of_elements vs)) (all_of cs))
  tuple_back ts fs cs size r =
      let deep = r.deep in
      record {
        text = r.text;
        bare = ap (tree.tuple 0) r.bare;
        level = r.levels;
        least = omega arith;
        sized = and_from (nat_le (length (each_expr fs)) 255) (are_sized fs) (ap (λ n. nat_le n 255) r.counted ∙ size) r.sized;
        deep = omega (arith, deep);
        back =
            ap (λ z. then_fun z (λ xs. Ok (record { becomes = doubled_tuple (all_terms xs); constant = constant_of (λ vs. term.tuple (of_elements vs)) (all_constants xs) }))) r.back
            ∙ ap₂ (λ us vs. Ok (made (term.tuple (term.more (term.tuple us) term.none)) (constant_of (λ ws. term.tuple (of_elements ws)) vs))) r.terms r.constants;
      }

  call_back : (s : Name) (ts : Trees) (fs : FunExprs) (cs : List (Option Tree)) → may_call d part s (count ts) ≡ true → all_are is_printable s ≡ true → nat_le (length s) 255 ≡ true → RowBack ts fs cs → IsBack (term.tuple (term.more (term.atom s) ts)) (tree.call 0 s fs) None
  call_back s ts fs cs may h size r =
      let deep = r.deep in
      let plain = plain_call d part s (count ts) may in
      let n = length (each_expr fs) in
      let call : named_fun_call d part s n 0 ≡ Ok a_call =
      ap (λ k. named_fun_call d part s k 0) r.counted
      ∙ cond-false (is_among unsupported_names s) _ _ plain.supported
      ∙ cond-false (is_object s && nat_le (count ts) 0) _ _ (and_left (is_object s) (nat_le (count ts) 0) plain.object)
      ∙ cond-false (is_bindings s && nat_le (count ts) 0) _ _ (and_left (is_bindings s) (nat_le (count ts) 0) plain.bindings)
      ∙ cond-true (may_call d part s (count ts)) _ _ may in
      record {
        text = (h, r.text);
        bare = ap (tree.call 0 s) r.bare;
        level = r.levels;
        least = omega arith;
        sized = and_from (nat_le (length s) 255) (are_sized fs) size r.sized;
        deep = omega (arith, deep);
        back =
            ap (λ z. then_fun z (λ c. then_fun (exprs_translated d part ns fs) (λ xs. Ok (call_translated s c xs)))) call
            ∙ ap (λ z. then_fun z (λ xs. Ok (call_translated s a_call xs))) r.back
            ∙ ap (λ us. Ok (no_constant (term.tuple (term.more (term.atom s) us)))) r.terms;
      }

  -- ---- operators

  -- an operand, in parentheses where it binds less
  record IsIn (n : ℕ) (t : Tree) (f : FunExpr) (c : Option Tree) : Type 0 where
    pub text : HasText f
    pub bare : unplaced f ≡ f
    pub level : has_level n f ≡ true
    pub sized : is_sized f ≡ true
    pub deep : nesting_depth f ≤ depth t + depth t + 2
    pub back : expr_translated d part ns f ≡ Ok (record { becomes = t; constant = c })

  operand_back : (n : ℕ) (t : Tree) (e : FunExpr) (c : Option Tree) → IsBack t e c → IsIn n t (in_level n e) c
  operand_back n t e c p =
      let deep = p.deep in
      cond_both (nat_le n (expr_level e)) e (tree.in_parens 0 e) (λ f. IsIn n t f c)
      (λ h. record { text = p.text; bare = p.bare; level = level_at n (expr_level e) e h p.level; sized = p.sized; deep = omega (arith, deep); back = p.back })
      (λ h. record { text = p.text; bare = ap (tree.in_parens 0) p.bare; level = lower_level 1 (expr_level e) e p.least p.level; sized = p.sized; deep = omega (arith, deep); back = p.back })

  between_back : (o : FunOperator) (t u : Tree) (e f : FunExpr) (c k : Option Tree) → is_infix o ≡ true → IsBack t e c → IsBack u f k → computed_if_two o c k ≡ not_computed
      → IsBack (name_tuple (operator_name o) (t ∷ u ∷ [])) (tree.between 0 o (in_level (left_level (operator_binding o)) e) (in_level (right_level (operator_binding o)) f)) None
  between_back o t u e f c k two p q none =
      let n = level_of (operator_binding o) in
      let l = operand_back (left_level (operator_binding o)) t e c p in
      let r = operand_back (right_level (operator_binding o)) u f k q in
      let left = in_level (left_level (operator_binding o)) e in
      let right = in_level (right_level (operator_binding o)) f in
      let deep = l.deep in
      let more_deep = r.deep in
      record {
        text = (l.text, r.text);
        bare = ap₂ (tree.between 0 o) l.bare r.bare;
        level = and_from (is_infix o) _ two (and_from (nat_le n n) _ (le-leb n n (omega arith)) (and_from (has_level (left_level (operator_binding o)) left) _ l.level r.level));
        least = (level_bounds o).level;
        sized = and_from (is_sized left) (is_sized right) l.sized r.sized;
        deep = omega (arith, deep, more_deep);
        back =
            ap (λ z. then_fun z (λ x. then_fun (expr_translated d part ns right) (λ y. operator_translated 0 o (x.becomes ∷ y.becomes ∷ []) (computed_if_two o x.constant y.constant)))) l.back
            ∙ ap (λ z. then_fun z (λ y. operator_translated 0 o (t ∷ y.becomes ∷ []) (computed_if_two o c y.constant))) r.back
            ∙ ap (operator_translated 0 o (t ∷ u ∷ [])) none;
      }

  before_by : (o : FunOperator) (t : Tree) (e : FunExpr) (c : Option Tree) → IsIn PREFIX_LEVEL t e c → (HasText e → HasText (tree.before 0 o e)) → is_sized (tree.before 0 o e) ≡ is_sized e → is_prefix o ≡ true → prefix_translated 0 o t not_computed ≡ Ok (no_constant (name_tuple (operator_name o) (t ∷ []))) → computed_if_one o c ≡ not_computed
      → IsBack (name_tuple (operator_name o) (t ∷ [])) (tree.before 0 o e) None
  before_by o t e c p text size one goes none =
      let deep = p.deep in
      record {
        text = text p.text;
        bare = ap (tree.before 0 o) p.bare;
        level = and_from (is_prefix o) _ one (and_from (nat_le PREFIX_LEVEL PREFIX_LEVEL) _ refl p.level);
        least = omega arith;
        sized = size ∙ p.sized;
        deep = omega (arith, deep);
        back = ap (λ z. then_fun z (λ x. prefix_translated 0 o x.becomes (computed_if_one o x.constant))) p.back ∙ ap (prefix_translated 0 o t) none ∙ goes;
      }

  before_back : (o : FunOperator) (t : Tree) (e : FunExpr) (c : Option Tree) → is_before o ≡ true → IsBack t e c → computed_if_one o c ≡ not_computed → IsBack (name_tuple (operator_name o) (t ∷ [])) (tree.before 0 o (in_level PREFIX_LEVEL e)) None
  before_back op.bit_not t e c one p none = before_by op.bit_not t (in_level PREFIX_LEVEL e) c (operand_back PREFIX_LEVEL t e c p) (λ x. x) refl refl refl none
  before_back op.negation t e c one p none = before_by op.negation t (in_level PREFIX_LEVEL e) c (operand_back PREFIX_LEVEL t e c p) (λ x. x) refl refl refl none
  before_back o t e c one p none = absurd (let no : false ≡ true = one in cc)

  two_back : (o : FunOperator) (s : Name) (ts : Trees) (fs : FunExprs) (cs : List (Option Tree)) → operator_name o ≡ s → is_infix o ≡ true → count ts ≡ 2 → AreBack ts fs cs → computation_of (prints_between o) (all_of cs) ≡ not_computed → IsBack (term.tuple (term.more (term.atom s) ts)) (operator_expr o fs) None
  two_back o s term.none fs cs name two n r none = absurd (omega (arith, n))
  two_back o s (term.more t term.none) fs cs name two n r none = absurd (omega (arith, n))
  two_back o s (term.more t (term.more u term.none)) fs cs name two n r none =
      let e = r.0 in
      let c = r.2 in
      let q = r.7 in
      let f = q.0 in
      let k = q.2 in
      let exprs : fs ≡ tree.more e (tree.more f tree.none) = r.4 ∙ ap (tree.more e) (q.4 ∙ ap (tree.more f) q.7.0) in
      let constants : cs ≡ c ∷ k ∷ [] = r.5 ∙ ap (λ ks. c ∷ ks) (q.5 ∙ ap (λ ks. k ∷ ks) q.7.1) in
      let apart_from : computed_if_two o c k ≡ not_computed = sym (two_computed o c k) ∙ ap (λ ks. computation_of (prints_between o) (all_of ks)) (sym constants) ∙ none in
      subst (λ es. IsBack (term.tuple (term.more (term.atom s) (term.more t (term.more u term.none)))) (operator_expr o es) None) (sym exprs)
      (subst (λ x. IsBack (term.tuple (term.more (term.atom x) (term.more t (term.more u term.none)))) (operator_expr o (tree.more e (tree.more f tree.none))) None) name (between_back o t u e f c k two r.6 q.6 apart_from))
  two_back o s (term.more t (term.more u (term.more v ts))) fs cs name two n r none = absurd (omega (arith, n))

  one_back : (o : FunOperator) (s : Name) (ts : Trees) (fs : FunExprs) (cs : List (Option Tree)) → operator_name o ≡ s → is_before o ≡ true → count ts ≡ 1 → AreBack ts fs cs → computation_of (prints_before o) (all_of cs) ≡ not_computed → IsBack (term.tuple (term.more (term.atom s) ts)) (operator_expr o fs) None
  one_back o s term.none fs cs name one n r none = absurd (omega (arith, n))
  one_back o s (term.more t term.none) fs cs name one n r none =
      let e = r.0 in
      let c = r.2 in
      let exprs : fs ≡ tree.more e tree.none = r.4 ∙ ap (tree.more e) r.7.0 in
      let constants : cs ≡ c ∷ [] = r.5 ∙ ap (λ ks. c ∷ ks) r.7.1 in
      let apart_from : computed_if_one o c ≡ not_computed = sym (one_computed o c) ∙ ap (λ ks. computation_of (prints_before o) (all_of ks)) (sym constants) ∙ none in
      subst (λ es. IsBack (term.tuple (term.more (term.atom s) (term.more t term.none))) (operator_expr o es) None) (sym exprs)
      (subst (λ x. IsBack (term.tuple (term.more (term.atom x) (term.more t term.none))) (operator_expr o (tree.more e tree.none)) None) name (before_back o t e c one r.6 apart_from))
  one_back o s (term.more t (term.more u ts)) fs cs name one n r none = absurd (omega (arith, n))

  -- ---- what keeps an operator

  -- the constants of terms that are printed
  abbrev pub values_of : Trees → List (Option Tree)
  values_of term.none = []
  values_of (term.more t ts) = value_in_fun d part t ∷ values_of ts

  values_same : (ts : Trees) → all_of (values_of ts) ≡ values_in_fun d part ts
  values_same term.none = refl
  values_same (term.more t ts) = ap (with_constant (value_in_fun d part t)) (values_same ts)

  -- a string is put into the first list of a term, where there is one
  pub record BackOf (t : Tree) (e : FunExpr) : Type 0 where
    pub back : IsBack t e (value_in_fun d part t)
    pub keeps : has_list t ≡ true → (f : FunExpr) × (with_string e ≡ Some f) × IsBack t f None
    pub leaves : has_list t ≡ false → with_string e ≡ None

  pub record RowOf (ts : Trees) (es : FunExprs) : Type 0 where
    pub back : AreBack ts es (values_of ts)
    pub keeps : have_list ts ≡ true → (fs : FunExprs) × (cs : List (Option Tree)) × (with_string_in es ≡ Some fs) × AreBack ts fs cs × (all_of cs ≡ None)
    pub leaves : have_list ts ≡ false → with_string_in es ≡ None

  -- a term without a list
  leaf_of : (t : Tree) (e : FunExpr) (c : Option Tree) → IsBack t e c → value_in_fun d part t ≡ c → has_list t ≡ false → with_string e ≡ None → BackOf t e
  leaf_of t e c p v no_list leaf = record { back = subst (IsBack t e) (sym v) p; keeps = λ h. absurd (both_ways (has_list t) no_list h); leaves = λ h. leaf }

  leaf_as : (t : Tree) (e f : FunExpr) → e ≡ f → BackOf t e → BackOf t f
  leaf_as t e f is p = subst (BackOf t) is p

  int_leaf : (z : ℤ) → with_string (integer_expr (term.int z)) ≡ None
  int_leaf (pos n) = refl
  int_leaf (negsuc n) = refl

  operator_leaf : (o : FunOperator) (fs : FunExprs) → with_string (operator_expr o fs) ≡ None
  operator_leaf o tree.none = refl
  operator_leaf o (tree.more e tree.none) = refl
  operator_leaf o (tree.more e (tree.more f tree.none)) = refl
  operator_leaf o (tree.more e (tree.more f (tree.more g fs))) = refl

  more_of : (t : Tree) (ts : Trees) (e : FunExpr) (es : FunExprs) (b : Bool) → has_list t ≡ b → BackOf t e → RowOf ts es → RowOf (term.more t ts) (tree.more e es)
  more_of t ts e es true h p q =
      let k = p.keeps h in
      record {
        back = (e, es, value_in_fun d part t, values_of ts, refl, refl, p.back, q.back);
        keeps = λ l. (tree.more k.0 es, None ∷ values_of ts, ap (λ o. first_changed o e (with_string_in es) es) k.1, (k.0, es, None, values_of ts, refl, refl, k.2, q.back), refl);
        leaves = λ l. absurd (both_ways (has_list t) (neither (has_list t) (have_list ts) l).0 h);
      }
  more_of t ts e es false h p q = record {
    back = (e, es, value_in_fun d part t, values_of ts, refl, refl, p.back, q.back);
    keeps = λ l.
        let k = q.keeps (sym (ap (λ b. b || have_list ts) h) ∙ l) in
        (tree.more e k.0, value_in_fun d part t ∷ k.1, ap₂ (λ o r. first_changed o e r es) (p.leaves h) k.2, (e, k.0, value_in_fun d part t, k.1, refl, refl, p.back, k.3), ap (with_constant (value_in_fun d part t)) k.4 ∙ no_constant_of (value_in_fun d part t));
    leaves = λ l. ap₂ (λ o r. first_changed o e r es) (p.leaves h) (q.leaves (neither (has_list t) (have_list ts) l).1);
  }

  -- the operands of an operator that isn't computed
  record IsKept (p : PrintedCall) (b : Bool) (ts : Trees) (es : FunExprs) : Type 0 where
    pub exprs : FunExprs
    pub constants : List (Option Tree)
    pub are : operands_kept b es ≡ exprs
    pub back : AreBack ts exprs constants
    pub none : computation_of p (all_of constants) ≡ not_computed

  kept_by : (p : PrintedCall) (ts : Trees) (es : FunExprs) (b : Bool) → would_compute (computation_of p (values_in_fun d part ts)) ≡ b → RowOf ts es → (b ≡ true → have_list ts ≡ true) → IsKept p b ts es
  kept_by p ts es false h r l = record { exprs = es; constants = values_of ts; are = refl; back = r.back; none = ap (computation_of p) (values_same ts) ∙ not_by (computation_of p (values_in_fun d part ts)) h }
  kept_by p ts es true h r l = let k = r.keeps (l refl) in record { exprs = k.0; constants = k.1; are = ap (λ o. unwrap_or o es) k.2; back = k.3; none = ap (computation_of p) k.4 ∙ none_computed p }

  -- an operator that isn't computed has no value
  no_value_by : (p : PrintedCall) (ts : Trees) (b : Bool) → would_compute (computation_of p (values_in_fun d part ts)) ≡ b → (b ≡ true → have_list ts ≡ true) → value_unless (have_list ts) (computation_of p (values_in_fun d part ts)) ≡ None
  no_value_by p ts false h l = ap (value_unless (have_list ts)) (not_by (computation_of p (values_in_fun d part ts)) h) ∙ unless_not (have_list ts)
  no_value_by p ts true h l = ap (λ b. value_unless b (computation_of p (values_in_fun d part ts))) (l refl) ∙ unless_kept (computation_of p (values_in_fun d part ts))

  -- ---- calls, operators and constants

  abbrev RowsOf : Trees → Type 0
  RowsOf ts = (es : FunExprs) → exprs_of_terms d part ts ≡ Ok es → RowOf ts es

  value_of_call : (s : Name) (ts : Trees) (p : PrintedCall) → bytes_eq s (codes "const") ≡ false → printed_call d part s (count ts) ≡ p → value_in_fun d part (term.tuple (term.more (term.atom s) ts)) ≡ value_unless (have_list ts) (computation_of p (values_in_fun d part ts))
  value_of_call s ts p const e = cond-false (bytes_eq s (codes "const")) _ _ const ∙ ap (λ c. value_unless (have_list ts) (computation_of c (values_in_fun d part ts))) e

  called : (s : Name) (ts : Trees) (e : FunExpr) (p : PrintedCall) → bytes_eq s (codes "const") ≡ false → printed_call d part s (count ts) ≡ p → all_are is_printable s ≡ true → nat_le (length s) 255 ≡ true → RowsOf ts
      → call_printed p s (term.tuple (term.more (term.atom s) ts)) ts (would_compute (computation_of p (values_in_fun d part ts))) (exprs_of_terms d part ts) ≡ Ok e → BackOf (term.tuple (term.more (term.atom s) ts)) e
  called s ts e (prints_between o) const call w z rows h =
      let t = term.tuple (term.more (term.atom s) ts) in
      let p = prints_between o in
      let b = would_compute (computation_of p (values_in_fun d part ts)) in
      let u = unless_parts t b (have_list ts) (then_print (exprs_of_terms d part ts) (λ fs. Ok (operator_expr o (operands_kept b fs)))) e h in
      let a = print_ok (exprs_of_terms d part ts) (λ fs. Ok (operator_expr o (operands_kept b fs))) e u.0 in
      let k = kept_by p ts a.0 b refl (rows a.0 a.1) u.1 in
      let parts = between_by (count ts == 2) (count ts == 1) (operator_named infix_operators s) (operator_named prefix_operators s) (may_call d part s (count ts)) o call in
      let name = named_is is_infix infix_operators s o refl parts.1 in
      let is : operator_expr o k.exprs ≡ e = ap (operator_expr o) (sym k.are) ∙ same_ok _ e a.2 in
      leaf_as t (operator_expr o k.exprs) e is
      (leaf_of t (operator_expr o k.exprs) None (two_back o s ts k.exprs k.constants name.0 name.1 (eqb-true (count ts) 2 parts.0) k.back k.none) (value_of_call s ts p const call ∙ no_value_by p ts b refl u.1) refl (operator_leaf o k.exprs))
  called s ts e (prints_before o) const call w z rows h =
      let t = term.tuple (term.more (term.atom s) ts) in
      let p = prints_before o in
      let b = would_compute (computation_of p (values_in_fun d part ts)) in
      let u = unless_parts t b (have_list ts) (then_print (exprs_of_terms d part ts) (λ fs. Ok (operator_expr o (operands_kept b fs)))) e h in
      let a = print_ok (exprs_of_terms d part ts) (λ fs. Ok (operator_expr o (operands_kept b fs))) e u.0 in
      let k = kept_by p ts a.0 b refl (rows a.0 a.1) u.1 in
      let parts = before_parts (count ts == 2) (count ts == 1) (operator_named infix_operators s) (operator_named prefix_operators s) (may_call d part s (count ts)) o call in
      let name = named_is is_before prefix_operators s o refl parts.1 in
      let is : operator_expr o k.exprs ≡ e = ap (operator_expr o) (sym k.are) ∙ same_ok _ e a.2 in
      leaf_as t (operator_expr o k.exprs) e is
      (leaf_of t (operator_expr o k.exprs) None (one_back o s ts k.exprs k.constants name.0 name.1 (eqb-true (count ts) 1 parts.0) k.back k.none) (value_of_call s ts p const call ∙ no_value_by p ts b refl u.1) refl (operator_leaf o k.exprs))
  called s ts e prints_call const call w z rows h =
      let t = term.tuple (term.more (term.atom s) ts) in
      let a = print_ok (exprs_of_terms d part ts) (λ fs. Ok (tree.call 0 s fs)) e h in
      let may = call_by (count ts == 2) (count ts == 1) (operator_named infix_operators s) (operator_named prefix_operators s) (may_call d part s (count ts)) call in
      let r = row_back ts a.0 (values_of ts) (rows a.0 a.1).back in
      leaf_as t (tree.call 0 s a.0) e (same_ok _ e a.2)
      (leaf_of t (tree.call 0 s a.0) None (call_back s ts a.0 (values_of ts) may w z r) (value_of_call s ts prints_call const call ∙ unless_not (have_list ts)) refl refl)
  called s ts e prints_nothing const call w z rows h = absurd (no_ok (no_such_call s (count ts)) e h)

  const_by : (a : Name) (b : Bool) (t : Tree) (e : FunExpr) → begins_with_dollar a ≡ b → cond b (Ok (tree.atom 0 a)) (Err (no_other_const t)) ≡ Ok e → (b ≡ true) × (tree.atom 0 a ≡ e)
  const_by a true t e g h = (refl, same_ok (tree.atom 0 a) e h)
  const_by a false t e g h = absurd (no_ok (no_other_const t) e h)

  const_of_atom : (s : Name) (ts : Trees) (e : FunExpr) → bytes_eq s (codes "const") ≡ true → are_writable ts ≡ true → all_sizes_fit ts ≡ true → const_printed (term.tuple (term.more (term.atom s) ts)) ts ≡ Ok e → BackOf (term.tuple (term.more (term.atom s) ts)) e
  const_of_atom s (term.more (term.atom a) term.none) e is w z h =
      let t = term.tuple (term.more (term.atom s) (term.more (term.atom a) term.none)) in
      let q = const_by a (begins_with_dollar a) t e refl h in
      let text = (and_parts (all_are is_printable a) true w).0 in
      let size = (and_parts (nat_le (length a) 255) true z).0 in
      let name : codes "const" ≡ s = sym (same_name s (codes "const") is) in
      let back = subst (λ x. IsBack (term.tuple (term.more (term.atom x) (term.more (term.atom a) term.none))) (tree.atom 0 a) (Some (term.atom a))) name (const_back a text size q.0) in
      leaf_as t (tree.atom 0 a) e q.1 (leaf_of t (tree.atom 0 a) (Some (term.atom a)) back (cond-true (bytes_eq s (codes "const")) _ _ is) refl refl)
  const_of_atom s term.none e is w z h = absurd (no_ok (no_other_const _) e h)
  const_of_atom s (term.more (term.int n) ts) e is w z h = absurd (no_ok (no_other_const _) e h)
  const_of_atom s (term.more (term.pid n) ts) e is w z h = absurd (no_ok (no_other_const _) e h)
  const_of_atom s (term.more (term.tuple us) ts) e is w z h = absurd (no_ok (no_other_const _) e h)
  const_of_atom s (term.more (term.list us) ts) e is w z h = absurd (no_ok (no_other_const _) e h)
  const_of_atom s (term.more (term.atom a) (term.more u ts)) e is w z h = absurd (no_ok (no_other_const _) e h)

  named_of : (s : Name) (ts : Trees) (e : FunExpr) (b : Bool) → bytes_eq s (codes "const") ≡ b → is_writable (term.tuple (term.more (term.atom s) ts)) ≡ true → sizes_fit (term.tuple (term.more (term.atom s) ts)) ≡ true → (b ≡ false → RowsOf ts)
      → cond b (const_printed (term.tuple (term.more (term.atom s) ts)) ts) (call_printed (printed_call d part s (count ts)) s (term.tuple (term.more (term.atom s) ts)) ts (would_compute (computation_of (printed_call d part s (count ts)) (values_in_fun d part ts))) (exprs_of_terms d part ts)) ≡ Ok e
      → BackOf (term.tuple (term.more (term.atom s) ts)) e
  named_of s ts e true is w z rows h =
      let p = and_parts (all_are is_printable s) (are_writable ts) w in
      let q = and_parts (nat_le (count ts + 1) 255) (nat_le (length s) 255 && all_sizes_fit ts) z in
      const_of_atom s ts e is p.1 (and_parts (nat_le (length s) 255) (all_sizes_fit ts) q.1).1 h
  named_of s ts e false is w z rows h =
      let p = and_parts (all_are is_printable s) (are_writable ts) w in
      let q = and_parts (nat_le (count ts + 1) 255) (nat_le (length s) 255 && all_sizes_fit ts) z in
      called s ts e (printed_call d part s (count ts)) is refl p.0 (and_parts (nat_le (length s) 255) (all_sizes_fit ts) q.1).0 (rows refl) h

  -- ---- atoms

  plain_of : (s : Name) (e : FunExpr) (w o b g : Bool) → variable_kind ns ANY ≡ anything_there → is_wildcard s ≡ w → bytes_eq s (codes "$_") ≡ o → bytes_eq s (codes "$*") ≡ b → begins_with_dollar s ≡ g → atom_kind s ≡ a_plain_atom → all_are is_printable s ≡ true → nat_le (length s) 255 ≡ true
      → cond w (Ok (tree.variable 0 ANY)) (cond o (Ok (tree.call 0 (codes "object") tree.none)) (cond b (Ok (tree.call 0 (codes "bindings") tree.none)) (cond g (Err (no_dollar_atom s)) (Ok (tree.atom 0 s))))) ≡ Ok e → BackOf (term.atom s) e
  plain_of s e true o b g any is_w is_o is_b is_g kind text size h =
      leaf_as (term.atom s) (tree.variable 0 ANY) e (same_ok _ e h)
      (leaf_of (term.atom s) (tree.variable 0 ANY) None (subst (λ x. IsBack (term.atom x) (tree.variable 0 ANY) None) (sym (same_name s (codes "_") is_w)) (any_back any))
      (ap (value_of_atom s) kind ∙ cond-true (is_wildcard s || begins_with_dollar s) None (Some (term.atom s)) (ap (λ x. x || begins_with_dollar s) is_w)) refl refl)
  plain_of s e false true b g any is_w is_o is_b is_g kind text size h =
      let name = same_name s (codes "$_") is_o in
      leaf_as (term.atom s) (tree.call 0 (codes "object") tree.none) e (same_ok _ e h)
      (leaf_of (term.atom s) (tree.call 0 (codes "object") tree.none) None (subst (λ x. IsBack (term.atom x) (tree.call 0 (codes "object") tree.none) None) (sym name) object_back) (ap (λ x. value_of_atom x (atom_kind x)) name) refl refl)
  plain_of s e false false true g any is_w is_o is_b is_g kind text size h =
      let name = same_name s (codes "$*") is_b in
      leaf_as (term.atom s) (tree.call 0 (codes "bindings") tree.none) e (same_ok _ e h)
      (leaf_of (term.atom s) (tree.call 0 (codes "bindings") tree.none) None (subst (λ x. IsBack (term.atom x) (tree.call 0 (codes "bindings") tree.none) None) (sym name) bindings_back) (ap (λ x. value_of_atom x (atom_kind x)) name) refl refl)
  plain_of s e false false false true any is_w is_o is_b is_g kind text size h = absurd (no_ok (no_dollar_atom s) e h)
  plain_of s e false false false false any is_w is_o is_b is_g kind text size h =
      leaf_as (term.atom s) (tree.atom 0 s) e (same_ok _ e h)
      (leaf_of (term.atom s) (tree.atom 0 s) (Some (term.atom s)) (atom_back s text size is_g) (ap (value_of_atom s) kind ∙ cond-false (is_wildcard s || begins_with_dollar s) None (Some (term.atom s)) (ap₂ (λ x y. x || y) is_w is_g)) refl refl)

  -- the list of an operand is kept by ""
  list_kept : (ts : Trees) (es : FunExprs) (cs : List (Option Tree)) → nat_le (count ts) LIST_LENGTH ≡ true → AreBack ts es cs → (f : FunExpr) × (with_string (tree.list 0 es) ≡ Some f) × IsBack (term.list ts) f None
  list_kept term.none es cs size h = (tree.strings 0 [] [], ap (λ x. with_string (tree.list 0 x)) h.0, record { text = (refl, refl); bare = refl; level = refl; least = omega arith; sized = refl; deep = omega arith; back = refl })
  list_kept (term.more t ts) es cs size h =
      let fs = tree.more h.0 h.1 in
      (tree.list_onto 0 fs (tree.strings 0 [] []), ap (λ x. with_string (tree.list 0 x)) h.4, tail_back t ts h.0 h.1 cs size (subst (λ x. RowBack (term.more t ts) x cs) h.4 (row_back (term.more t ts) es cs h)))

  module _ (head : Pattern) (any : variable_kind ns ANY ≡ anything_there) (bound : (k : ℕ) → occurs k head ≡ true → variable_kind ns (codes "X" ++ decimal k) ≡ of_number k) where
    occurs_by : (b : Bool) (x ex : Expr) → cond b (Ok x) (Err badarg) ≡ Ok ex → b ≡ true
    occurs_by true x ex h = refl
    occurs_by false x ex h = absurd (no_ok badarg ex h)

    kind_of : (s : Name) (e : FunExpr) (ex : Expr) (k : AtomKind) → atom_kind s ≡ k → all_are is_printable s ≡ true → nat_le (length s) 255 ≡ true → atom_printed s k ≡ Ok e → atom_expr_of_kind head s k ≡ Ok ex → BackOf (term.atom s) e
    kind_of s e ex (a_variable k) kind text size h r =
        let q = dollar_back s k kind in
        let there = occurs_by (occurs k head) _ ex r in
        leaf_as (term.atom s) (numbered_variable k) e (same_ok _ e h)
        (leaf_of (term.atom s) (numbered_variable k) None (subst (λ x. IsBack (term.atom x) (numbered_variable k) None) (sym q.0) (number_back k q.1 (bound k there))) (ap (value_of_atom s) kind) refl refl)
    kind_of s e ex a_wrong_variable kind text size h r = absurd (no_ok badarg ex r)
    kind_of s e ex a_plain_atom kind text size h r = plain_of s e (is_wildcard s) (bytes_eq s (codes "$_")) (bytes_eq s (codes "$*")) (begins_with_dollar s) any refl refl refl refl kind text size h

    -- ---- lists and tuples

    list_of : (ts : Trees) (e : FunExpr) (b : Bool) → is_text ts ≡ b → nat_le (count ts) LIST_LENGTH ≡ true → RowsOf ts → cond b (Ok (string_expr ts)) (then_print (exprs_of_terms d part ts) (λ es. Ok (tree.list 0 es))) ≡ Ok e → BackOf (term.list ts) e
    list_of ts e true text size rows h =
        leaf_as (term.list ts) (string_expr ts) e (same_ok _ e h) (leaf_of (term.list ts) (string_expr ts) None (string_back ts text size) (cond-true (is_text ts) None _ text) (ap not text) refl)
    list_of ts e false text size rows h =
        let a = print_ok (exprs_of_terms d part ts) (λ es. Ok (tree.list 0 es)) e h in
        let r = rows a.0 a.1 in
        leaf_as (term.list ts) (tree.list 0 a.0) e (same_ok _ e a.2)
        (record {
          back = subst (IsBack (term.list ts) (tree.list 0 a.0)) (ap (constant_of list_term) (values_same ts) ∙ sym (cond-false (is_text ts) None _ text)) (list_back ts a.0 (values_of ts) size (row_back ts a.0 (values_of ts) r.back));
          keeps = λ l. list_kept ts a.0 (values_of ts) size r.back;
          leaves = λ l. absurd (both_ways (not (is_text ts)) l (ap not text));
        })

    call_read : (a : Name) (ts : Trees) (ex : Expr) → bytes_eq a (codes "const") ≡ false → expr_of d part head (term.tuple (term.more (term.atom a) ts)) ≡ Ok ex → (exs : Exprs) × (exprs_of d part head ts ≡ Ok exs)
    call_read a ts ex is r =
        let other = sym (cond-false (is_constant a ts) _ _ (and_left (bytes_eq a (codes "const")) (count ts == 1) is)) ∙ r in
        let x = read_ok (named_call d part a (count ts)) _ ex other in
        let y = read_ok (exprs_of d part head ts) _ ex x.2 in
        (y.0, y.1)

    tuple_of : (ts : Trees) (es : FunExprs) → nat_le (count ts) 255 ≡ true → RowOf ts es → BackOf (term.tuple (term.more (term.tuple ts) term.none)) (tree.tuple 0 es)
    tuple_of ts es size r = record {
      back = subst (IsBack (term.tuple (term.more (term.tuple ts) term.none)) (tree.tuple 0 es)) (ap (constant_of (λ vs. term.tuple (of_elements vs))) (values_same ts)) (tuple_back ts es (values_of ts) size (row_back ts es (values_of ts) r.back));
      keeps = λ l.
          let k = r.keeps l in
          (tree.tuple 0 k.0, ap tuple_changed k.2, subst (IsBack (term.tuple (term.more (term.tuple ts) term.none)) (tree.tuple 0 k.0)) (ap (constant_of (λ vs. term.tuple (of_elements vs))) k.4) (tuple_back ts k.0 k.1 size (row_back ts k.0 k.1 k.3)));
      leaves = λ l. ap tuple_changed (r.leaves l);
    }

    mutual
      -- each term is that of its expression
      pub back_of : (t : Tree) (e : FunExpr) (ex : Expr) → expr_of_term d part t ≡ Ok e → expr_of d part head t ≡ Ok ex → is_writable t ≡ true → sizes_fit t ≡ true → BackOf t e
      back_of (term.int z) e ex h r w s = leaf_as (term.int z) (integer_expr (term.int z)) e (same_ok _ e h) (leaf_of (term.int z) (integer_expr (term.int z)) (Some (term.int z)) (int_back z s) refl refl (int_leaf z))
      back_of (term.atom a) e ex h r w s = kind_of a e ex (atom_kind a) refl w s h r
      back_of (term.pid n) e ex h r w s = absurd (no_ok (no_pid n) e h)
      back_of (term.list ts) e ex h r w s =
          let sizes = and_parts (nat_le (count ts) LIST_LENGTH) (all_sizes_fit ts) s in
          let a = read_ok (exprs_of d part head ts) _ ex r in
          list_of ts e (is_text ts) refl sizes.0 (λ es k. rows_of ts es a.0 k a.1 w sizes.1) h
      back_of (term.tuple (term.more (term.tuple ts) term.none)) e ex h r w s =
          let inner = and_parts (sizes_fit (term.tuple ts)) true (and_parts (nat_le 1 255) _ s).1 in
          let sizes = and_parts (nat_le (count ts) 255) (all_sizes_fit ts) inner.0 in
          let b = print_ok (exprs_of_terms d part ts) (λ es. Ok (tree.tuple 0 es)) e h in
          let a = read_ok (exprs_of d part head ts) _ ex r in
          leaf_as (term.tuple (term.more (term.tuple ts) term.none)) (tree.tuple 0 b.0) e (same_ok _ e b.2) (tuple_of ts b.0 sizes.0 (rows_of ts b.0 a.0 b.1 a.1 (and_parts (are_writable ts) true w).0 sizes.1))
      back_of (term.tuple (term.more (term.atom a) ts)) e ex h r w s =
          let p = and_parts (all_are is_printable a) (are_writable ts) w in
          let q = and_parts (nat_le (count ts + 1) 255) (nat_le (length a) 255 && all_sizes_fit ts) s in
          named_of a ts e (bytes_eq a (codes "const")) refl w s
          (λ is es k. let exs = call_read a ts ex is r in rows_of ts es exs.0 k exs.1 p.1 (and_parts (nat_le (length a) 255) (all_sizes_fit ts) q.1).1) h
      back_of (term.tuple ts) e ex h r w s = absurd (no_ok _ e h)

      pub rows_of : (ts : Trees) (es : FunExprs) (exs : Exprs) → exprs_of_terms d part ts ≡ Ok es → exprs_of d part head ts ≡ Ok exs → are_writable ts ≡ true → all_sizes_fit ts ≡ true → RowOf ts es
      rows_of term.none es exs h r w s = subst (RowOf term.none) (same_ok tree.none es h) (record { back = (refl, refl); keeps = λ l. absurd (let no : false ≡ true = l in cc); leaves = λ l. refl })
      rows_of (term.more t ts) es exs h r w s =
          let writable = and_parts (is_writable t) (are_writable ts) w in
          let sizes = and_parts (sizes_fit t) (all_sizes_fit ts) s in
          let a = print_ok (expr_of_term d part t) (λ x. then_print (exprs_of_terms d part ts) (λ xs. Ok (tree.more x xs))) es h in
          let b = print_ok (exprs_of_terms d part ts) (λ xs. Ok (tree.more a.0 xs)) es a.2 in
          let c = read_ok (expr_of d part head t) _ exs r in
          let f = read_ok (exprs_of d part head ts) _ exs c.2 in
          subst (RowOf (term.more t ts)) (same_ok (tree.more a.0 b.0) es b.2) (more_of t ts a.0 b.0 (has_list t) refl (back_of t a.0 c.0 a.1 c.1 writable.0 sizes.0) (rows_of ts b.0 f.0 b.1 f.1 writable.1 sizes.1))
