-- Trees without their offsets: nothing but refusals depends on these.
use Rattle.std.proofs.Common.{◌≡◌, ℕ, ◌+◌, max, nat_le, List, [], ◌∷◌, ◌++◌, length, Bool, true, false, ◌&&◌, cond, Ok, Err, refl, ap, ap₂, sym, ◌∙◌, arith}
use Rattle.def_term.specs.Tree.{Tree, list, of_elements}
use Rattle.def_term.specs.Tree as term
use Rattle.def_term.specs.Names.{Name}
use Rattle.def_term.specs.Text.{is_among}
use Rattle.def_text.specs.Limits.{LIST_LENGTH}
use Rattle.def_spec.specs.Expressions.{Dialect, Position}
use Rattle.def_spec.specs.Reading.{unsupported_names}
use Rattle.def_fun.specs.Operators as op
use Rattle.def_fun.specs.Operators.{FunOperator, operator_binding, level_of, left_level, right_level, PREFIX_LEVEL, is_infix, is_prefix}
use Rattle.def_fun.specs.Trees.{FunExpr, variable, whole, atom, strings, in_parens, call, list_onto, tuple, before, between, FunExprs, none, more, each_expr, first_byte, nesting_depth, greatest_nesting, is_pattern, are_patterns}
use Rattle.def_fun.specs.Trees as tree
use Rattle.def_fun.specs.Grammar.{has_one, has_level, have_levels}
use Rattle.def_fun.specs.Limits.{is_sized, are_sized}
use Rattle.def_fun.specs.Refusals.{FunRefusal, too_large_at, unbound, unsupported, no_function, head_atom, list_with_tail, minus_alone, OrRefusal, then_fun}
use Rattle.def_fun.specs.Variables.{ClauseNames, dollar_name, variables_in, variables_in_each, VariableKind, the_whole, anything_there, of_number, of_no_head, variable_kind}
use Rattle.def_fun.specs.Constants.{Computation, not_computed, gives, gives_too_large}
use Rattle.def_fun.specs.Calls.{may_call, is_object, is_bindings, FunCall, the_object, the_bindings, a_call, named_fun_call}
use Rattle.def_fun.specs.Translation.{VARIABLES, variable_term, is_proper_tail, elements_of_list, onto_tail, is_variable_atom, negative_integer, pattern_term, pattern_terms, TranslatedExpr, all_terms, all_constants, constants_onto, operator_translated, prefix_translated, computed_if_one, computed_if_two, expr_translated, exprs_translated}
use Rattle.def_fun.proofs.Translations.{then_ok, then_is}
use Rattle.def_fun_printing.proofs.Results.{no_ok}

abbrev mutual
  pub unplaced : FunExpr → FunExpr
  unplaced (variable at s) = variable 0 s
  unplaced (whole at n) = whole 0 n
  unplaced (atom at s) = atom 0 s
  unplaced (strings at s ss) = strings 0 s ss
  unplaced (in_parens at e) = in_parens 0 (unplaced e)
  unplaced (call at s es) = call 0 s (unplaced_each es)
  unplaced (tree.list at es) = tree.list 0 (unplaced_each es)
  unplaced (list_onto at es e) = list_onto 0 (unplaced_each es) (unplaced e)
  unplaced (tuple at es) = tuple 0 (unplaced_each es)
  unplaced (before at o e) = before 0 o (unplaced e)
  unplaced (between at o l r) = between 0 o (unplaced l) (unplaced r)

  pub unplaced_each : FunExprs → FunExprs
  unplaced_each none = none
  unplaced_each (more e es) = more (unplaced e) (unplaced_each es)

-- ---- levels, limits and patterns

one_same : (es : FunExprs) → has_one (unplaced_each es) ≡ has_one es
one_same none = refl
one_same (more e es) = refl

mutual
  pub level_same : (n : ℕ) (e : FunExpr) → has_level n (unplaced e) ≡ has_level n e
  level_same n (variable at s) = refl
  level_same n (whole at k) = refl
  level_same n (atom at s) = refl
  level_same n (strings at s ss) = refl
  level_same n (in_parens at e) = level_same 1 e
  level_same n (call at s es) = levels_same es
  level_same n (tree.list at es) = levels_same es
  level_same n (list_onto at es e) = ap₂ (λ a b. a && b) (one_same es) (ap₂ (λ a b. a && b) (levels_same es) (level_same 1 e))
  level_same n (tuple at es) = levels_same es
  level_same n (before at o e) = ap (λ b. is_prefix o && (nat_le n PREFIX_LEVEL && b)) (level_same PREFIX_LEVEL e)
  level_same n (between at o l r) = ap₂ (λ a b. is_infix o && (nat_le n (level_of (operator_binding o)) && (a && b))) (level_same (left_level (operator_binding o)) l) (level_same (right_level (operator_binding o)) r)

  pub levels_same : (es : FunExprs) → have_levels (unplaced_each es) ≡ have_levels es
  levels_same none = refl
  levels_same (more e es) = ap₂ (λ a b. a && b) (level_same 1 e) (levels_same es)

mutual
  pub nesting_same : (e : FunExpr) → nesting_depth (unplaced e) ≡ nesting_depth e
  nesting_same (variable at s) = refl
  nesting_same (whole at k) = refl
  nesting_same (atom at s) = refl
  nesting_same (strings at s ss) = refl
  nesting_same (in_parens at e) = ap (λ n. 1 + n) (nesting_same e)
  nesting_same (call at s es) = ap (λ n. 1 + n) (nestings_same es)
  nesting_same (tree.list at es) = ap (λ n. 1 + n) (nestings_same es)
  nesting_same (list_onto at es e) = ap₂ (λ m n. 1 + max m n) (nestings_same es) (nesting_same e)
  nesting_same (tuple at es) = ap (λ n. 1 + n) (nestings_same es)
  nesting_same (before at o e) = ap (λ n. 1 + n) (nesting_same e)
  nesting_same (between at o l r) = ap₂ (λ m n. 1 + max m n) (nesting_same l) (nesting_same r)

  pub nestings_same : (es : FunExprs) → greatest_nesting (unplaced_each es) ≡ greatest_nesting es
  nestings_same none = refl
  nestings_same (more e es) = ap₂ max (nesting_same e) (nestings_same es)

pub count_same : (es : FunExprs) → length (each_expr (unplaced_each es)) ≡ length (each_expr es)
count_same none = refl
count_same (more e es) = let later = count_same es in omega (arith, later)

-- `-` before an integer, or another
minus_same : (at : ℕ) (o : FunOperator) (e : FunExpr) → is_sized (unplaced e) ≡ is_sized e → is_sized (before 0 o (unplaced e)) ≡ is_sized (before at o e)
minus_same at op.minus (whole here n) h = refl
minus_same at op.minus (variable here s) h = h
minus_same at op.minus (atom here s) h = h
minus_same at op.minus (strings here s ss) h = h
minus_same at op.minus (in_parens here e) h = h
minus_same at op.minus (call here s es) h = h
minus_same at op.minus (tree.list here es) h = h
minus_same at op.minus (list_onto here es e) h = h
minus_same at op.minus (tuple here es) h = h
minus_same at op.minus (before here p e) h = h
minus_same at op.minus (between here p l r) h = h
minus_same at o e h = h

mutual
  pub sized_same : (e : FunExpr) → is_sized (unplaced e) ≡ is_sized e
  sized_same (variable at s) = refl
  sized_same (whole at k) = refl
  sized_same (atom at s) = refl
  sized_same (strings at s ss) = refl
  sized_same (in_parens at e) = sized_same e
  sized_same (call at s es) = ap (λ b. nat_le (length s) 255 && b) (sizes_same es)
  sized_same (tree.list at es) = ap₂ (λ n b. nat_le n LIST_LENGTH && b) (count_same es) (sizes_same es)
  sized_same (list_onto at es e) = ap₂ (λ n b. nat_le n LIST_LENGTH && b) (count_same es) (ap₂ (λ a b. a && b) (sizes_same es) (sized_same e))
  sized_same (tuple at es) = ap₂ (λ n b. nat_le n 255 && b) (count_same es) (sizes_same es)
  sized_same (before at o e) = minus_same at o e (sized_same e)
  sized_same (between at o l r) = ap₂ (λ a b. a && b) (sized_same l) (sized_same r)

  pub sizes_same : (es : FunExprs) → are_sized (unplaced_each es) ≡ are_sized es
  sizes_same none = refl
  sizes_same (more e es) = ap₂ (λ a b. a && b) (sized_same e) (sizes_same es)

minus_pattern_same : (at : ℕ) (o : FunOperator) (e : FunExpr) → is_pattern (before 0 o (unplaced e)) ≡ is_pattern (before at o e)
minus_pattern_same at op.minus (whole here n) = refl
minus_pattern_same at op.minus (variable here s) = refl
minus_pattern_same at op.minus (atom here s) = refl
minus_pattern_same at op.minus (strings here s ss) = refl
minus_pattern_same at op.minus (in_parens here e) = refl
minus_pattern_same at op.minus (call here s es) = refl
minus_pattern_same at op.minus (tree.list here es) = refl
minus_pattern_same at op.minus (list_onto here es e) = refl
minus_pattern_same at op.minus (tuple here es) = refl
minus_pattern_same at op.minus (before here p e) = refl
minus_pattern_same at op.minus (between here p l r) = refl
minus_pattern_same at o e = refl

mutual
  pub pattern_same : (e : FunExpr) → is_pattern (unplaced e) ≡ is_pattern e
  pattern_same (variable at s) = refl
  pattern_same (whole at k) = refl
  pattern_same (atom at s) = refl
  pattern_same (strings at s ss) = refl
  pattern_same (in_parens at e) = refl
  pattern_same (call at s es) = refl
  pattern_same (tree.list at es) = patterns_same es
  pattern_same (list_onto at es e) = ap₂ (λ a b. a && b) (patterns_same es) (pattern_same e)
  pattern_same (tuple at es) = patterns_same es
  pattern_same (before at o e) = minus_pattern_same at o e
  pattern_same (between at o l r) = refl

  pub patterns_same : (es : FunExprs) → are_patterns (unplaced_each es) ≡ are_patterns es
  patterns_same none = refl
  patterns_same (more e es) = ap₂ (λ a b. a && b) (pattern_same e) (patterns_same es)

-- ---- variables

mutual
  pub variables_same : (e : FunExpr) → variables_in (unplaced e) ≡ variables_in e
  variables_same (variable at s) = refl
  variables_same (whole at k) = refl
  variables_same (atom at s) = refl
  variables_same (strings at s ss) = refl
  variables_same (in_parens at e) = variables_same e
  variables_same (call at s es) = each_variables_same es
  variables_same (tree.list at es) = each_variables_same es
  variables_same (list_onto at es e) = ap₂ (λ a b. a ++ b) (each_variables_same es) (variables_same e)
  variables_same (tuple at es) = each_variables_same es
  variables_same (before at o e) = variables_same e
  variables_same (between at o l r) = ap₂ (λ a b. a ++ b) (variables_same l) (variables_same r)

  pub each_variables_same : (es : FunExprs) → variables_in_each (unplaced_each es) ≡ variables_in_each es
  each_variables_same none = refl
  each_variables_same (more e es) = ap₂ (λ a b. a ++ b) (variables_same e) (each_variables_same es)

-- ---- translation

pub then_alike : {X Y : Type 0} (r s : OrRefusal X) (f g : X → OrRefusal Y) (y : Y) → ((x : X) → r ≡ Ok x → s ≡ Ok x) → ((x : X) → f x ≡ Ok y → g x ≡ Ok y) → then_fun r f ≡ Ok y → then_fun s g ≡ Ok y
then_alike r s f g y first later h = let a = then_ok r f y h in then_is s g a.0 (first a.0 a.1) ∙ later a.0 a.2

cond_alike : {X : Type 0} (b : Bool) (r s : OrRefusal X) (e f : FunRefusal) (x : X) → (r ≡ Ok x → s ≡ Ok x) → cond b r (Err e) ≡ Ok x → cond b s (Err f) ≡ Ok x
cond_alike true r s e f x g h = g h
cond_alike false r s e f x g h = absurd (no_ok e x h)

variable_alike : (s : Name) (at : ℕ) (k : VariableKind) (t : Tree) → variable_term s 0 k ≡ Ok t → variable_term s at k ≡ Ok t
variable_alike s at the_whole t h = h
variable_alike s at anything_there t h = h
variable_alike s at (of_number k) t h = cond_alike (nat_le k VARIABLES) (Ok (term.atom (dollar_name k))) (Ok (term.atom (dollar_name k))) (too_large_at 0) (too_large_at at) t (λ x. x) h
variable_alike s at of_no_head t h = absurd (no_ok (unbound s 0) t h)

onto_alike : (a b : ℕ) (ts : List Tree) (u t : Tree) → onto_tail a ts u ≡ Ok t → onto_tail b ts u ≡ Ok t
onto_alike a b ts u t h = cond_alike (nat_le (length (ts ++ elements_of_list u)) LIST_LENGTH) (Ok (list (of_elements (ts ++ elements_of_list u)))) (Ok (list (of_elements (ts ++ elements_of_list u)))) (too_large_at a) (too_large_at b) t (λ x. x) h

tail_same : (e : FunExpr) → is_proper_tail (unplaced e) ≡ is_proper_tail e
tail_same (variable at s) = refl
tail_same (whole at k) = refl
tail_same (atom at s) = refl
tail_same (strings at s ss) = refl
tail_same (in_parens at e) = tail_same e
tail_same (call at s es) = refl
tail_same (tree.list at es) = refl
tail_same (list_onto at es e) = refl
tail_same (tuple at es) = refl
tail_same (before at o e) = refl
tail_same (between at o l r) = refl

call_by : (a b c m : Bool) (e f g h : FunRefusal) (k : FunCall) → cond a (Err e) (cond b (Ok the_object) (cond c (Ok the_bindings) (cond m (Ok a_call) (Err f)))) ≡ Ok k → cond a (Err g) (cond b (Ok the_object) (cond c (Ok the_bindings) (cond m (Ok a_call) (Err h)))) ≡ Ok k
call_by true b c m e f g h k x = absurd (no_ok e k x)
call_by false true c m e f g h k x = x
call_by false false true m e f g h k x = x
call_by false false false true e f g h k x = x
call_by false false false false e f g h k x = absurd (no_ok f k x)

call_alike : (d : Dialect) (part : Position) (s : Name) (n at : ℕ) (k : FunCall) → named_fun_call d part s n 0 ≡ Ok k → named_fun_call d part s n at ≡ Ok k
call_alike d part s n at k h = call_by (is_among unsupported_names s) (is_object s && nat_le n 0) (is_bindings s && nat_le n 0) (may_call d part s n) (unsupported s 0) (no_function s n 0) (unsupported s at) (no_function s n at) k h

operator_alike : (at : ℕ) (o : FunOperator) (ts : List Tree) (c : Computation) (x : TranslatedExpr) → operator_translated 0 o ts c ≡ Ok x → operator_translated at o ts c ≡ Ok x
operator_alike at o ts (gives v) x h = h
operator_alike at o ts gives_too_large x h = absurd (no_ok (too_large_at 0) x h)
operator_alike at o ts not_computed x h = h

minus_alike : (at : ℕ) (t : Tree) (c : Computation) (x : TranslatedExpr) → prefix_translated 0 op.minus t c ≡ Ok x → prefix_translated at op.minus t c ≡ Ok x
minus_alike at t (gives v) x h = h
minus_alike at t gives_too_large x h = absurd (no_ok (too_large_at 0) x h)
minus_alike at t not_computed x h = absurd (no_ok (minus_alone 0) x h)

prefix_alike : (at : ℕ) (o : FunOperator) (t : Tree) (c : Computation) (x : TranslatedExpr) → prefix_translated 0 o t c ≡ Ok x → prefix_translated at o t c ≡ Ok x
prefix_alike at op.minus t c x h = minus_alike at t c x h
prefix_alike at o t c x h = operator_alike at o (t ∷ []) c x h

module _ (d : Dialect) (part : Position) (ns : ClauseNames) where
  mutual
    -- an expression without offsets is translated to the same
    pub expr_alike : (e : FunExpr) (x : TranslatedExpr) → expr_translated d part ns (unplaced e) ≡ Ok x → expr_translated d part ns e ≡ Ok x
    expr_alike (variable at s) x h = then_alike _ _ _ _ x (λ t k. variable_alike s at (variable_kind ns s) t k) (λ t k. k) h
    expr_alike (whole at k) x h = h
    expr_alike (atom at s) x h = h
    expr_alike (strings at s ss) x h = h
    expr_alike (in_parens at e) x h = expr_alike e x h
    expr_alike (call at s es) x h =
        then_alike _ _ _ _ x (λ c k. call_alike d part s (length (each_expr es)) at c (ap (λ n. named_fun_call d part s n 0) (sym (count_same es)) ∙ k)) (λ c k. then_alike _ _ _ _ x (λ ys l. exprs_alike es ys l) (λ ys l. l) k) h
    expr_alike (tree.list at es) x h = then_alike _ _ _ _ x (λ ys l. exprs_alike es ys l) (λ ys l. l) h
    expr_alike (list_onto at es e) x h =
        then_alike _ _ _ _ x (λ ys l. exprs_alike es ys l)
        (λ ys k. cond_alike (is_proper_tail e) _ _ (list_with_tail (first_byte (unplaced e))) (list_with_tail (first_byte e)) x
        (λ g. then_alike _ _ _ _ x (λ y l. expr_alike e y l) (λ y l. then_alike _ _ _ _ x (λ t i. onto_alike (first_byte (unplaced e)) (first_byte e) (all_terms ys) y.becomes t i) (λ t i. i) l) g)
        (ap (λ b. cond b (then_fun (expr_translated d part ns (unplaced e)) (λ y. then_fun (onto_tail (first_byte (unplaced e)) (all_terms ys) y.becomes) (λ t. Ok (record { becomes = t; constant = constants_onto (all_constants ys) y.constant })))) (Err (list_with_tail (first_byte (unplaced e))))) (sym (tail_same e)) ∙ k)) h
    expr_alike (tuple at es) x h = then_alike _ _ _ _ x (λ ys l. exprs_alike es ys l) (λ ys l. l) h
    expr_alike (before at o e) x h = then_alike _ _ _ _ x (λ y l. expr_alike e y l) (λ y l. prefix_alike at o y.becomes (computed_if_one o y.constant) x l) h
    expr_alike (between at o l r) x h = then_alike _ _ _ _ x (λ y k. expr_alike l y k) (λ y k. then_alike _ _ _ _ x (λ z i. expr_alike r z i) (λ z i. operator_alike at o (y.becomes ∷ z.becomes ∷ []) (computed_if_two o y.constant z.constant) x i) k) h

    pub exprs_alike : (es : FunExprs) (xs : List TranslatedExpr) → exprs_translated d part ns (unplaced_each es) ≡ Ok xs → exprs_translated d part ns es ≡ Ok xs
    exprs_alike none xs h = h
    exprs_alike (more e es) xs h = then_alike _ _ _ _ xs (λ x k. expr_alike e x k) (λ x k. then_alike _ _ _ _ xs (λ ys l. exprs_alike es ys l) (λ ys l. l) k) h

negative_alike : (at : ℕ) (e : FunExpr) (t : Tree) → negative_integer 0 (unplaced e) ≡ Ok t → negative_integer at e ≡ Ok t
negative_alike at (whole here n) t h = h
negative_alike at (variable here s) t h = absurd (no_ok (minus_alone 0) t h)
negative_alike at (atom here s) t h = absurd (no_ok (minus_alone 0) t h)
negative_alike at (strings here s ss) t h = absurd (no_ok (minus_alone 0) t h)
negative_alike at (in_parens here e) t h = absurd (no_ok (minus_alone 0) t h)
negative_alike at (call here s es) t h = absurd (no_ok (minus_alone 0) t h)
negative_alike at (tree.list here es) t h = absurd (no_ok (minus_alone 0) t h)
negative_alike at (list_onto here es e) t h = absurd (no_ok (minus_alone 0) t h)
negative_alike at (tuple here es) t h = absurd (no_ok (minus_alone 0) t h)
negative_alike at (before here p e) t h = absurd (no_ok (minus_alone 0) t h)
negative_alike at (between here p l r) t h = absurd (no_ok (minus_alone 0) t h)

head_atom_by : (b : Bool) (at : ℕ) (s : Name) (t : Tree) → cond b (Err (head_atom s 0)) (Ok (term.atom s)) ≡ Ok t → cond b (Err (head_atom s at)) (Ok (term.atom s)) ≡ Ok t
head_atom_by true at s t h = absurd (no_ok (head_atom s 0) t h)
head_atom_by false at s t h = h

module _ (ns : ClauseNames) where
  mutual
    -- so is a pattern
    pub pattern_alike : (e : FunExpr) (t : Tree) → pattern_term ns (unplaced e) ≡ Ok t → pattern_term ns e ≡ Ok t
    pattern_alike (variable at s) t h = variable_alike s at (variable_kind ns s) t h
    pattern_alike (whole at k) t h = h
    pattern_alike (atom at s) t h = head_atom_by (is_variable_atom s) at s t h
    pattern_alike (strings at s ss) t h = h
    pattern_alike (in_parens at e) t h = pattern_alike e t h
    pattern_alike (call at s es) t h = absurd (no_ok (minus_alone 0) t h)
    pattern_alike (tree.list at es) t h = then_alike _ _ _ _ t (λ ts l. patterns_alike es ts l) (λ ts l. l) h
    pattern_alike (list_onto at es e) t h =
        then_alike _ _ _ _ t (λ ts l. patterns_alike es ts l)
        (λ ts k. cond_alike (is_proper_tail e) _ _ (list_with_tail (first_byte (unplaced e))) (list_with_tail (first_byte e)) t
        (λ g. then_alike _ _ _ _ t (λ u l. pattern_alike e u l) (λ u l. onto_alike (first_byte (unplaced e)) (first_byte e) ts u t l) g)
        (ap (λ b. cond b (then_fun (pattern_term ns (unplaced e)) (λ u. onto_tail (first_byte (unplaced e)) ts u)) (Err (list_with_tail (first_byte (unplaced e))))) (sym (tail_same e)) ∙ k)) h
    pattern_alike (tuple at es) t h = then_alike _ _ _ _ t (λ ts l. patterns_alike es ts l) (λ ts l. l) h
    pattern_alike (before at o e) t h = negative_alike at e t h
    pattern_alike (between at o l r) t h = absurd (no_ok (minus_alone 0) t h)

    pub patterns_alike : (es : FunExprs) (ts : List Tree) → pattern_terms ns (unplaced_each es) ≡ Ok ts → pattern_terms ns es ≡ Ok ts
    patterns_alike none ts h = h
    patterns_alike (more e es) ts h = then_alike _ _ _ _ ts (λ t k. pattern_alike e t k) (λ t k. then_alike _ _ _ _ ts (λ us l. patterns_alike es us l) (λ us l. l) k) h
