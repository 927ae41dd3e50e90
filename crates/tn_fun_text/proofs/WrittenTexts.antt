-- The text of a fun is the one that is written from left to right.
use Rattle.std.proofs.Common.{◌≡◌, ◌∙◌, ℕ, suc, ◌+◌, ◌==◌, nat_le, nat_lt, max, Bool, true, false, not, ◌&&◌, ◌||◌, if◌then◌else◌, List, [], ◌∷◌, ◌++◌, map, Option, Some, None, Result, Ok, Err, codes, refl, sym, ap, ap₂, subst, append-nil, append_assoc, arith}
use Rattle.std.specs.Prelude.{ℤ, pos, negsuc, flat_map}
use Rattle.std.specs.Str.{bytes_eq}
use Rattle.std.specs.Fmt.{signed_decimal}
use Rattle.std.specs.Option.{is_some, unwrap_or}
use Rattle.std.proofs.lemmas.Bool.Decides.{nat_tests}
use Rattle.def_term.specs.Tree.{Tree, Trees, count, elements}
use Rattle.def_term.specs.Tree as term
use Rattle.def_term.specs.Names.{Name}
use Rattle.def_term.specs.Text.{atom_text, is_written_bare}
use Rattle.def_spec.specs.Expressions.{Dialect, Position, in_condition, in_body}
use Rattle.def_spec.specs.Reading.{AtomKind, a_variable, a_wrong_variable, a_plain_atom, atom_kind, is_wildcard}
use Rattle.def_fun.specs.Operators as op
use Rattle.def_fun.specs.Operators.{FunOperator, operator_name, operator_binding, level_of, left_level, right_level, PREFIX_LEVEL}
use Rattle.def_fun.specs.Trees as tree
use Rattle.def_fun.specs.Trees.{FunExpr, FunExprs}
use Rattle.def_fun.specs.Calls.{may_call}
use Rattle.def_fun.specs.Translation.{begins_with_dollar, is_variable_atom}
use Rattle.def_fun.specs.FunTexts.{OrReason, NoFunReason, wrong_order, no_head_atom, no_dollar_atom, no_other_const, NoFun, then_print, then_clause, reason_at, ClausePart, the_head, the_condition, the_expression, numbered_variable, integer_expr, is_text, character_code, string_character, string_expr, PrintedPattern, pattern_atom, pattern_of_term, patterns_of_terms, head_of_term, expr_level, in_level, first_changed, tuple_changed, with_string, with_string_in, infix_operators, prefix_operators, operator_named, PrintedCall, prints_between, prints_before, prints_call, prints_nothing, or_call, between_or, before_or, printed_call, has_list, have_list, operator_expr, operands_kept, atom_printed, const_printed, unless_computed, call_printed, expr_of_term, exprs_of_terms, joined_with, prefix_text, expr_text, expr_texts, parts_printed, when_text, body_printed, clause_of_parts_printed, clause_printed, clauses_printed, CLAUSE_BREAK, fun_text, fun_printed, would_compute, computation_of, values_in_fun}
use Rattle.tn_fun_text.specs.Texts.{variable_text, only_if, with_ends, each_character, fun_string_text, pattern_atom_text, pattern_text, patterns_text, head_text, expr_atom_text, const_text, list_text, between_text, before_text, called_text, fun_call_text, fun_expr_text, first_text, second_text, items_text, conditions_text, parts_text, fun_clause_text, clauses_text, whole_text}

-- ---- what a result is

pub ok_same : {X E : Type 0} (x y : X) → ◌≡◌ {A = Result X E} (Ok x) (Ok y) → x ≡ y
ok_same x y h = cc

pub then_ok : {X Y : Type 0} (r : OrReason X) (f : X → OrReason Y) (y : Y) → then_print r f ≡ Ok y → (x : X) × (r ≡ Ok x) × (f x ≡ Ok y)
then_ok (Ok x) f y e = (x, refl, e)
then_ok (Err r) f y e = absurd (cc)

pub then_clause_ok : {X Y : Type 0} (r : Result X NoFun) (f : X → Result Y NoFun) (y : Y) → then_clause r f ≡ Ok y → (x : X) × (r ≡ Ok x) × (f x ≡ Ok y)
then_clause_ok (Ok x) f y e = (x, refl, e)
then_clause_ok (Err r) f y e = absurd (cc)

pub reason_at_ok : {X : Type 0} (n : ℕ) (p : ClausePart) (r : OrReason X) (x : X) → reason_at n p r ≡ Ok x → r ≡ Ok x
reason_at_ok n p (Ok y) x e = ap Ok (ok_same y x e)
reason_at_ok n p (Err r) x e = absurd (cc)

-- ---- texts one after the other

-- each after these bytes, and after the first with a comma and a blank before each
abbrev pub joined_from : List ℕ → List ℕ → List (List ℕ) → List ℕ
joined_from s c [] = []
joined_from s c (u ∷ us) = s ++ u ++ joined_from c c us

joined_after : (c u : List ℕ) (us : List (List ℕ)) → joined_with c (u ∷ us) ≡ u ++ joined_from c c us
joined_after c u [] = sym (append-nil u)
joined_after c u (v ∷ us) = ap (λ w. u ++ c ++ w) (joined_after c v us) ∙ append_assoc u c (v ++ joined_from c c us) ∙ ap (λ w. u ++ w) (sym (append_assoc c v (joined_from c c us)))

pub joined_is : (c : List ℕ) (us : List (List ℕ)) → joined_with c us ≡ joined_from [] c us
joined_is c [] = refl
joined_is c (u ∷ us) = joined_after c u us

-- ---- levels

-- of at most the level of a prefix
pub record Fits (n : ℕ) : Type 0 where
  pub prefix : nat_le n 6 ≡ true
  pub leaf : nat_le n 7 ≡ true

fits_left : (o : FunOperator) → Fits (left_level (operator_binding o))
fits_left op.or_else = record { prefix = refl; leaf = refl }
fits_left op.and_also = record { prefix = refl; leaf = refl }
fits_left op.equal = record { prefix = refl; leaf = refl }
fits_left op.not_equal = record { prefix = refl; leaf = refl }
fits_left op.less_or_equal = record { prefix = refl; leaf = refl }
fits_left op.less = record { prefix = refl; leaf = refl }
fits_left op.greater_or_equal = record { prefix = refl; leaf = refl }
fits_left op.greater = record { prefix = refl; leaf = refl }
fits_left op.exactly_equal = record { prefix = refl; leaf = refl }
fits_left op.exactly_not_equal = record { prefix = refl; leaf = refl }
fits_left op.plus = record { prefix = refl; leaf = refl }
fits_left op.minus = record { prefix = refl; leaf = refl }
fits_left op.bit_or = record { prefix = refl; leaf = refl }
fits_left op.bit_xor = record { prefix = refl; leaf = refl }
fits_left op.one_of = record { prefix = refl; leaf = refl }
fits_left op.just_one_of = record { prefix = refl; leaf = refl }
fits_left op.times = record { prefix = refl; leaf = refl }
fits_left op.divide = record { prefix = refl; leaf = refl }
fits_left op.remainder = record { prefix = refl; leaf = refl }
fits_left op.bit_and = record { prefix = refl; leaf = refl }
fits_left op.all_of = record { prefix = refl; leaf = refl }
fits_left op.bit_not = record { prefix = refl; leaf = refl }
fits_left op.negation = record { prefix = refl; leaf = refl }

fits_right : (o : FunOperator) → Fits (right_level (operator_binding o))
fits_right op.or_else = record { prefix = refl; leaf = refl }
fits_right op.and_also = record { prefix = refl; leaf = refl }
fits_right op.equal = record { prefix = refl; leaf = refl }
fits_right op.not_equal = record { prefix = refl; leaf = refl }
fits_right op.less_or_equal = record { prefix = refl; leaf = refl }
fits_right op.less = record { prefix = refl; leaf = refl }
fits_right op.greater_or_equal = record { prefix = refl; leaf = refl }
fits_right op.greater = record { prefix = refl; leaf = refl }
fits_right op.exactly_equal = record { prefix = refl; leaf = refl }
fits_right op.exactly_not_equal = record { prefix = refl; leaf = refl }
fits_right op.plus = record { prefix = refl; leaf = refl }
fits_right op.minus = record { prefix = refl; leaf = refl }
fits_right op.bit_or = record { prefix = refl; leaf = refl }
fits_right op.bit_xor = record { prefix = refl; leaf = refl }
fits_right op.one_of = record { prefix = refl; leaf = refl }
fits_right op.just_one_of = record { prefix = refl; leaf = refl }
fits_right op.times = record { prefix = refl; leaf = refl }
fits_right op.divide = record { prefix = refl; leaf = refl }
fits_right op.remainder = record { prefix = refl; leaf = refl }
fits_right op.bit_and = record { prefix = refl; leaf = refl }
fits_right op.all_of = record { prefix = refl; leaf = refl }
fits_right op.bit_not = record { prefix = refl; leaf = refl }
fits_right op.negation = record { prefix = refl; leaf = refl }

fits_none : Fits 0
fits_none = record { prefix = refl; leaf = refl }

fits_prefix : Fits PREFIX_LEVEL
fits_prefix = record { prefix = refl; leaf = refl }

in_level_if : (n : ℕ) (e : FunExpr) → nat_le n (expr_level e) ≡ true → in_level n e ≡ e
in_level_if n e h = ap (λ b. if b then e else tree.in_parens 0 e) h

least : (m : ℕ) → nat_le 0 m ≡ true
least m = grind (arith, nat_tests)

in_no_level : (e : FunExpr) → expr_text e ≡ expr_text (in_level 0 e)
in_no_level e = sym (ap expr_text (in_level_if 0 e (least (expr_level e))))

abbrev or_parens : Bool → FunExpr → FunExpr
or_parens b e = if b then e else tree.in_parens 0 e

or_parens_text : (b : Bool) (e : FunExpr) → expr_text (or_parens b e) ≡ only_if (not b) (codes "(") ++ expr_text e ++ only_if (not b) (codes ")")
or_parens_text true e = sym (append-nil (expr_text e))
or_parens_text false e = refl

flip : (n m : ℕ) → not (nat_le n m) ≡ nat_lt m n
flip n m = grind (arith, nat_tests)

in_level_text : (n m : ℕ) (e : FunExpr) → expr_level e ≡ m → expr_text (in_level n e) ≡ only_if (nat_lt m n) (codes "(") ++ expr_text e ++ only_if (nat_lt m n) (codes ")")
in_level_text n m e h =
    or_parens_text (nat_le n (expr_level e)) e
    ∙ ap (λ b. only_if b (codes "(") ++ expr_text e ++ only_if b (codes ")")) (flip n (expr_level e) ∙ ap (λ l. nat_lt l n) h)

-- ---- strings that keep an operator

abbrev pub kept : Bool → FunExpr → FunExpr
kept false e = e
kept true e = unwrap_or (with_string e) e

-- one without a list is not changed
kept_none : (k : Bool) (e : FunExpr) → with_string e ≡ None → kept k e ≡ e
kept_none false e h = refl
kept_none true e h = ap (λ o. unwrap_or o e) h

first_kept : (k : Bool) (o : Option FunExpr) (p : Option FunExprs) (e : FunExpr) (es : FunExprs)
    → (if k then unwrap_or (first_changed o e p es) (tree.more e es) else tree.more e es)
    ≡ tree.more (if k && is_some o then unwrap_or o e else e) (if k && not (is_some o) then unwrap_or p es else es)
first_kept false o p e es = refl
first_kept true (Some f) p e es = refl
first_kept true None (Some fs) e es = refl
first_kept true None None e es = refl

kept_if : (k : Bool) (e : FunExpr) → kept k e ≡ (if k then unwrap_or (with_string e) e else e)
kept_if true e = refl
kept_if false e = refl

operands_kept_if : (k : Bool) (es : FunExprs) → operands_kept k es ≡ (if k then unwrap_or (with_string_in es) es else es)
operands_kept_if true es = refl
operands_kept_if false es = refl

kept_more : (k h : Bool) (e : FunExpr) (es : FunExprs) → is_some (with_string e) ≡ h → operands_kept k (tree.more e es) ≡ tree.more (kept (k && h) e) (operands_kept (k && not h) es)
kept_more k h e es is =
    operands_kept_if k (tree.more e es) ∙ first_kept k (with_string e) (with_string_in es) e es
    ∙ ap₂ tree.more (ap (λ b. if k && b then unwrap_or (with_string e) e else e) is ∙ sym (kept_if (k && h) e))
    (ap (λ b. if k && not b then unwrap_or (with_string_in es) es else es) is ∙ sym (operands_kept_if (k && not h) es))

kept_empty : (k : Bool) → operands_kept k tree.none ≡ tree.none
kept_empty true = refl
kept_empty false = refl

closed : (u : List ℕ) → codes "[" ++ u ++ codes "]" ≡ codes "[" ++ u ++ only_if false (codes "|\"\"") ++ codes "]"
closed u = ap (λ v. v ++ codes "]") (sym (append-nil (codes "[" ++ u)))

with_tail : (u : List ℕ) → codes "[" ++ u ++ codes "|" ++ codes "\"\"" ++ codes "]" ≡ codes "[" ++ u ++ codes "|\"\"" ++ codes "]"
with_tail u = ap (λ v. v ++ codes "]") (append_assoc (codes "[" ++ u) (codes "|") (codes "\"\""))

called_so : (s : Name) (u : List ℕ) → atom_text s ++ codes "(" ++ u ++ codes ")" ≡ called_text s u
called_so s u = ap (λ v. v ++ codes ")") (append_assoc (atom_text s) (codes "(") u) ∙ append_assoc (atom_text s) (codes "(" ++ u) (codes ")")

tuple_changed_is : (o : Option FunExprs) (es : FunExprs) → unwrap_or (tuple_changed o) (tree.tuple 0 es) ≡ tree.tuple 0 (unwrap_or o es)
tuple_changed_is (Some fs) es = refl
tuple_changed_is None es = refl

tuple_kept : (k : Bool) (es : FunExprs) → kept k (tree.tuple 0 es) ≡ tree.tuple 0 (operands_kept k es)
tuple_kept true es = tuple_changed_is (with_string_in es) es
tuple_kept false es = refl

-- ---- leaves

leaf_said : (n : ℕ) (k : Bool) → Fits n → (e : FunExpr) → with_string e ≡ None → expr_level e ≡ 7 → expr_text (in_level n (kept k e)) ≡ expr_text e
leaf_said n k f e none level = ap (λ x. expr_text (in_level n x)) (kept_none k e none) ∙ ap expr_text (in_level_if n e (ap (nat_le n) level ∙ f.leaf))

int_said : (n : ℕ) (k : Bool) → Fits n → (z : ℤ) → expr_text (in_level n (kept k (integer_expr (term.int z)))) ≡ signed_decimal z
int_said n k f (pos m) = leaf_said n k f (tree.whole 0 m) refl refl
int_said n k f (negsuc m) = ap (λ x. expr_text (in_level n x)) (kept_none k (tree.before 0 op.minus (tree.whole 0 (suc m))) refl) ∙ ap expr_text (in_level_if n (tree.before 0 op.minus (tree.whole 0 (suc m))) f.prefix)

characters_are : (ts : Trees) → flat_map string_character (map character_code (elements ts)) ≡ each_character ts
characters_are term.none = refl
characters_are (term.more t ts) = ap (λ u. string_character (character_code t) ++ u) (characters_are ts)

string_said : (ts : Trees) → expr_text (string_expr ts) ≡ fun_string_text ts
string_said ts = ap (λ u. 34 ∷ (u ++ 34 ∷ [])) (characters_are ts)

-- ---- atoms

-- the text of an expression that is no list and no operator, and that it is none
pub record IsLeafOf (e : FunExpr) (u : List ℕ) : Type 0 where
  pub text : expr_text e ≡ u
  pub none : with_string e ≡ None
  pub level : expr_level e ≡ 7

leaf_is : (x e : FunExpr) (u : List ℕ) → IsLeafOf x u → ◌≡◌ {A = OrReason FunExpr} (Ok x) (Ok e) → IsLeafOf e u
leaf_is x e u h is = subst (λ y. IsLeafOf y u) (ok_same x e is) h

plain_said : (w o b g : Bool) (s : Name) (e : FunExpr)
    → (if w then Ok (tree.variable 0 (codes "_")) else (if o then Ok (tree.call 0 (codes "object") tree.none) else (if b then Ok (tree.call 0 (codes "bindings") tree.none) else (if g then Err (no_dollar_atom s) else Ok (tree.atom 0 s))))) ≡ Ok e
    → IsLeafOf e (if w then codes "_" else (if o then codes "object()" else (if b then codes "bindings()" else atom_text s)))
unfolding is_written_bare
plain_said true o b g s e h = leaf_is _ e _ (record { text = refl; none = refl; level = refl }) h
plain_said false true b g s e h = leaf_is _ e _ (record { text = refl; none = refl; level = refl }) h
plain_said false false true g s e h = leaf_is _ e _ (record { text = refl; none = refl; level = refl }) h
plain_said false false false true s e h = absurd (cc)
plain_said false false false false s e h = leaf_is _ e _ (record { text = refl; none = refl; level = refl }) h

atom_said : (s : Name) (c : AtomKind) (e : FunExpr) → atom_printed s c ≡ Ok e → IsLeafOf e (expr_atom_text s c)
atom_said s (a_variable j) e h = leaf_is _ e _ (record { text = refl; none = refl; level = refl }) h
atom_said s a_wrong_variable e h = plain_said (is_wildcard s) (bytes_eq s (codes "$_")) (bytes_eq s (codes "$*")) (begins_with_dollar s) s e h
atom_said s a_plain_atom e h = plain_said (is_wildcard s) (bytes_eq s (codes "$_")) (bytes_eq s (codes "$*")) (begins_with_dollar s) s e h

leaf_text : (n : ℕ) (k : Bool) → Fits n → (e : FunExpr) (u : List ℕ) → IsLeafOf e u → expr_text (in_level n (kept k e)) ≡ u
leaf_text n k f e u h = leaf_said n k f e h.none h.level ∙ h.text

dollar_said : (b : Bool) (a : Name) (t : Tree) (e : FunExpr) → (if b then Ok (tree.atom 0 a) else Err (no_other_const t)) ≡ Ok e → IsLeafOf e (atom_text a)
dollar_said true a t e h = leaf_is _ e _ (record { text = refl; none = refl; level = refl }) h
dollar_said false a t e h = absurd (cc)

const_said : (t : Tree) (ts : Trees) (e : FunExpr) → const_printed t ts ≡ Ok e → IsLeafOf e (const_text ts)
const_said t term.none e h = absurd (cc)
const_said t (term.more (term.atom a) term.none) e h = dollar_said (begins_with_dollar a) a t e h
const_said t (term.more (term.atom a) (term.more x xs)) e h = absurd (cc)
const_said t (term.more (term.int z) ts) e h = absurd (cc)
const_said t (term.more (term.pid p) ts) e h = absurd (cc)
const_said t (term.more (term.tuple us) ts) e h = absurd (cc)
const_said t (term.more (term.list us) ts) e h = absurd (cc)

-- ---- operators and calls

ap_prefix : (o p : FunOperator) → Some o ≡ Some p → prefix_text o ≡ operator_name o ++ codes " " → prefix_text p ≡ operator_name p ++ codes " "
ap_prefix o p h is = subst (λ q. prefix_text q ≡ operator_name q ++ codes " ") (let e : o ≡ p = cc in e) is

-- `bnot` and `not` have a blank after them
prefix_named : (a b : Bool) (p : FunOperator) → (if a then Some op.bit_not else (if b then Some op.negation else None)) ≡ Some p → prefix_text p ≡ operator_name p ++ codes " "
prefix_named true b p h = ap_prefix op.bit_not p h refl
prefix_named false true p h = ap_prefix op.negation p h refl
prefix_named false false p h = absurd (cc)

unless_ok : (t : Tree) (a b : Bool) (r : OrReason FunExpr) (e : FunExpr) → unless_computed t a b r ≡ Ok e → r ≡ Ok e
unless_ok t true true r e h = h
unless_ok t true false r e h = absurd (cc)
unless_ok t false b r e h = h

no_string_in_operator : (o : FunOperator) (es : FunExprs) → with_string (operator_expr o es) ≡ None
no_string_in_operator o tree.none = refl
no_string_in_operator o (tree.more e tree.none) = refl
no_string_in_operator o (tree.more e (tree.more l tree.none)) = refl
no_string_in_operator o (tree.more e (tree.more l (tree.more m es))) = refl

operator_has_none : (o : FunOperator) (t : Tree) (ts : Trees) (a : Bool) (r : OrReason FunExprs) (e : FunExpr)
    → unless_computed t a (have_list ts) (then_print r (λ fs. Ok (operator_expr o (operands_kept a fs)))) ≡ Ok e → with_string e ≡ None
operator_has_none o t ts a r e h =
    let g = then_ok r (λ fs. Ok (operator_expr o (operands_kept a fs))) e (unless_ok t a (have_list ts) _ e h) in
    ap with_string (sym (ok_same _ e g.2)) ∙ no_string_in_operator o (operands_kept a g.0)

call_has_none : (c : PrintedCall) (s : Name) (t : Tree) (ts : Trees) (a : Bool) (r : OrReason FunExprs) (e : FunExpr) → call_printed c s t ts a r ≡ Ok e → with_string e ≡ None
call_has_none (prints_between o) s t ts a r e h = operator_has_none o t ts a r e h
call_has_none (prints_before o) s t ts a r e h = operator_has_none o t ts a r e h
call_has_none prints_call s t ts a r e h =
    let g = then_ok r (λ fs. Ok (tree.call 0 s fs)) e h in
    ap with_string (sym (ok_same _ e g.2))
call_has_none prints_nothing s t ts a r e h = absurd (cc)

changed_is : (o : Option FunExprs) → is_some (tuple_changed o) ≡ is_some o
changed_is (Some es) = refl
changed_is None = refl

list_has : (es : FunExprs) → is_some (with_string (tree.list 0 es)) ≡ true
list_has tree.none = refl
list_has (tree.more e es) = refl

first_is_some : (o : Option FunExpr) (e : FunExpr) (p : Option FunExprs) (es : FunExprs) → is_some (first_changed o e p es) ≡ (is_some o || is_some p)
first_is_some (Some f) e p es = refl
first_is_some None e (Some fs) es = refl
first_is_some None e None es = refl

list_printed_has : (b : Bool) (ts : Trees) (r : OrReason FunExprs) (e : FunExpr) → (if b then Ok (string_expr ts) else then_print r (λ es. Ok (tree.list 0 es))) ≡ Ok e → is_some (with_string e) ≡ not b
list_printed_has true ts r e h = ap (λ x. is_some (with_string x)) (sym (ok_same _ e h))
list_printed_has false ts r e h = let g = then_ok r (λ es. Ok (tree.list 0 es)) e h in ap (λ x. is_some (with_string x)) (sym (ok_same _ e g.2)) ∙ list_has g.0

named_has : (b : Bool) (t : Tree) (ts : Trees) (c : PrintedCall) (s : Name) (a : Bool) (r : OrReason FunExprs) (e : FunExpr)
    → (if b then const_printed t ts else call_printed c s t ts a r) ≡ Ok e → with_string e ≡ None
named_has true t ts c s a r e h = (const_said t ts e h).none
named_has false t ts c s a r e h = call_has_none c s t ts a r e h

not_two : (m : ℕ) → (m + 1 + 1 + 1 == 2) ≡ false
not_two m = grind (arith, nat_tests)

not_one : (m : ℕ) → (m + 1 + 1 + 1 == 1) ≡ false
not_one m = grind (arith, nat_tests)

module _ (d : Dialect) (part : Position) where
  abbrev computed : Name → Trees → Bool
  computed s ts = would_compute (computation_of (printed_call d part s (count ts)) (values_in_fun d part ts))

  mutual
    -- an expression has a list that takes a string where its term has one
    pub has_said : (t : Tree) (e : FunExpr) → expr_of_term d part t ≡ Ok e → is_some (with_string e) ≡ has_list t
    has_said (term.int (pos m)) e h = ap (λ x. is_some (with_string x)) (sym (ok_same _ e h))
    has_said (term.int (negsuc m)) e h = ap (λ x. is_some (with_string x)) (sym (ok_same _ e h))
    has_said (term.atom s) e h = ap is_some (atom_said s (atom_kind s) e h).none
    has_said (term.pid p) e h = absurd (cc)
    has_said (term.list ts) e h = list_printed_has (is_text ts) ts (exprs_of_terms d part ts) e h
    has_said (term.tuple term.none) e h = absurd (cc)
    has_said (term.tuple (term.more (term.tuple us) term.none)) e h =
        let g = then_ok (exprs_of_terms d part us) (λ es. Ok (tree.tuple 0 es)) e h in
        ap (λ x. is_some (with_string x)) (sym (ok_same _ e g.2)) ∙ changed_is (with_string_in g.0) ∙ have_said us g.0 g.1
    has_said (term.tuple (term.more (term.tuple us) (term.more x xs))) e h = absurd (cc)
    has_said (term.tuple (term.more (term.atom s) ts)) e h =
        ap is_some (named_has (bytes_eq s (codes "const")) (term.tuple (term.more (term.atom s) ts)) ts (printed_call d part s (count ts)) s (computed s ts) (exprs_of_terms d part ts) e h)
    has_said (term.tuple (term.more (term.int z) ts)) e h = absurd (cc)
    has_said (term.tuple (term.more (term.pid p) ts)) e h = absurd (cc)
    has_said (term.tuple (term.more (term.list us) ts)) e h = absurd (cc)

    pub have_said : (ts : Trees) (es : FunExprs) → exprs_of_terms d part ts ≡ Ok es → is_some (with_string_in es) ≡ have_list ts
    have_said term.none es h = ap (λ x. is_some (with_string_in x)) (sym (ok_same _ es h))
    have_said (term.more t ts) es h =
        let g = then_ok (expr_of_term d part t) _ es h in
        let i = then_ok (exprs_of_terms d part ts) (λ fs. Ok (tree.more g.0 fs)) es g.2 in
        ap (λ x. is_some (with_string_in x)) (sym (ok_same _ es i.2)) ∙ first_is_some (with_string g.0) g.0 (with_string_in i.0) i.0
        ∙ ap₂ (λ a b. a || b) (has_said t g.0 g.1) (have_said ts i.0 i.1)

  -- ---- expressions

  list_said : (n : ℕ) (k : Bool) → Fits n → (es : FunExprs) (ts : Trees) → exprs_of_terms d part ts ≡ Ok es → joined_from [] (codes ", ") (expr_texts es) ≡ items_text d part [] false ts
      → expr_text (in_level n (kept k (tree.list 0 es))) ≡ list_text k ts (items_text d part [] false ts)
  list_said n false f es ts h is = ap expr_text (in_level_if n (tree.list 0 es) f.leaf) ∙ ap (λ u. codes "[" ++ u ++ codes "]") (joined_is (codes ", ") (expr_texts es) ∙ is) ∙ closed (items_text d part [] false ts)
  list_said n true f es term.none h is =
      subst (λ x. expr_text (in_level n (kept true (tree.list 0 x))) ≡ codes "\"\"") (ok_same tree.none es h) (ap expr_text (in_level_if n (tree.strings 0 [] []) f.leaf))
  list_said n true f es (term.more t ts) h is =
      let g = then_ok (expr_of_term d part t) _ es h in
      let i = then_ok (exprs_of_terms d part ts) (λ fs. Ok (tree.more g.0 fs)) es g.2 in
      let same = ok_same (tree.more g.0 i.0) es i.2 in
      ap (λ x. expr_text (in_level n (kept true (tree.list 0 x)))) (sym same)
      ∙ ap expr_text (in_level_if n (tree.list_onto 0 (tree.more g.0 i.0) (tree.strings 0 [] [])) f.leaf)
      ∙ ap (λ u. codes "[" ++ u ++ codes "|" ++ codes "\"\"" ++ codes "]") (joined_is (codes ", ") (expr_texts (tree.more g.0 i.0)) ∙ ap (λ x. joined_from [] (codes ", ") (expr_texts x)) same ∙ is)
      ∙ with_tail (items_text d part [] false (term.more t ts))

  list_printed_said : (b : Bool) (n : ℕ) (k : Bool) → Fits n → (ts : Trees) (e : FunExpr)
      → ((es : FunExprs) → exprs_of_terms d part ts ≡ Ok es → joined_from [] (codes ", ") (expr_texts es) ≡ items_text d part [] false ts)
      → (if b then Ok (string_expr ts) else then_print (exprs_of_terms d part ts) (λ es. Ok (tree.list 0 es))) ≡ Ok e
      → expr_text (in_level n (kept k e)) ≡ (if b then fun_string_text ts else list_text k ts (items_text d part [] false ts))
  list_printed_said true n k f ts e each h =
      ap (λ x. expr_text (in_level n (kept k x))) (sym (ok_same _ e h)) ∙ leaf_said n k f (string_expr ts) refl refl ∙ string_said ts
  list_printed_said false n k f ts e each h =
      let g = then_ok (exprs_of_terms d part ts) (λ es. Ok (tree.list 0 es)) e h in
      ap (λ x. expr_text (in_level n (kept k x))) (sym (ok_same _ e g.2)) ∙ list_said n k f g.0 ts g.1 (each g.0 g.1)

  tuple_said : (n : ℕ) (k : Bool) → Fits n → (es : FunExprs) → expr_text (in_level n (kept k (tree.tuple 0 es))) ≡ with_ends (codes "{") (joined_from [] (codes ", ") (expr_texts (operands_kept k es))) (codes "}")
  tuple_said n k f es = ap (λ x. expr_text (in_level n x)) (tuple_kept k es) ∙ ap expr_text (in_level_if n (tree.tuple 0 (operands_kept k es)) f.leaf) ∙ ap (λ u. codes "{" ++ u ++ codes "}") (joined_is (codes ", ") (expr_texts (operands_kept k es)))

  -- an operator between two
  between_said : (n : ℕ) (k : Bool) (o : FunOperator) (l r : FunExpr) (u v : List ℕ) → expr_text (in_level (left_level (operator_binding o)) l) ≡ u → expr_text (in_level (right_level (operator_binding o)) r) ≡ v
      → expr_text (in_level n (kept k (operator_expr o (tree.more l (tree.more r tree.none))))) ≡ between_text n o u v
  between_said n k o l r u v is js =
      ap (λ x. expr_text (in_level n x)) (kept_none k (operator_expr o (tree.more l (tree.more r tree.none))) refl)
      ∙ in_level_text n (level_of (operator_binding o)) (operator_expr o (tree.more l (tree.more r tree.none))) refl
      ∙ ap₂ (λ x y. only_if (nat_lt (level_of (operator_binding o)) n) (codes "(") ++ (x ++ codes " " ++ operator_name o ++ codes " " ++ y) ++ only_if (nat_lt (level_of (operator_binding o)) n) (codes ")")) is js

  -- one before its operand
  before_said : (n : ℕ) (k : Bool) → Fits n → (o : FunOperator) (l : FunExpr) (u : List ℕ) → prefix_text o ≡ operator_name o ++ codes " " → expr_text (in_level PREFIX_LEVEL l) ≡ u
      → expr_text (in_level n (kept k (operator_expr o (tree.more l tree.none)))) ≡ before_text o u
  before_said n k f o l u name is =
      ap (λ x. expr_text (in_level n x)) (kept_none k (operator_expr o (tree.more l tree.none)) refl)
      ∙ ap expr_text (in_level_if n (operator_expr o (tree.more l tree.none)) f.prefix) ∙ ap₂ (λ x y. x ++ y) name is

  called_said : (n : ℕ) (k : Bool) → Fits n → (s : Name) (es : FunExprs) (u : List ℕ) → joined_from [] (codes ", ") (expr_texts es) ≡ u → expr_text (in_level n (kept k (tree.call 0 s es))) ≡ called_text s u
  called_said n k f s es u is = leaf_said n k f (tree.call 0 s es) refl refl ∙ ap (λ x. atom_text s ++ codes "(" ++ x ++ codes ")") (joined_is (codes ", ") (expr_texts es) ∙ is) ∙ called_so s u

  -- a call that is no operator
  or_call_said : (n : ℕ) (k : Bool) → Fits n → (b : Bool) (s : Name) (t : Tree) (ts : Trees) (a : Bool) (e : FunExpr) (first second : ℕ → List ℕ) (each : List ℕ)
      → ((es : FunExprs) → exprs_of_terms d part ts ≡ Ok es → joined_from [] (codes ", ") (expr_texts es) ≡ each)
      → call_printed (if b then prints_call else prints_nothing) s t ts a (exprs_of_terms d part ts) ≡ Ok e
      → expr_text (in_level n (kept k e)) ≡ fun_call_text (if b then prints_call else prints_nothing) n s first second each
  or_call_said n k f false s t ts a e first second each is h = absurd (cc)
  or_call_said n k f true s t ts a e first second each is h =
      let g = then_ok (exprs_of_terms d part ts) (λ fs. Ok (tree.call 0 s fs)) e h in
      ap (λ x. expr_text (in_level n (kept k x))) (sym (ok_same _ e g.2)) ∙ called_said n k f s g.0 each (is g.0 g.1)

  -- ---- arguments

  -- what of an expression is said of its term
  abbrev SaidOf : Tree → Type 0
  SaidOf t = (n : ℕ) (k : Bool) → Fits n → (e : FunExpr) → expr_of_term d part t ≡ Ok e → expr_text (in_level n (kept k e)) ≡ fun_expr_text d part n k t

  -- of a call with one argument
  one_said : (n : ℕ) (k : Bool) → Fits n → (o : Option FunOperator) (b : Bool) (s : Name) (t x : Tree) (a : Bool) (e : FunExpr) (second : ℕ → List ℕ) (each : List ℕ)
      → ((p : FunOperator) → o ≡ Some p → prefix_text p ≡ operator_name p ++ codes " ") → SaidOf x
      → ((es : FunExprs) → exprs_of_terms d part (term.more x term.none) ≡ Ok es → joined_from [] (codes ", ") (expr_texts es) ≡ each)
      → call_printed (before_or o (if b then prints_call else prints_nothing)) s t (term.more x term.none) a (exprs_of_terms d part (term.more x term.none)) ≡ Ok e
      → expr_text (in_level n (kept k e)) ≡ fun_call_text (before_or o (if b then prints_call else prints_nothing)) n s (λ m. first_text d part m a (term.more x term.none)) second each
  one_said n k f None b s t x a e second each names said is h = or_call_said n k f b s t (term.more x term.none) a e (λ m. first_text d part m a (term.more x term.none)) second each is h
  one_said n k f (Some o) b s t x a e second each names said is h =
      let g = then_ok (exprs_of_terms d part (term.more x term.none)) (λ fs. Ok (operator_expr o (operands_kept a fs))) e (unless_ok t a (have_list (term.more x term.none)) _ e h) in
      let i = then_ok (expr_of_term d part x) _ g.0 g.1 in
      let same : tree.more i.0 tree.none ≡ g.0 = ok_same (tree.more i.0 tree.none) g.0 i.2 in
      ap (λ y. expr_text (in_level n (kept k y))) (sym (ok_same _ e g.2))
      ∙ ap (λ y. expr_text (in_level n (kept k (operator_expr o (operands_kept a y))))) (sym same)
      ∙ ap (λ y. expr_text (in_level n (kept k (operator_expr o y)))) (kept_more a (has_list x) i.0 tree.none (has_said x i.0 i.1) ∙ ap (λ y. tree.more (kept (a && has_list x) i.0) y) (kept_empty (a && not (has_list x))))
      ∙ before_said n k f o (kept (a && has_list x) i.0) _ (names o refl) (said PREFIX_LEVEL (a && has_list x) fits_prefix i.0 i.1)

  -- with two
  two_said : (n : ℕ) (k : Bool) → Fits n → (o : Option FunOperator) (b : Bool) (s : Name) (t x y : Tree) (a : Bool) (e : FunExpr) (each : List ℕ)
      → SaidOf x → SaidOf y
      → ((es : FunExprs) → exprs_of_terms d part (term.more x (term.more y term.none)) ≡ Ok es → joined_from [] (codes ", ") (expr_texts es) ≡ each)
      → call_printed (between_or o (if b then prints_call else prints_nothing)) s t (term.more x (term.more y term.none)) a (exprs_of_terms d part (term.more x (term.more y term.none))) ≡ Ok e
      → expr_text (in_level n (kept k e)) ≡ fun_call_text (between_or o (if b then prints_call else prints_nothing)) n s (λ m. first_text d part m a (term.more x (term.more y term.none))) (λ m. second_text d part m a (term.more x (term.more y term.none))) each
  two_said n k f None b s t x y a e each said more_said is h =
      or_call_said n k f b s t (term.more x (term.more y term.none)) a e (λ m. first_text d part m a (term.more x (term.more y term.none))) (λ m. second_text d part m a (term.more x (term.more y term.none))) each is h
  two_said n k f (Some o) b s t x y a e each said more_said is h =
      let ts : Trees = term.more x (term.more y term.none) in
      let g = then_ok (exprs_of_terms d part ts) (λ fs. Ok (operator_expr o (operands_kept a fs))) e (unless_ok t a (have_list ts) _ e h) in
      let i = then_ok (expr_of_term d part x) _ g.0 g.1 in
      let j = then_ok (exprs_of_terms d part (term.more y term.none)) (λ fs. Ok (tree.more i.0 fs)) g.0 i.2 in
      let l = then_ok (expr_of_term d part y) _ j.0 j.1 in
      let last : tree.more l.0 tree.none ≡ j.0 = ok_same (tree.more l.0 tree.none) j.0 l.2 in
      let same : tree.more i.0 (tree.more l.0 tree.none) ≡ g.0 = ap (λ z. tree.more i.0 z) last ∙ ok_same (tree.more i.0 j.0) g.0 j.2 in
      let c : Bool = a && not (has_list x) in
      ap (λ z. expr_text (in_level n (kept k z))) (sym (ok_same _ e g.2))
      ∙ ap (λ z. expr_text (in_level n (kept k (operator_expr o (operands_kept a z))))) (sym same)
      ∙ ap (λ z. expr_text (in_level n (kept k (operator_expr o z))))
      (kept_more a (has_list x) i.0 (tree.more l.0 tree.none) (has_said x i.0 i.1)
      ∙ ap (λ z. tree.more (kept (a && has_list x) i.0) z) (kept_more c (has_list y) l.0 tree.none (has_said y l.0 l.1) ∙ ap (λ z. tree.more (kept (c && has_list y) l.0) z) (kept_empty (c && not (has_list y)))))
      ∙ between_said n k o (kept (a && has_list x) i.0) (kept (c && has_list y) l.0) _ _
      (said (left_level (operator_binding o)) (a && has_list x) (fits_left o) i.0 i.1) (more_said (right_level (operator_binding o)) (c && has_list y) (fits_right o) l.0 l.1)

  -- a constant or a call
  either_said : (b : Bool) (n : ℕ) (k : Bool) → Fits n → (t : Tree) (ts : Trees) (c : PrintedCall) (s : Name) (a : Bool) (r : OrReason FunExprs) (e : FunExpr) (u : List ℕ)
      → (call_printed c s t ts a r ≡ Ok e → expr_text (in_level n (kept k e)) ≡ u)
      → (if b then const_printed t ts else call_printed c s t ts a r) ≡ Ok e → expr_text (in_level n (kept k e)) ≡ (if b then const_text ts else u)
  either_said true n k f t ts c s a r e u said h = leaf_text n k f e (const_text ts) (const_said t ts e h)
  either_said false n k f t ts c s a r e u said h = said h

  -- of each of several
  abbrev AllSaid : Trees → Type 0
  AllSaid term.none = Unit {0}
  AllSaid (term.more t ts) = SaidOf t × AllSaid ts

  -- of all arguments of a call
  abbrev ItemsSaid : Trees → Type 0
  ItemsSaid ts = (es : FunExprs) → exprs_of_terms d part ts ≡ Ok es → joined_from [] (codes ", ") (expr_texts es) ≡ items_text d part [] false ts

  other_call : (s : Name) (n : ℕ) → (n == 2) ≡ false → (n == 1) ≡ false → printed_call d part s n ≡ or_call d part s n
  other_call s n two one =
      ap (λ b. if b then between_or (operator_named infix_operators s) (or_call d part s n) else (if n == 1 then before_or (operator_named prefix_operators s) (or_call d part s n) else or_call d part s n)) two
      ∙ ap (λ b. if b then before_or (operator_named prefix_operators s) (or_call d part s n) else or_call d part s n) one

  call_said : (n : ℕ) (k : Bool) → Fits n → (s : Name) (t : Tree) (ts : Trees) (a : Bool) (e : FunExpr) → AllSaid ts → ItemsSaid ts
      → call_printed (printed_call d part s (count ts)) s t ts a (exprs_of_terms d part ts) ≡ Ok e
      → expr_text (in_level n (kept k e)) ≡ fun_call_text (printed_call d part s (count ts)) n s (λ m. first_text d part m a ts) (λ m. second_text d part m a ts) (items_text d part [] false ts)
  call_said n k f s t term.none a e all items h = or_call_said n k f (may_call d part s 0) s t term.none a e _ _ _ items h
  call_said n k f s t (term.more x term.none) a e all items h =
      one_said n k f (operator_named prefix_operators s) (may_call d part s 1) s t x a e _ _ (prefix_named (bytes_eq (operator_name op.bit_not) s) (bytes_eq (operator_name op.negation) s)) all.0 items h
  call_said n k f s t (term.more x (term.more y term.none)) a e all items h =
      two_said n k f (operator_named infix_operators s) (may_call d part s 2) s t x y a e _ all.0 all.1.0 items h
  call_said n k f s t (term.more x (term.more y (term.more z zs))) a e all items h =
      let ts : Trees = term.more x (term.more y (term.more z zs)) in
      let c : printed_call d part s (count ts) ≡ or_call d part s (count ts) = other_call s (count ts) (not_two (count zs)) (not_one (count zs)) in
      or_call_said n k f (may_call d part s (count ts)) s t ts a e (λ m. first_text d part m a ts) (λ m. second_text d part m a ts) (items_text d part [] false ts) items
      (subst (λ p. call_printed p s t ts a (exprs_of_terms d part ts) ≡ Ok e) c h)
      ∙ ap (λ p. fun_call_text p n s (λ m. first_text d part m a ts) (λ m. second_text d part m a ts) (items_text d part [] false ts)) (sym c)

  mutual
    pub said : (t : Tree) → SaidOf t
    said (term.int z) n k f e h = ap (λ x. expr_text (in_level n (kept k x))) (sym (ok_same _ e h)) ∙ int_said n k f z
    said (term.atom s) n k f e h = leaf_text n k f e (expr_atom_text s (atom_kind s)) (atom_said s (atom_kind s) e h)
    said (term.pid p) n k f e h = absurd (cc)
    said (term.list ts) n k f e h = list_printed_said (is_text ts) n k f ts e (λ es is. items_said false ts es [] is) h
    said (term.tuple term.none) n k f e h = absurd (cc)
    said (term.tuple (term.more (term.tuple us) term.none)) n k f e h =
        let g = then_ok (exprs_of_terms d part us) (λ es. Ok (tree.tuple 0 es)) e h in
        ap (λ x. expr_text (in_level n (kept k x))) (sym (ok_same _ e g.2)) ∙ tuple_said n k f g.0
        ∙ ap (λ u. with_ends (codes "{") u (codes "}")) (items_said k us g.0 [] g.1)
    said (term.tuple (term.more (term.tuple us) (term.more x xs))) n k f e h = absurd (cc)
    said (term.tuple (term.more (term.atom s) ts)) n k f e h =
        either_said (bytes_eq s (codes "const")) n k f (term.tuple (term.more (term.atom s) ts)) ts (printed_call d part s (count ts)) s (computed s ts) (exprs_of_terms d part ts) e _
        (λ i. call_said n k f s (term.tuple (term.more (term.atom s) ts)) ts (computed s ts) e (all_said ts) (λ es is. items_said false ts es [] is) i) h
    said (term.tuple (term.more (term.int z) ts)) n k f e h = absurd (cc)
    said (term.tuple (term.more (term.pid p) ts)) n k f e h = absurd (cc)
    said (term.tuple (term.more (term.list us) ts)) n k f e h = absurd (cc)

    all_said : (ts : Trees) → AllSaid ts
    all_said term.none = tt
    all_said (term.more t ts) = (said t, all_said ts)

    pub items_said : (k : Bool) (ts : Trees) (es : FunExprs) (c : List ℕ) → exprs_of_terms d part ts ≡ Ok es → joined_from c (codes ", ") (expr_texts (operands_kept k es)) ≡ items_text d part c k ts
    items_said k term.none es c h = ap (λ x. joined_from c (codes ", ") (expr_texts x)) (ap (operands_kept k) (sym (ok_same tree.none es h)) ∙ kept_empty k)
    items_said k (term.more t ts) es c h =
        let g = then_ok (expr_of_term d part t) _ es h in
        let i = then_ok (exprs_of_terms d part ts) (λ fs. Ok (tree.more g.0 fs)) es g.2 in
        ap (λ x. joined_from c (codes ", ") (expr_texts (operands_kept k x))) (sym (ok_same (tree.more g.0 i.0) es i.2))
        ∙ ap (λ x. joined_from c (codes ", ") (expr_texts x)) (kept_more k (has_list t) g.0 i.0 (has_said t g.0 g.1))
        ∙ ap₂ (λ u v. c ++ u ++ v) (in_no_level (kept (k && has_list t) g.0) ∙ said t 0 (k && has_list t) fits_none g.0 g.1) (items_said (k && not (has_list t)) ts i.0 (codes ", ") i.1)

-- ---- heads

variable_pattern_said : (b : Bool) (g j : ℕ) (r : NoFunReason) (p : PrintedPattern) → (if b then Err r else Ok (numbered_variable j, max g j)) ≡ Ok p → expr_text p.0 ≡ variable_text j
variable_pattern_said true g j r p h = absurd (cc)
variable_pattern_said false g j r p h = ap (λ q. expr_text q.0) (sym (ok_same _ p h))

plain_pattern_said : (w v : Bool) (g : ℕ) (s : Name) (p : PrintedPattern)
    → (if w then Ok (tree.variable 0 (codes "_"), g) else (if v then Err (no_head_atom s) else Ok (tree.atom 0 s, g))) ≡ Ok p → expr_text p.0 ≡ (if w then codes "_" else atom_text s)
plain_pattern_said true v g s p h = ap (λ q. expr_text q.0) (sym (ok_same _ p h))
plain_pattern_said false true g s p h = absurd (cc)
plain_pattern_said false false g s p h = ap (λ q. expr_text q.0) (sym (ok_same _ p h))

pattern_atom_said : (g : ℕ) (s : Name) (c : AtomKind) (p : PrintedPattern) → pattern_atom g s c ≡ Ok p → expr_text p.0 ≡ pattern_atom_text s c
pattern_atom_said g s (a_variable j) p h = variable_pattern_said ((j == 0) || nat_lt (g + 1) j) g j (wrong_order j (g + 1)) p h
pattern_atom_said g s a_wrong_variable p h = plain_pattern_said (is_wildcard s) (is_variable_atom s) g s p h
pattern_atom_said g s a_plain_atom p h = plain_pattern_said (is_wildcard s) (is_variable_atom s) g s p h

int_pattern_said : (z : ℤ) → expr_text (integer_expr (term.int z)) ≡ signed_decimal z
int_pattern_said (pos m) = refl
int_pattern_said (negsuc m) = refl

list_pattern_said : (b : Bool) (g : ℕ) (ts : Trees) (r : OrReason (FunExprs × ℕ)) (p : PrintedPattern)
    → ((q : FunExprs × ℕ) → r ≡ Ok q → joined_from [] (codes ", ") (expr_texts q.0) ≡ patterns_text [] ts)
    → (if b then Ok (string_expr ts, g) else then_print r (λ q. Ok (tree.list 0 q.0, q.1))) ≡ Ok p
    → expr_text p.0 ≡ (if b then fun_string_text ts else with_ends (codes "[") (patterns_text [] ts) (codes "]"))
list_pattern_said true g ts r p is h = ap (λ q. expr_text q.0) (sym (ok_same _ p h)) ∙ string_said ts
list_pattern_said false g ts r p is h =
    let i = then_ok r (λ q. Ok (tree.list 0 q.0, q.1)) p h in
    ap (λ q. expr_text q.0) (sym (ok_same _ p i.2)) ∙ ap (λ u. codes "[" ++ u ++ codes "]") (joined_is (codes ", ") (expr_texts i.0.0) ∙ is i.0 i.1)

mutual
  pub pattern_said : (g : ℕ) (t : Tree) (p : PrintedPattern) → pattern_of_term g t ≡ Ok p → expr_text p.0 ≡ pattern_text t
  pattern_said g (term.int z) p h = ap (λ q. expr_text q.0) (sym (ok_same _ p h)) ∙ int_pattern_said z
  pattern_said g (term.atom s) p h = pattern_atom_said g s (atom_kind s) p h
  pattern_said g (term.pid n) p h = absurd (cc)
  pattern_said g (term.tuple ts) p h =
      let i = then_ok (patterns_of_terms g ts) (λ q. Ok (tree.tuple 0 q.0, q.1)) p h in
      ap (λ q. expr_text q.0) (sym (ok_same _ p i.2)) ∙ ap (λ u. codes "{" ++ u ++ codes "}") (joined_is (codes ", ") (expr_texts i.0.0) ∙ patterns_said g ts i.0 [] i.1)
  pattern_said g (term.list ts) p h = list_pattern_said (is_text ts) g ts (patterns_of_terms g ts) p (λ q is. patterns_said g ts q [] is) h

  pub patterns_said : (g : ℕ) (ts : Trees) (q : FunExprs × ℕ) (c : List ℕ) → patterns_of_terms g ts ≡ Ok q → joined_from c (codes ", ") (expr_texts q.0) ≡ patterns_text c ts
  patterns_said g term.none q c h = ap (λ x. joined_from c (codes ", ") (expr_texts x.0)) (sym (ok_same _ q h))
  patterns_said g (term.more t ts) q c h =
      let i = then_ok (pattern_of_term g t) _ q h in
      let j = then_ok (patterns_of_terms i.0.1 ts) (λ x. Ok (tree.more i.0.0 x.0, x.1)) q i.2 in
      ap (λ x. joined_from c (codes ", ") (expr_texts x.0)) (sym (ok_same _ q j.2))
      ∙ ap₂ (λ u v. c ++ u ++ v) (pattern_said g t i.0 i.1) (patterns_said i.0.1 ts j.0 (codes ", ") j.1)

pub head_said : (t : Tree) (p : PrintedPattern) → head_of_term t ≡ Ok p → expr_text p.0 ≡ head_text t
head_said (term.list ts) p h =
    let i = then_ok (patterns_of_terms 0 ts) (λ q. Ok (tree.list 0 q.0, q.1)) p h in
    ap (λ q. expr_text q.0) (sym (ok_same _ p i.2)) ∙ ap (λ u. codes "[" ++ u ++ codes "]") (joined_is (codes ", ") (expr_texts i.0.0) ∙ patterns_said 0 ts i.0 [] i.1)
head_said (term.int z) p h = pattern_said 0 (term.int z) p h
head_said (term.atom s) p h = pattern_said 0 (term.atom s) p h
head_said (term.pid n) p h = pattern_said 0 (term.pid n) p h
head_said (term.tuple ts) p h = pattern_said 0 (term.tuple ts) p h

-- ---- clauses

parts_said : (d : Dialect) (part : Position) (n : ℕ) (p : ℕ → ClausePart) (k : ℕ) (ts : Trees) (us : List (List ℕ)) (c : List ℕ) → parts_printed d part n p k ts ≡ Ok us → joined_from c (codes ", ") us ≡ items_text d part c false ts
parts_said d part n p k term.none us c h = ap (λ x. joined_from c (codes ", ") x) (sym (ok_same _ us h))
parts_said d part n p k (term.more t ts) us c h =
    let i = then_clause_ok (reason_at n (p k) (expr_of_term d part t)) _ us h in
    let j = then_clause_ok (parts_printed d part n p (k + 1) ts) (λ xs. Ok (expr_text i.0 ∷ xs)) us i.2 in
    ap (λ x. joined_from c (codes ", ") x) (sym (ok_same _ us j.2))
    ∙ ap₂ (λ u v. c ++ u ++ v) (in_no_level i.0 ∙ said d part t 0 false fits_none i.0 (reason_at_ok n (p k) (expr_of_term d part t) i.0 i.1)) (parts_said d part n p (k + 1) ts j.0 (codes ", ") j.1)

when_said : (d : Dialect) (n k : ℕ) (ts : Trees) (us : List (List ℕ)) → parts_printed d in_condition n the_condition k ts ≡ Ok us → when_text us ≡ conditions_text d ts
when_said d n k term.none us h = ap when_text (sym (ok_same _ us h))
when_said d n k (term.more t ts) us h =
    let i = then_clause_ok (reason_at n (the_condition k) (expr_of_term d in_condition t)) _ us h in
    let j = then_clause_ok (parts_printed d in_condition n the_condition (k + 1) ts) (λ xs. Ok (expr_text i.0 ∷ xs)) us i.2 in
    ap when_text (sym (ok_same _ us j.2)) ∙ ap (λ u. codes " when " ++ u) (joined_is (codes ", ") (expr_text i.0 ∷ j.0) ∙ ap (λ x. joined_from [] (codes ", ") x) (ok_same _ us j.2) ∙ parts_said d in_condition n the_condition k (term.more t ts) us [] h)

body_said : (d : Dialect) (n : ℕ) (ts : Trees) (us : List (List ℕ)) → body_printed d n ts ≡ Ok us → joined_with (codes ", ") us ≡ items_text d in_body [] false ts
body_said d n term.none us h = absurd (cc)
body_said d n (term.more t ts) us h = joined_is (codes ", ") us ∙ parts_said d in_body n the_expression 1 (term.more t ts) us [] h

parts_text_said : (d : Dialect) (n : ℕ) (h : Tree) (cs bs : Trees) (u : List ℕ) → clause_of_parts_printed d n h cs bs ≡ Ok u → u ≡ parts_text d h cs bs
parts_text_said d n h cs bs u is =
    let i = then_clause_ok (reason_at n the_head (head_of_term h)) _ u is in
    let j = then_clause_ok (parts_printed d in_condition n the_condition 1 cs) _ u i.2 in
    let l = then_clause_ok (body_printed d n bs) (λ es. Ok (codes "(" ++ expr_text i.0.0 ++ codes ")" ++ when_text j.0 ++ codes " -> " ++ joined_with (codes ", ") es)) u j.2 in
    sym (ok_same _ u l.2)
    ∙ ap₂ (λ x y. codes "(" ++ x ++ codes ")" ++ y ++ codes " -> " ++ joined_with (codes ", ") l.0) (head_said h i.0 (reason_at_ok n the_head (head_of_term h) i.0 i.1)) (when_said d n 1 cs j.0 j.1)
    ∙ ap (λ y. codes "(" ++ head_text h ++ codes ")" ++ conditions_text d cs ++ codes " -> " ++ y) (body_said d n bs l.0 l.1)

clause_said : (d : Dialect) (n : ℕ) (t : Tree) (u : List ℕ) → clause_printed d n t ≡ Ok u → u ≡ fun_clause_text d t
clause_said d n (term.int z) u h = absurd (cc)
clause_said d n (term.atom s) u h = absurd (cc)
clause_said d n (term.pid p) u h = absurd (cc)
clause_said d n (term.list ts) u h = absurd (cc)
clause_said d n (term.tuple term.none) u h = absurd (cc)
clause_said d n (term.tuple (term.more x term.none)) u h = absurd (cc)
clause_said d n (term.tuple (term.more x (term.more (term.int z) ts))) u h = absurd (cc)
clause_said d n (term.tuple (term.more x (term.more (term.atom s) ts))) u h = absurd (cc)
clause_said d n (term.tuple (term.more x (term.more (term.pid p) ts))) u h = absurd (cc)
clause_said d n (term.tuple (term.more x (term.more (term.tuple us) ts))) u h = absurd (cc)
clause_said d n (term.tuple (term.more x (term.more (term.list cs) term.none))) u h = absurd (cc)
clause_said d n (term.tuple (term.more x (term.more (term.list cs) (term.more (term.int z) ts)))) u h = absurd (cc)
clause_said d n (term.tuple (term.more x (term.more (term.list cs) (term.more (term.atom s) ts)))) u h = absurd (cc)
clause_said d n (term.tuple (term.more x (term.more (term.list cs) (term.more (term.pid p) ts)))) u h = absurd (cc)
clause_said d n (term.tuple (term.more x (term.more (term.list cs) (term.more (term.tuple us) ts)))) u h = absurd (cc)
clause_said d n (term.tuple (term.more x (term.more (term.list cs) (term.more (term.list bs) term.none)))) u h = parts_text_said d n x cs bs u h
clause_said d n (term.tuple (term.more x (term.more (term.list cs) (term.more (term.list bs) (term.more y ys))))) u h = absurd (cc)

clauses_said : (d : Dialect) (n : ℕ) (ts : Trees) (us : List (List ℕ)) (c : List ℕ) → clauses_printed d n ts ≡ Ok us → joined_from c CLAUSE_BREAK us ≡ clauses_text d c ts
clauses_said d n term.none us c h = ap (λ x. joined_from c CLAUSE_BREAK x) (sym (ok_same _ us h))
clauses_said d n (term.more t ts) us c h =
    let i = then_clause_ok (clause_printed d n t) _ us h in
    let j = then_clause_ok (clauses_printed d (n + 1) ts) (λ xs. Ok (i.0 ∷ xs)) us i.2 in
    ap (λ x. joined_from c CLAUSE_BREAK x) (sym (ok_same _ us j.2)) ∙ ap₂ (λ u v. c ++ u ++ v) (clause_said d n t i.0 i.1) (clauses_said d (n + 1) ts j.0 CLAUSE_BREAK j.1)

-- what is printed is what is written
pub fun_said : (d : Dialect) (t : Tree) (u : List ℕ) → fun_printed d t ≡ Ok u → u ≡ whole_text d t
fun_said d (term.list ts) u h =
    let i = then_clause_ok (clauses_printed d 1 ts) (λ ks. Ok (fun_text ks)) u h in
    sym (ok_same _ u i.2) ∙ ap (λ x. codes "fun" ++ x ++ codes " end") (joined_is CLAUSE_BREAK i.0 ∙ clauses_said d 1 ts i.0 [] i.1)
fun_said d (term.int z) u h = absurd (cc)
fun_said d (term.atom s) u h = absurd (cc)
fun_said d (term.pid p) u h = absurd (cc)
fun_said d (term.tuple ts) u h = absurd (cc)
