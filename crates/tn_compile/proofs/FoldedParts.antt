-- Expressions that are folded one after another, and constants whose terms are taken out.
use Rattle.std.proofs.Common.{◌≡◌, ℕ, ◌+◌, ◌<◌, ◌≤◌, List, [], ◌∷◌, ◌++◌, length, map, drop, get_or, Option, Some, None, is_some, Bool, true, false, refl, sym, ap, ◌∙◌, arith, append_assoc, option_map}
use Rattle.std.proofs.lemmas.List.{drop_more, drop_all, append-nil}
use Rattle.def_term.specs.Tree.{Tree, Trees}
use Rattle.def_spec.specs.Expressions as ex
use Rattle.def_spec.specs.Expressions.{Exprs, no_exprs, and_expr, bound_to, whole_list, all_bound, constant, tuple_of, list_of, call, and_also, or_else, perform}
use Rattle.def_spec.specs.Laws.{trees_before}
use Rattle.def_machine.specs.HeadFolds.{term_before}
use Rattle.def_machine.specs.ExprFolds.{term_in, constant_terms, constant_or, fold_expr, folded_exprs}
use Rattle.tn_code.specs.declared.instr.Kind.{Kind}
use Rattle.tn_spec.specs.Sizes.{expr_size, exprs_size}
use Rattle.tn_spec.specs.Views.{expr_seen, exprs_from, exprs_seen}
use Rattle.tn_spec.specs.declared.expr.Expr.{Expr}
use Rattle.tn_compile.specs.Folds.{shape_term, shape_expr, shape_folded}
use Rattle.tn_compile.proofs.Alone.{some-before, none-before, first-some, mapped-some, mapped-more, some-of}

-- ---- folding

-- each expression folded
abbrev pub folds : {A : Type 0} → List (Expr A) → List ex.Expr
folds es = map (λ e. fold_expr (expr_seen e)) es

pub folds-more : {A : Type 0} (es : List (Expr A)) (i : ℕ) (e : Expr A) (fs gs total : List ex.Expr) (f : ex.Expr) → i < length es → e ≡ get_or es i e → f ≡ fold_expr (expr_seen e) → gs ≡ fs ++ f ∷ [] → fs ++ folds (drop i es) ≡ total → gs ++ folds (drop (i + 1) es) ≡ total
folds-more es i e fs gs total f below is folded pushed h =
    ap (λ x. x ++ folds (drop (i + 1) es)) pushed
    ∙ append_assoc fs (f ∷ []) (folds (drop (i + 1) es))
    ∙ ap (λ x. fs ++ x ∷ folds (drop (i + 1) es)) folded
    ∙ sym (ap (λ x. fs ++ folds x) (drop_more es i e below ∙ ap (λ x. x ∷ drop (i + 1) es) (sym is)))
    ∙ h

folds-all : {A : Type 0} (es : List (Expr A)) → exprs_from (folds es) ≡ folded_exprs (exprs_seen es)
folds-all [] = refl
folds-all (e ∷ es) = ap (and_expr (fold_expr (expr_seen e))) (folds-all es)

pub folds-done : {A : Type 0} (es : List (Expr A)) (i : ℕ) (fs : List ex.Expr) → length es ≤ i → fs ++ folds (drop i es) ≡ folds es → exprs_from fs ≡ folded_exprs (exprs_seen es)
folds-done es i fs past h = ap exprs_from (sym (append-nil fs) ∙ sym (ap (λ x. fs ++ folds x) (drop_all i es past)) ∙ h) ∙ folds-all es

-- ---- constants

pub shape-constant : (k : Kind) (es : Exprs) (ts : Trees) → constant_terms es ≡ Some ts → constant (shape_term k ts) ≡ shape_folded k es
shape-constant k es ts is = sym (ap (λ x. constant_or (option_map (shape_term k) x) (shape_expr k es)) is)

pub shape-other : (k : Kind) (es : Exprs) → is_some (constant_terms es) ≡ false → shape_expr k es ≡ shape_folded k es
shape-other k es none = sym (ap (λ x. constant_or (option_map (shape_term k) x) (shape_expr k es)) (some-of (constant_terms es) none))

pub terms-more : (us vs : List Tree) (u : Tree) (es rest : Exprs) (e : ex.Expr) (total : Option Trees) → es ≡ and_expr e rest → term_in e ≡ Some u → vs ≡ us ++ u ∷ [] → option_map (trees_before us) (constant_terms es) ≡ total → option_map (trees_before vs) (constant_terms rest) ≡ total
terms-more us vs u es rest e total is first pushed h =
    ap (λ z. option_map (trees_before z) (constant_terms rest)) pushed
    ∙ mapped-more us u (constant_terms rest)
    ∙ ap (λ x. option_map (trees_before us) (term_before x (constant_terms rest))) (sym first)
    ∙ sym (ap (λ x. option_map (trees_before us) (constant_terms x)) is)
    ∙ h

pub term-here : (us : List Tree) (es rest : Exprs) (e : ex.Expr) (total : Option Trees) → es ≡ and_expr e rest → option_map (trees_before us) (constant_terms es) ≡ total → is_some total ≡ true → is_some (term_in e) ≡ true
term-here us es rest e total is h some = first-some (term_in e) (constant_terms rest) (sym (ap (λ x. is_some (constant_terms x)) is) ∙ sym (mapped-some (trees_before us) (constant_terms es)) ∙ ap is_some h ∙ some)

pub constant-next : (es rest : Exprs) (e : ex.Expr) (s : Bool) → es ≡ and_expr e rest → is_some (term_in e) ≡ true → is_some (constant_terms es) ≡ s → is_some (constant_terms rest) ≡ s
constant-next es rest e s is first h = sym (some-before (term_in e) (constant_terms rest) first) ∙ sym (ap (λ x. is_some (constant_terms x)) is) ∙ h

pub not-constant-next : (es rest : Exprs) (e : ex.Expr) (s : Bool) → es ≡ and_expr e rest → is_some (term_in e) ≡ false → is_some (constant_terms es) ≡ s → false ≡ s
not-constant-next es rest e s is first h = sym (none-before (term_in e) (constant_terms rest) first) ∙ sym (ap (λ x. is_some (constant_terms x)) is) ∙ h

-- ---- sizes

constant-small : (x : Option Tree) (e : ex.Expr) (n : ℕ) → 1 ≤ n → expr_size e ≤ n → expr_size (constant_or x e) ≤ n
constant-small None e n some h = h
constant-small (Some t) e n some h = some

mutual
  expr-small : (e : ex.Expr) → expr_size (fold_expr e) ≤ expr_size e
  expr-small (bound_to n) = omega arith
  expr-small whole_list = omega arith
  expr-small all_bound = omega arith
  expr-small (constant t) = omega arith
  expr-small (tuple_of es) = constant-small _ (tuple_of (folded_exprs es)) (1 + exprs_size es) (omega arith) (omega (arith, exprs-small es))
  expr-small (list_of es) = constant-small _ (list_of (folded_exprs es)) (1 + exprs_size es) (omega arith) (omega (arith, exprs-small es))
  expr-small (call f es) = omega (arith, exprs-small es)
  expr-small (and_also es) = omega (arith, exprs-small es)
  expr-small (or_else es) = omega (arith, exprs-small es)
  expr-small (perform a es) = omega (arith, exprs-small es)

  exprs-small : (es : Exprs) → exprs_size (folded_exprs es) ≤ exprs_size es
  exprs-small no_exprs = omega arith
  exprs-small (and_expr e es) = omega (arith, expr-small e, exprs-small es)

pub folded-size : (es fs : Exprs) → fs ≡ folded_exprs es → exprs_size fs ≤ exprs_size es
folded-size es fs is = let same_size : exprs_size fs ≡ exprs_size (folded_exprs es) = ap exprs_size is in omega (arith, same_size, exprs-small es)
