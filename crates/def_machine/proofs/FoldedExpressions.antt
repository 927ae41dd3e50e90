-- Folded expressions have the values and the effects of the expressions, and fit where those do.
use Rattle.std.proofs.Common.{◌≡◌, List, ◌∷◌, Option, Some, None, refl, sym, ap, ◌∙◌, suc, Bool, true, false, if◌then◌else◌, option_map}
use Rattle.def_term.specs.Tree.{Tree, tuple, list, Trees, none, more, elements, of_elements}
use Rattle.def_spec.specs.Functions.{truth, is_true, apply}
use Rattle.def_spec.specs.Matching.{Pattern, Bindings}
use Rattle.def_spec.specs.Expressions.{Dialect, Expr, bound_to, whole_list, all_bound, constant, tuple_of, list_of, call, and_also, or_else, perform, Exprs, no_exprs, and_expr, Context, Position, in_condition, in_body, Effect, Evaluation, comes_to, faults, then_on, or_fault, settle, with_effect, action_done, context_after, evaluation, evaluation_of_all, evaluation_while_true, evaluation_until_true}
use Rattle.def_spec.specs.Laws.{count_of, numbers_of_function, numbers_of_action}
use Rattle.def_machine.specs.ExprFolds.{term_in, constant_terms, constant_or, fold_expr, folded_exprs}
use Rattle.def_machine.specs.Laws.{FoldedExpressionsEvaluateAlike}
use Rattle.def_machine.specs.Validity.{is_between}
use Rattle.def_machine.proofs.Fine.{IsFine, AreFine}
use Rattle.def_machine.proofs.FoldedHeads.{FrontOf, front_of}

of-elements : (us : Trees) → of_elements (elements us) ≡ us
of-elements none = refl
of-elements (more t us) = ap (more t) (of-elements us)

-- what follows is the same
then-alike : {X Y : Type 0} (r : Evaluation X) (f g : X → List Effect → Evaluation Y) → ((t : X) (y : List Effect) → f t y ≡ g t y) → then_on r f ≡ then_on r g
then-alike (comes_to t y) f g each = each t y
then-alike (faults y) f g each = refl

if-alike : {X : Type 0} (b : Bool) (x y z : X) → x ≡ y → (if b then x else z) ≡ (if b then y else z)
if-alike b x y z e = ap (λ w. if b then w else z) e

else-alike : {X : Type 0} (b : Bool) (x y z : X) → x ≡ y → (if b then z else x) ≡ (if b then z else y)
else-alike b x y z e = ap (λ w. if b then z else w) e

module _ (d : Dialect) (part : Position) (b : Bindings) (c : Context) where
  constant-value : (e : Expr) (t : Tree) (y : List Effect) → term_in e ≡ Some t → evaluation d part b c e y ≡ comes_to t y
  constant-value (constant u) t y is = let same_one : u ≡ t = cc in ap (λ w. comes_to w y) same_one
  constant-value (bound_to n) t y is = absurd (cc)
  constant-value whole_list t y is = absurd (cc)
  constant-value all_bound t y is = absurd (cc)
  constant-value (tuple_of es) t y is = absurd (cc)
  constant-value (list_of es) t y is = absurd (cc)
  constant-value (call f es) t y is = absurd (cc)
  constant-value (and_also es) t y is = absurd (cc)
  constant-value (or_else es) t y is = absurd (cc)
  constant-value (perform a es) t y is = absurd (cc)

  constants-value : (es : Exprs) (us : Trees) (y : List Effect) → constant_terms es ≡ Some us → evaluation_of_all d part b c es y ≡ comes_to (elements us) y
  constants-value no_exprs us y is = let empty : none ≡ us = cc in ap (λ w. comes_to (elements w) y) empty
  constants-value (and_expr e es) us y is =
      let h : FrontOf (term_in e) (constant_terms es) us = front_of (term_in e) (constant_terms es) us is in
      ap (λ r. then_on r (λ t x. then_on (evaluation_of_all d part b c es x) (λ ts z. comes_to (t ∷ ts) z))) (constant-value e h.first y h.first_is)
      ∙ ap (λ r. then_on r (λ ts z. comes_to (h.first ∷ ts) z)) (constants-value es h.others y h.others_are)
      ∙ ap (λ w. comes_to (elements w) y) h.all_are

  -- a constant has the value of what it stands for
  tuple-alike : (x : Option Trees) (es : Exprs) (y : List Effect) → constant_terms es ≡ x → evaluation d part b c (constant_or (option_map tuple x) (tuple_of es)) y ≡ evaluation d part b c (tuple_of es) y
  tuple-alike None es y is = refl
  tuple-alike (Some us) es y is = sym (ap (λ r. then_on r (λ ts z. comes_to (tuple (of_elements ts)) z)) (constants-value es us y is) ∙ ap (λ w. comes_to (tuple w) y) (of-elements us))

  list-alike : (x : Option Trees) (es : Exprs) (y : List Effect) → constant_terms es ≡ x → evaluation d part b c (constant_or (option_map list x) (list_of es)) y ≡ evaluation d part b c (list_of es) y
  list-alike None es y is = refl
  list-alike (Some us) es y is = sym (ap (λ r. then_on r (λ ts z. comes_to (list (of_elements ts)) z)) (constants-value es us y is) ∙ ap (λ w. comes_to (list w) y) (of-elements us))

  mutual
    alike : (e : Expr) (x : List Effect) → evaluation d part b c (fold_expr e) x ≡ evaluation d part b c e x
    alike (bound_to n) x = refl
    alike whole_list x = refl
    alike all_bound x = refl
    alike (constant t) x = refl
    alike (tuple_of es) x = tuple-alike (constant_terms (folded_exprs es)) (folded_exprs es) x refl ∙ ap (λ r. then_on r (λ ts y. comes_to (tuple (of_elements ts)) y)) (all-alike es x)
    alike (list_of es) x = list-alike (constant_terms (folded_exprs es)) (folded_exprs es) x refl ∙ ap (λ r. then_on r (λ ts y. comes_to (list (of_elements ts)) y)) (all-alike es x)
    alike (call f es) x = ap (λ r. then_on r (λ ts y. or_fault (settle part (apply f ts c.self_pid)) y)) (all-alike es x)
    alike (and_also es) x = while-alike es x
    alike (or_else es) x = until-alike es x
    alike (perform a es) x = ap (λ r. then_on r (λ ts y. with_effect part (action_done d a ts (context_after c y)) y)) (all-alike es x)

    pub all-alike : (es : Exprs) (x : List Effect) → evaluation_of_all d part b c (folded_exprs es) x ≡ evaluation_of_all d part b c es x
    all-alike no_exprs x = refl
    all-alike (and_expr e es) x =
        ap (λ r. then_on r (λ t y. then_on (evaluation_of_all d part b c (folded_exprs es) y) (λ ts z. comes_to (t ∷ ts) z))) (alike e x)
        ∙ then-alike (evaluation d part b c e x) _ _ (λ t y. ap (λ r. then_on r (λ ts z. comes_to (t ∷ ts) z)) (all-alike es y))

    while-alike : (es : Exprs) (x : List Effect) → evaluation_while_true d part b c (folded_exprs es) x ≡ evaluation_while_true d part b c es x
    while-alike no_exprs x = refl
    while-alike (and_expr e es) x =
        ap (λ r. then_on r (λ t y. if is_true t then evaluation_while_true d part b c (folded_exprs es) y else comes_to (truth false) y)) (alike e x)
        ∙ then-alike (evaluation d part b c e x) _ _ (λ t y. if-alike (is_true t) _ _ (comes_to (truth false) y) (while-alike es y))

    until-alike : (es : Exprs) (x : List Effect) → evaluation_until_true d part b c (folded_exprs es) x ≡ evaluation_until_true d part b c es x
    until-alike no_exprs x = refl
    until-alike (and_expr e es) x =
        ap (λ r. then_on r (λ t y. if is_true t then comes_to (truth true) y else evaluation_until_true d part b c (folded_exprs es) y)) (alike e x)
        ∙ then-alike (evaluation d part b c e x) _ _ (λ t y. else-alike (is_true t) _ _ (comes_to (truth true) y) (until-alike es y))

pub folded_expressions_evaluate_alike : FoldedExpressionsEvaluateAlike
folded_expressions_evaluate_alike d part b c e x = alike d part b c e x

-- ---- what fits

folded-count : (es : Exprs) → count_of (folded_exprs es) ≡ count_of es
folded-count no_exprs = refl
folded-count (and_expr e es) = ap (λ n. suc n) (folded-count es)

fine-constant : (part : Position) (p : Pattern) (x : Option Tree) (e : Expr) → IsFine part p e → IsFine part p (constant_or x e)
fine-constant part p None e h = h
fine-constant part p (Some t) e h = tt

mutual
  fine-expr : (part : Position) (p : Pattern) (e : Expr) → IsFine part p e → IsFine part p (fold_expr e)
  fine-expr part p (bound_to n) h = h
  fine-expr part p whole_list h = tt
  fine-expr part p all_bound h = tt
  fine-expr part p (constant t) h = tt
  fine-expr part p (tuple_of es) h = fine-constant part p (option_map tuple (constant_terms (folded_exprs es))) (tuple_of (folded_exprs es)) (fine-exprs part p es h)
  fine-expr part p (list_of es) h = fine-constant part p (option_map list (constant_terms (folded_exprs es))) (list_of (folded_exprs es)) (fine-exprs part p es h)
  fine-expr part p (call f es) h = (ap (is_between (numbers_of_function f)) (folded-count es) ∙ h.0, fine-exprs part p es h.1)
  fine-expr part p (and_also es) h = fine-exprs part p es h
  fine-expr part p (or_else es) h = fine-exprs part p es h
  fine-expr in_condition p (perform a es) h = h
  fine-expr in_body p (perform a es) h = (ap (is_between (numbers_of_action a)) (folded-count es) ∙ h.0, fine-exprs in_body p es h.1)

  pub fine-exprs : (part : Position) (p : Pattern) (es : Exprs) → AreFine part p es → AreFine part p (folded_exprs es)
  fine-exprs part p no_exprs h = tt
  fine-exprs part p (and_expr e es) h = (fine-expr part p e h.0, fine-exprs part p es h.1)
