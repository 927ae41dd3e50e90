-- Folded heads bind as the heads do, and expressions that fit a head fit the folded one.
use Rattle.std.proofs.Common.{◌≡◌, ℕ, [], Option, Some, None, refl, sym, ap, ◌∙◌, subst, Bool, true, false, ◌&&◌, ◌||◌, if◌then◌else◌, option_map, option_and_then}
use Rattle.std.specs.declared.cmp.Ordering.{Ordering}
use Rattle.std.specs.declared.cmp.Ordering.TheVariants.{Less, Equal, Greater}
use Rattle.std.specs.Ordering.{ordering_then, is_eq}
use Rattle.def_term.specs.Tree.{Tree, int, atom, pid, tuple, list, Trees, none, more}
use Rattle.def_term.specs.Order.{tree_cmp, trees_cmp, same}
use Rattle.def_term.proofs.Same.{same-is, same-self}
use Rattle.def_spec.specs.Matching.{Pattern, Patterns, variable, anything, only_term, in_tuple, in_list, no_patterns, and_pattern, Bindings, occurs, occurs_in_some, bind_on, bind_each}
use Rattle.def_spec.specs.Expressions.{Expr, bound_to, whole_list, all_bound, constant, tuple_of, list_of, call, and_also, or_else, perform, Exprs, no_exprs, and_expr, Position, in_condition, in_body}
use Rattle.def_spec.proofs.Binding.{bind-matches, matches-bind}
use Rattle.def_machine.specs.HeadFolds.{term_before, constant_in, constants_in, term_or, fold_head, folded_each}
use Rattle.def_machine.specs.Laws.{FoldedHeadsMatchAlike}
use Rattle.def_machine.proofs.Fine.{IsFine, AreFine}

-- ---- a pattern that one term alone matches

-- the binding, where the test holds
abbrev kept : Bool → Bindings → Option Bindings
kept s b = if s then Some b else None

alike : (x y : Bool) → (x ≡ true → y ≡ true) → (y ≡ true → x ≡ true) → x ≡ y
alike true y f g = sym (f refl)
alike false true f g = g refl
alike false false f g = refl

elements : (us ts : Trees) → tuple us ≡ tuple ts → us ≡ ts
elements us ts e = cc

elements_of_list : (us ts : Trees) → list us ≡ list ts → us ≡ ts
elements_of_list us ts e = cc

same_elements : (us ts : Trees) → same (list us) (list ts) ≡ same (tuple us) (tuple ts)
same_elements us ts = alike (same (list us) (list ts)) (same (tuple us) (tuple ts))
    (λ h. subst (λ z. same (tuple us) (tuple z) ≡ true) (elements_of_list us ts (same-is (list us) (list ts) h)) (same-self (tuple us)))
    (λ h. subst (λ z. same (list us) (list z) ≡ true) (elements us ts (same-is (tuple us) (tuple ts) h)) (same-self (list us)))

both_equal : (o p : Ordering) → is_eq (ordering_then o p) ≡ (is_eq o && is_eq p)
both_equal Less p = refl
both_equal Equal p = refl
both_equal Greater p = refl

kept_both : (x y : Bool) (b : Bindings) → (if x then kept y b else None) ≡ kept (x && y) b
kept_both true y b = refl
kept_both false y b = refl

then_kept : (x : Bool) (f : Bindings → Option Bindings) (b : Bindings) → option_and_then f (kept x b) ≡ (if x then f b else None)
then_kept true f b = refl
then_kept false f b = refl

-- what is in front of the others, where all are there
pub record FrontOf (x : Option Tree) (y : Option Trees) (us : Trees) : Type 0 where
  pub first : Tree
  pub others : Trees
  pub first_is : x ≡ Some first
  pub others_are : y ≡ Some others
  pub all_are : more first others ≡ us

pub front_of : (x : Option Tree) (y : Option Trees) (us : Trees) → term_before x y ≡ Some us → FrontOf x y us
front_of None y us e = absurd (cc)
front_of (Some u) None us e = absurd (cc)
front_of (Some u) (Some vs) us e = record { first = u; others = vs; first_is = refl; others_are = refl; all_are = cc }

-- the elements of a constant
record ElementsOf (f : Trees → Tree) (x : Option Trees) (u : Tree) : Type 0 where
  elements : Trees
  some : x ≡ Some elements
  whole : f elements ≡ u

elements_of : (f : Trees → Tree) (x : Option Trees) (u : Tree) → option_map f x ≡ Some u → ElementsOf f x u
elements_of f None u e = absurd (cc)
elements_of f (Some us) u e = record { elements = us; some = refl; whole = cc }

one_term : (v u t : Tree) (b : Bindings) → Some v ≡ Some u → kept (same v t) b ≡ kept (same u t) b
one_term v u t b e = let is : v ≡ u = cc in ap (λ z. kept (same z t) b) is

alone_tuple : (ps : Patterns) (us : Trees) (t : Tree) (b : Bindings) → ((ts : Trees) → bind_each ps ts b ≡ kept (same (list us) (list ts)) b) → bind_on (in_tuple ps) t b ≡ kept (same (tuple us) t) b
alone_tuple ps us (tuple ts) b each = each ts ∙ ap (λ s. kept s b) (same_elements us ts)
alone_tuple ps us (list ts) b each = refl
alone_tuple ps us (int z) b each = refl
alone_tuple ps us (atom z) b each = refl
alone_tuple ps us (pid z) b each = refl

alone_list : (ps : Patterns) (us : Trees) (t : Tree) (b : Bindings) → ((ts : Trees) → bind_each ps ts b ≡ kept (same (list us) (list ts)) b) → bind_on (in_list ps) t b ≡ kept (same (list us) t) b
alone_list ps us (list ts) b each = each ts
alone_list ps us (tuple ts) b each = refl
alone_list ps us (int z) b each = refl
alone_list ps us (atom z) b each = refl
alone_list ps us (pid z) b each = refl

mutual
  alone : (p : Pattern) (u t : Tree) (b : Bindings) → constant_in p ≡ Some u → bind_on p t b ≡ kept (same u t) b
  alone (variable n) u t b e = absurd (cc)
  alone anything u t b e = absurd (cc)
  alone (only_term v) u t b e = one_term v u t b e
  alone (in_tuple ps) u t b e =
      let h : ElementsOf tuple (constants_in ps) u = elements_of tuple (constants_in ps) u e in
      alone_tuple ps h.elements t b (λ ts. alone_each ps h.elements ts b h.some) ∙ ap (λ v. kept (same v t) b) h.whole
  alone (in_list ps) u t b e =
      let h : ElementsOf list (constants_in ps) u = elements_of list (constants_in ps) u e in
      alone_list ps h.elements t b (λ ts. alone_each ps h.elements ts b h.some) ∙ ap (λ v. kept (same v t) b) h.whole

  alone_each : (ps : Patterns) (us ts : Trees) (b : Bindings) → constants_in ps ≡ Some us → bind_each ps ts b ≡ kept (same (list us) (list ts)) b
  alone_each no_patterns us none b e = let is : none ≡ us = cc in ap (λ z. kept (same (list z) (list none)) b) is
  alone_each no_patterns us (more t ts) b e = let is : none ≡ us = cc in ap (λ z. kept (same (list z) (list (more t ts))) b) is
  alone_each (and_pattern p ps) us none b e =
      let h : FrontOf (constant_in p) (constants_in ps) us = front_of (constant_in p) (constants_in ps) us e in
      ap (λ z. kept (same (list z) (list none)) b) h.all_are
  alone_each (and_pattern p ps) us (more t ts) b e =
      let h : FrontOf (constant_in p) (constants_in ps) us = front_of (constant_in p) (constants_in ps) us e in
      ap (option_and_then (bind_each ps ts)) (alone p h.first t b h.first_is)
      ∙ then_kept (same h.first t) (bind_each ps ts) b
      ∙ ap (λ z. if same h.first t then z else None) (alone_each ps h.others ts b h.others_are)
      ∙ kept_both (same h.first t) (same (list h.others) (list ts)) b
      ∙ ap (λ s. kept s b) (sym (both_equal (tree_cmp h.first t) (trees_cmp h.others ts)))
      ∙ ap (λ z. kept (same (list z) (list (more t ts))) b) h.all_are

-- ---- folded heads

bind_term_or : (p q : Pattern) (t : Tree) (b : Bindings) (x : Option Tree) → constant_in p ≡ x → bind_on q t b ≡ bind_on p t b → bind_on (term_or x q) t b ≡ bind_on p t b
bind_term_or p q t b None e h = h
bind_term_or p q t b (Some u) e h = sym (alone p u t b e)

bind_tuple : (ps qs : Patterns) (t : Tree) (b : Bindings) → ((ts : Trees) → bind_each qs ts b ≡ bind_each ps ts b) → bind_on (in_tuple qs) t b ≡ bind_on (in_tuple ps) t b
bind_tuple ps qs (tuple ts) b each = each ts
bind_tuple ps qs (list ts) b each = refl
bind_tuple ps qs (int z) b each = refl
bind_tuple ps qs (atom z) b each = refl
bind_tuple ps qs (pid z) b each = refl

bind_list : (ps qs : Patterns) (t : Tree) (b : Bindings) → ((ts : Trees) → bind_each qs ts b ≡ bind_each ps ts b) → bind_on (in_list qs) t b ≡ bind_on (in_list ps) t b
bind_list ps qs (list ts) b each = each ts
bind_list ps qs (tuple ts) b each = refl
bind_list ps qs (int z) b each = refl
bind_list ps qs (atom z) b each = refl
bind_list ps qs (pid z) b each = refl

on_others : (f g : Bindings → Option Bindings) (x : Option Bindings) → ((b : Bindings) → f b ≡ g b) → option_and_then f x ≡ option_and_then g x
on_others f g None each = refl
on_others f g (Some b) each = each b

mutual
  pub bind_folded : (p : Pattern) (t : Tree) (b : Bindings) → bind_on (fold_head p) t b ≡ bind_on p t b
  bind_folded (variable n) t b = refl
  bind_folded anything t b = refl
  bind_folded (only_term u) t b = refl
  bind_folded (in_tuple ps) t b = bind_term_or (in_tuple ps) (in_tuple (folded_each ps)) t b (constant_in (in_tuple ps)) refl (bind_tuple ps (folded_each ps) t b (λ ts. bind_folded_each ps ts b))
  bind_folded (in_list ps) t b = bind_term_or (in_list ps) (in_list (folded_each ps)) t b (constant_in (in_list ps)) refl (bind_list ps (folded_each ps) t b (λ ts. bind_folded_each ps ts b))

  bind_folded_each : (ps : Patterns) (ts : Trees) (b : Bindings) → bind_each (folded_each ps) ts b ≡ bind_each ps ts b
  bind_folded_each no_patterns none b = refl
  bind_folded_each no_patterns (more t ts) b = refl
  bind_folded_each (and_pattern p ps) none b = refl
  bind_folded_each (and_pattern p ps) (more t ts) b =
      ap (option_and_then (bind_each (folded_each ps) ts)) (bind_folded p t b) ∙ on_others (bind_each (folded_each ps) ts) (bind_each ps ts) (bind_on p t b) (λ x. bind_folded_each ps ts x)

pub folded_heads_match_alike : FoldedHeadsMatchAlike
folded_heads_match_alike p t b = (
  (λ m. bind-matches p t b (sym (bind_folded p t []) ∙ matches-bind (fold_head p) t b m)),
  (λ m. bind-matches (fold_head p) t b (bind_folded p t [] ∙ matches-bind p t b m)),
)

-- ---- expressions of clauses with folded heads

neither : (x y : Bool) → x ≡ false → y ≡ false → (x || y) ≡ false
neither x y e f = ap (λ z. z || y) e ∙ f

mutual
  no_variable : (n : ℕ) (p : Pattern) (u : Tree) → constant_in p ≡ Some u → occurs n p ≡ false
  no_variable n (variable m) u e = absurd (cc)
  no_variable n anything u e = refl
  no_variable n (only_term v) u e = refl
  no_variable n (in_tuple ps) u e = let h : ElementsOf tuple (constants_in ps) u = elements_of tuple (constants_in ps) u e in no_variable_each n ps h.elements h.some
  no_variable n (in_list ps) u e = let h : ElementsOf list (constants_in ps) u = elements_of list (constants_in ps) u e in no_variable_each n ps h.elements h.some

  no_variable_each : (n : ℕ) (ps : Patterns) (us : Trees) → constants_in ps ≡ Some us → occurs_in_some n ps ≡ false
  no_variable_each n no_patterns us e = refl
  no_variable_each n (and_pattern p ps) us e =
      let h : FrontOf (constant_in p) (constants_in ps) us = front_of (constant_in p) (constants_in ps) us e in
      neither (occurs n p) (occurs_in_some n ps) (no_variable n p h.first h.first_is) (no_variable_each n ps h.others h.others_are)

occurs_term_or : (n : ℕ) (p q : Pattern) (x : Option Tree) → constant_in p ≡ x → occurs n q ≡ occurs n p → occurs n (term_or x q) ≡ occurs n p
occurs_term_or n p q None e h = h
occurs_term_or n p q (Some u) e h = sym (no_variable n p u e)

mutual
  occurs_folded : (n : ℕ) (p : Pattern) → occurs n (fold_head p) ≡ occurs n p
  occurs_folded n (variable m) = refl
  occurs_folded n anything = refl
  occurs_folded n (only_term t) = refl
  occurs_folded n (in_tuple ps) = occurs_term_or n (in_tuple ps) (in_tuple (folded_each ps)) (constant_in (in_tuple ps)) refl (occurs_folded_each n ps)
  occurs_folded n (in_list ps) = occurs_term_or n (in_list ps) (in_list (folded_each ps)) (constant_in (in_list ps)) refl (occurs_folded_each n ps)

  occurs_folded_each : (n : ℕ) (ps : Patterns) → occurs_in_some n (folded_each ps) ≡ occurs_in_some n ps
  occurs_folded_each n no_patterns = refl
  occurs_folded_each n (and_pattern p ps) = ap (λ x. x || occurs_in_some n (folded_each ps)) (occurs_folded n p) ∙ ap (λ x. occurs n p || x) (occurs_folded_each n ps)

mutual
  fine_folded : (part : Position) (p : Pattern) (e : Expr) → IsFine part p e → IsFine part (fold_head p) e
  fine_folded part p (bound_to n) h = occurs_folded n p ∙ h
  fine_folded part p whole_list h = tt
  fine_folded part p all_bound h = tt
  fine_folded part p (constant t) h = tt
  fine_folded part p (tuple_of es) h = all_fine_folded part p es h
  fine_folded part p (list_of es) h = all_fine_folded part p es h
  fine_folded part p (call f es) h = (h.0, all_fine_folded part p es h.1)
  fine_folded part p (and_also es) h = all_fine_folded part p es h
  fine_folded part p (or_else es) h = all_fine_folded part p es h
  fine_folded in_condition p (perform a es) h = h
  fine_folded in_body p (perform a es) h = (h.0, all_fine_folded in_body p es h.1)

  pub all_fine_folded : (part : Position) (p : Pattern) (es : Exprs) → AreFine part p es → AreFine part (fold_head p) es
  all_fine_folded part p no_exprs h = tt
  all_fine_folded part p (and_expr e es) h = (fine_folded part p e h.0, all_fine_folded part p es h.1)
