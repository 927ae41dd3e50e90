-- What is computed of an expression is the part at which it faults.
use Rattle.std.proofs.Common.{◌≡◌, Bool, true, false, inl, inr, ◌⊎◌, List, Option, Some, None, refl, sym, ap, ◌∙◌, subst, if◌then◌else◌}
use Rattle.std.specs.Bool.{⊤}
use Rattle.std.specs.Option.{option_and_then, option_map}
use Rattle.def_term.specs.Tree.{Tree, tuple, list, of_elements}
use Rattle.def_spec.specs.Matching.{Bindings, value_bound}
use Rattle.def_spec.specs.Functions.{is_true, truth, apply}
use Rattle.def_spec.specs.Expressions.{Dialect, Expr, bound_to, whole_list, all_bound, constant, tuple_of, list_of, call, and_also, or_else, perform, Exprs, no_exprs, and_expr, Context, in_condition, value, values}
use Rattle.def_spec.proofs.Conditions.{if_true, unless_true, while_true, until_true, of-bound, of-tuple, of-list, of-call, of-action, of-several, of-while, of-until}
use Rattle.def_spec.proofs.Values.{before}
use Rattle.def_explain.specs.Laws.{FaultWhereNoValue}
use Rattle.def_explain.specs.Values.{HasTruth, HasOther, function_value, HaveValues, FaultsItself, FaultsAt, FaultsInOne, FaultsWhileTrue, FaultsUntilTrue, or_itself, or_after, after_true, after_other, fault_in, fault_in_one, fault_while_true, fault_until_true}

-- one of the two is there, and not both
abbrev pub Tied : {X Y : Type 0} → Option X → Option Y → Type 0
Tied None None = ⊥
Tied None (Some y) = ⊤
Tied (Some x) None = ⊤
Tied (Some x) (Some y) = ⊥

tied-none : {X Y : Type 0} (o : Option X) (p : Option Y) → Tied o p → o ≡ None → (y : Y) × (p ≡ Some y)
tied-none None None t e = absurd t
tied-none None (Some y) t e = (y, refl)
tied-none (Some x) p t e = absurd (cc e)

pub tied-some : {X Y : Type 0} (o : Option X) (p : Option Y) → Tied o p → p ≡ None → (x : X) × (o ≡ Some x)
tied-some None None t e = absurd t
tied-some None (Some y) t e = absurd (cc e)
tied-some (Some x) p t e = (x, refl)

pub tied-other : {X Y : Type 0} (o : Option X) (p : Option Y) (x : X) → Tied o p → o ≡ Some x → p ≡ None
tied-other None p x t e = absurd (cc e)
tied-other (Some y) None x t e = refl
tied-other (Some y) (Some z) x t e = absurd t

tied-none_of : {X Y : Type 0} (o : Option X) (p : Option Y) (y : Y) → Tied o p → p ≡ Some y → o ≡ None
tied-none_of None p y t e = refl
tied-none_of (Some x) None y t e = absurd (cc e)
tied-none_of (Some x) (Some z) y t e = absurd t

tied-map : {X Z Y : Type 0} (f : X → Z) (o : Option X) (p : Option Y) → Tied o p → Tied (option_map f o) p
tied-map f None None t = t
tied-map f None (Some y) t = tt
tied-map f (Some x) None t = tt
tied-map f (Some x) (Some y) t = t

tied-itself : (e : Expr) (r : Option Tree) → Tied r (or_itself None e r)
tied-itself e None = tt
tied-itself e (Some t) = tt

tied-call : (g : List Tree → Option Tree) (e : Expr) (vs : Option (List Tree)) (x : Option Expr) → Tied vs x → Tied (option_and_then g vs) (or_itself x e (option_and_then g vs))
tied-call g e None None t = absurd t
tied-call g e None (Some x) t = tt
tied-call g e (Some ts) None t = tied-itself e (g ts)
tied-call g e (Some ts) (Some x) t = absurd t

tied-action : (e : Expr) (x : Option Expr) → Tied {X = Tree} None (or_itself x e None)
tied-action e None = tt
tied-action e (Some x) = tt

tied-before : (v : Option Tree) (vs : Option (List Tree)) (x y : Option Expr) → Tied v x → Tied vs y → Tied (before v vs) (or_after x y)
tied-before None vs None y s t = absurd s
tied-before None vs (Some x) y s t = tt
tied-before (Some v) vs (Some x) y s t = absurd s
tied-before (Some v) None None None s t = absurd t
tied-before (Some v) None None (Some y) s t = tt
tied-before (Some v) (Some vs) None None s t = tt
tied-before (Some v) (Some vs) None (Some y) s t = absurd t

tied-if : (q : Bool) (r : Option Tree) (u : Tree) (y : Option Expr) → Tied r y → Tied (if q then r else Some u) (if q then y else None)
tied-if true r u y t = t
tied-if false r u y t = tt

tied-unless : (q : Bool) (r : Option Tree) (u : Tree) (y : Option Expr) → Tied r y → Tied (if q then Some u else r) (if q then None else y)
tied-unless true r u y t = tt
tied-unless false r u y t = t

tied-while : (v r : Option Tree) (x y : Option Expr) → Tied v x → Tied r y → Tied (if_true v r) (or_after x (after_true v y))
tied-while None r None y s t = absurd s
tied-while None r (Some x) y s t = tt
tied-while (Some v) r (Some x) y s t = absurd s
tied-while (Some v) r None y s t = tied-if (is_true v) r (truth false) y t

tied-until : (v r : Option Tree) (x y : Option Expr) → Tied v x → Tied r y → Tied (unless_true v r) (or_after x (after_other v y))
tied-until None r None y s t = absurd s
tied-until None r (Some x) y s t = tt
tied-until (Some v) r (Some x) y s t = absurd s
tied-until (Some v) r None y s t = tied-unless (is_true v) r (truth true) y t

module _ (d : Dialect) (b : Bindings) (c : Context) where
  mutual
    pub tied : (e : Expr) → Tied (value d in_condition b c e) (fault_in d b c e)
    tied (bound_to n) = subst (λ v. Tied v (fault_in d b c (bound_to n))) (sym (of-bound d b c n)) (tied-itself (bound_to n) (value_bound b n))
    tied whole_list = tt
    tied all_bound = tt
    tied (constant t) = tt
    tied (tuple_of es) = subst (λ v. Tied v (fault_in_one d b c es)) (sym (of-tuple d b c es)) (tied-map (λ ts. tuple (of_elements ts)) _ _ (tied-one es))
    tied (list_of es) = subst (λ v. Tied v (fault_in_one d b c es)) (sym (of-list d b c es)) (tied-map (λ ts. list (of_elements ts)) _ _ (tied-one es))
    tied (call f es) = subst (λ v. Tied v (fault_in d b c (call f es))) (sym (of-call d b c f es)) (tied-call (λ ts. apply f ts c.self_pid) (call f es) _ _ (tied-one es))
    tied (and_also es) = tied-all es
    tied (or_else es) = tied-some_true es
    tied (perform a es) = subst (λ v. Tied v (fault_in d b c (perform a es))) (sym (of-action d b c a es)) (tied-action (perform a es) (fault_in_one d b c es))

    tied-one : (es : Exprs) → Tied (values d in_condition b c es) (fault_in_one d b c es)
    tied-one no_exprs = tt
    tied-one (and_expr e es) = subst (λ v. Tied v (fault_in_one d b c (and_expr e es))) (sym (of-several d b c e es)) (tied-before _ _ _ _ (tied e) (tied-one es))

    tied-all : (es : Exprs) → Tied (while_true d b c es) (fault_while_true d b c es)
    tied-all no_exprs = tt
    tied-all (and_expr e es) = subst (λ v. Tied v (fault_while_true d b c (and_expr e es))) (sym (of-while d b c e es)) (tied-while _ _ _ _ (tied e) (tied-all es))

    tied-some_true : (es : Exprs) → Tied (until_true d b c es) (fault_until_true d b c es)
    tied-some_true no_exprs = tt
    tied-some_true (and_expr e es) = subst (λ v. Tied v (fault_until_true d b c (and_expr e es))) (sym (of-until d b c e es)) (tied-until _ _ _ _ (tied e) (tied-some_true es))

  -- ---- what is computed is where it faults

  where_itself : (x e : Expr) (f : Option Expr) (r : Option Tree) → or_itself f e r ≡ Some x → (f ≡ Some x) ⊎ ((f ≡ None) × (r ≡ None) × (x ≡ e))
  where_itself x e None None h = inr (refl, refl, cc h)
  where_itself x e None (Some t) h = absurd (cc h)
  where_itself x e (Some y) r h = inl h

  where_after : (x : Expr) (f r : Option Expr) → or_after f r ≡ Some x → (f ≡ Some x) ⊎ ((f ≡ None) × (r ≡ Some x))
  where_after x None r h = inr (refl, h)
  where_after x (Some y) r h = inl h

  where_true : (x : Expr) (v : Option Tree) (r : Option Expr) → after_true v r ≡ Some x → ((t : Tree) × (v ≡ Some t) × (is_true t ≡ true)) × (r ≡ Some x)
  where_true x None r h = absurd (cc h)
  where_true x (Some t) r h = go (is_true t) refl h
    where
      go : (q : Bool) → is_true t ≡ q → (if q then r else None) ≡ Some x → ((u : Tree) × (Some t ≡ Some u) × (is_true u ≡ true)) × (r ≡ Some x)
      go true e k = ((t, refl, e), k)
      go false e k = absurd (cc k)

  where_other : (x : Expr) (v : Option Tree) (r : Option Expr) → after_other v r ≡ Some x → ((t : Tree) × (v ≡ Some t) × (is_true t ≡ false)) × (r ≡ Some x)
  where_other x None r h = absurd (cc h)
  where_other x (Some t) r h = go (is_true t) refl h
    where
      go : (q : Bool) → is_true t ≡ q → (if q then None else r) ≡ Some x → ((u : Tree) × (Some t ≡ Some u) × (is_true u ≡ false)) × (r ≡ Some x)
      go true e k = absurd (cc k)
      go false e k = ((t, refl, e), k)

  unbound : (x e : Expr) (f : Option Expr) (r : Option Tree) → f ≡ None → ((f ≡ Some x) ⊎ ((f ≡ None) × (r ≡ None) × (x ≡ e))) → (x ≡ e) × (r ≡ None)
  unbound x e f r n (inl h) = absurd (cc (n, h))
  unbound x e f r n (inr h) = (h.2, h.1)

  call_sound : (es : Exprs) (e x : Expr) (r : Option Tree) → (fault_in_one d b c es ≡ Some x → FaultsInOne d b c es x) → ((fault_in_one d b c es ≡ Some x) ⊎ ((fault_in_one d b c es ≡ None) × (r ≡ None) × (x ≡ e))) → FaultsInOne d b c es x ⊎ ((x ≡ e) × FaultsItself d b c es r)
  call_sound es e x r f (inl h) = inl (f h)
  call_sound es e x r f (inr h) = inr (h.2, (tied-some _ _ (tied-one es) h.0, h.1))

  action_sound : (es : Exprs) (e x : Expr) → FaultsInOne d b c es x ⊎ ((x ≡ e) × FaultsItself d b c es None) → FaultsInOne d b c es x ⊎ ((x ≡ e) × HaveValues d b c es)
  action_sound es e x (inl h) = inl h
  action_sound es e x (inr h) = inr (h.0, h.1.0)

  action_complete : (es : Exprs) (e x : Expr) → FaultsInOne d b c es x ⊎ ((x ≡ e) × HaveValues d b c es) → FaultsInOne d b c es x ⊎ ((x ≡ e) × FaultsItself d b c es None)
  action_complete es e x (inl h) = inl h
  action_complete es e x (inr h) = inr (h.0, (h.1, refl))

  pick : {P Q V : Type 0} {f r : Option Expr} {x : Expr} → (f ≡ Some x → P) → (r ≡ Some x → Q) → (f ≡ None → V) → ((f ≡ Some x) ⊎ ((f ≡ None) × (r ≡ Some x))) → P ⊎ (V × Q)
  pick p q v (inl h) = inl (p h)
  pick p q v (inr h) = inr (v h.0, q h.1)

  pick_true : {P Q : Type 0} {f r : Option Expr} {x : Expr} (e : Expr) → (f ≡ Some x → P) → (r ≡ Some x → Q) → ((f ≡ Some x) ⊎ ((f ≡ None) × (after_true (value d in_condition b c e) r ≡ Some x))) → P ⊎ (HasTruth d b c e × Q)
  pick_true e p q (inl h) = inl (p h)
  pick_true {x = x} e p q (inr h) = inr ((where_true x (value d in_condition b c e) _ h.1).0, q (where_true x (value d in_condition b c e) _ h.1).1)

  pick_other : {P Q : Type 0} {f r : Option Expr} {x : Expr} (e : Expr) → (f ≡ Some x → P) → (r ≡ Some x → Q) → ((f ≡ Some x) ⊎ ((f ≡ None) × (after_other (value d in_condition b c e) r ≡ Some x))) → P ⊎ (HasOther d b c e × Q)
  pick_other e p q (inl h) = inl (p h)
  pick_other {x = x} e p q (inr h) = inr ((where_other x (value d in_condition b c e) _ h.1).0, q (where_other x (value d in_condition b c e) _ h.1).1)

  mutual
    pub fault_sound : (e x : Expr) → fault_in d b c e ≡ Some x → FaultsAt d b c e x
    fault_sound (bound_to n) x h = unbound x (bound_to n) None (value_bound b n) refl (where_itself x (bound_to n) None (value_bound b n) h)
    fault_sound whole_list x h = absurd (cc h)
    fault_sound all_bound x h = absurd (cc h)
    fault_sound (constant t) x h = absurd (cc h)
    fault_sound (tuple_of es) x h = one_sound es x h
    fault_sound (list_of es) x h = one_sound es x h
    fault_sound (call f es) x h = call_sound es (call f es) x (function_value d b c f es) (one_sound es x) (where_itself x (call f es) (fault_in_one d b c es) (function_value d b c f es) h)
    fault_sound (and_also es) x h = while_sound es x h
    fault_sound (or_else es) x h = until_sound es x h
    fault_sound (perform a es) x h = action_sound es (perform a es) x (call_sound es (perform a es) x None (one_sound es x) (where_itself x (perform a es) (fault_in_one d b c es) None h))

    one_sound : (es : Exprs) (x : Expr) → fault_in_one d b c es ≡ Some x → FaultsInOne d b c es x
    one_sound no_exprs x h = absurd (cc h)
    one_sound (and_expr e es) x h = pick (fault_sound e x) (one_sound es x) (tied-some _ _ (tied e)) (where_after x (fault_in d b c e) (fault_in_one d b c es) h)

    while_sound : (es : Exprs) (x : Expr) → fault_while_true d b c es ≡ Some x → FaultsWhileTrue d b c es x
    while_sound no_exprs x h = absurd (cc h)
    while_sound (and_expr e es) x h = pick_true e (fault_sound e x) (while_sound es x) (where_after x (fault_in d b c e) (after_true (value d in_condition b c e) (fault_while_true d b c es)) h)

    until_sound : (es : Exprs) (x : Expr) → fault_until_true d b c es ≡ Some x → FaultsUntilTrue d b c es x
    until_sound no_exprs x h = absurd (cc h)
    until_sound (and_expr e es) x h = pick_other e (fault_sound e x) (until_sound es x) (where_after x (fault_in d b c e) (after_other (value d in_condition b c e) (fault_until_true d b c es)) h)

  -- ---- and where it faults is what is computed

  itself_none : (e : Expr) (f : Option Expr) (r : Option Tree) → f ≡ None → r ≡ None → or_itself f e r ≡ Some e
  itself_none e f r h k = ap (λ x. or_itself x e r) h ∙ ap (or_itself None e) k

  after_none : (f r : Option Expr) (x : Expr) → f ≡ None → r ≡ Some x → or_after f r ≡ Some x
  after_none f r x h k = ap (λ y. or_after y r) h ∙ k

  true_there : (v : Option Tree) (r : Option Expr) (x : Expr) (t : Tree) → v ≡ Some t → is_true t ≡ true → r ≡ Some x → after_true v r ≡ Some x
  true_there v r x t h k l = ap (λ y. after_true y r) h ∙ ap (λ q. if q then r else None) k ∙ l

  other_there : (v : Option Tree) (r : Option Expr) (x : Expr) (t : Tree) → v ≡ Some t → is_true t ≡ false → r ≡ Some x → after_other v r ≡ Some x
  other_there v r x t h k l = ap (λ y. after_other y r) h ∙ ap (λ q. if q then None else r) k ∙ l

  no_fault : (e : Expr) (t : Tree) → value d in_condition b c e ≡ Some t → fault_in d b c e ≡ None
  no_fault e t h = tied-other _ _ t (tied e) h

  call_complete : (es : Exprs) (e x : Expr) (r : Option Tree) → (FaultsInOne d b c es x → fault_in_one d b c es ≡ Some x) → FaultsInOne d b c es x ⊎ ((x ≡ e) × FaultsItself d b c es r) → or_itself (fault_in_one d b c es) e r ≡ Some x
  call_complete es e x r f (inl h) = ap (λ y. or_itself y e r) (f h)
  call_complete es e x r f (inr h) = itself_none e (fault_in_one d b c es) r (tied-other _ _ h.1.0.0 (tied-one es) h.1.0.1) h.1.1 ∙ ap Some (sym h.0)

  mutual
    pub fault_complete : (e x : Expr) → FaultsAt d b c e x → fault_in d b c e ≡ Some x
    fault_complete (bound_to n) x h = itself_none (bound_to n) None (value_bound b n) refl h.1 ∙ ap Some (sym h.0)
    fault_complete whole_list x h = absurd h
    fault_complete all_bound x h = absurd h
    fault_complete (constant t) x h = absurd h
    fault_complete (tuple_of es) x h = one_complete es x h
    fault_complete (list_of es) x h = one_complete es x h
    fault_complete (call f es) x h = call_complete es (call f es) x (function_value d b c f es) (one_complete es x) h
    fault_complete (and_also es) x h = while_complete es x h
    fault_complete (or_else es) x h = until_complete es x h
    fault_complete (perform a es) x h = call_complete es (perform a es) x None (one_complete es x) (action_complete es (perform a es) x h)

    one_complete : (es : Exprs) (x : Expr) → FaultsInOne d b c es x → fault_in_one d b c es ≡ Some x
    one_complete no_exprs x h = absurd h
    one_complete (and_expr e es) x (inl h) = ap (λ y. or_after y (fault_in_one d b c es)) (fault_complete e x h)
    one_complete (and_expr e es) x (inr h) = after_none (fault_in d b c e) (fault_in_one d b c es) x (no_fault e h.0.0 h.0.1) (one_complete es x h.1)

    while_complete : (es : Exprs) (x : Expr) → FaultsWhileTrue d b c es x → fault_while_true d b c es ≡ Some x
    while_complete no_exprs x h = absurd h
    while_complete (and_expr e es) x (inl h) = ap (λ y. or_after y (after_true (value d in_condition b c e) (fault_while_true d b c es))) (fault_complete e x h)
    while_complete (and_expr e es) x (inr h) =
        after_none (fault_in d b c e) (after_true (value d in_condition b c e) (fault_while_true d b c es)) x (no_fault e h.0.0 h.0.1)
        (true_there (value d in_condition b c e) (fault_while_true d b c es) x h.0.0 h.0.1 h.0.2 (while_complete es x h.1))

    until_complete : (es : Exprs) (x : Expr) → FaultsUntilTrue d b c es x → fault_until_true d b c es ≡ Some x
    until_complete no_exprs x h = absurd h
    until_complete (and_expr e es) x (inl h) = ap (λ y. or_after y (after_other (value d in_condition b c e) (fault_until_true d b c es))) (fault_complete e x h)
    until_complete (and_expr e es) x (inr h) =
        after_none (fault_in d b c e) (after_other (value d in_condition b c e) (fault_until_true d b c es)) x (no_fault e h.0.0 h.0.1)
        (other_there (value d in_condition b c e) (fault_until_true d b c es) x h.0.0 h.0.1 h.0.2 (until_complete es x h.1))

pub fault_where_no_value : FaultWhereNoValue
fault_where_no_value d b c e = (
  λ h. tied-none_of (value d in_condition b c e) (fault_in d b c e) h.0 (tied d b c e) (fault_complete d b c e h.0 h.1),
  λ h.
      let x : (y : Expr) × (fault_in d b c e ≡ Some y) = tied-none (value d in_condition b c e) (fault_in d b c e) (tied d b c e) h in
      (x.0, fault_sound d b c e x.0 x.1),
)
