-- What is computed of a clause is the reason for which it doesn't fire, and it is there exactly where it doesn't.
use Rattle.std.proofs.Common.{◌≡◌, ℕ, zero, suc, ◌+◌, Bool, true, false, inl, inr, ◌⊎◌, Option, Some, None, refl, sym, ap, ◌∙◌, subst, if◌then◌else◌, add-zero, zero-add, arith}
use Rattle.def_term.specs.Tree.{Tree, list, of_elements}
use Rattle.def_term.proofs.Same.{same-is, same-self}
use Rattle.def_spec.specs.Matching.{Bindings, bindings_of}
use Rattle.def_spec.specs.Functions.{is_true, truth}
use Rattle.def_spec.specs.Expressions.{Dialect, Expr, Exprs, no_exprs, and_expr, Context, in_condition, value}
use Rattle.def_spec.specs.Outcome.{Clause, matched_term, EachTrue, Fires}
use Rattle.def_spec.proofs.Binding.{bind-matches, matches-bind}
use Rattle.def_spec.proofs.Outcomes.{walk_misses_none, binding_is_unique}
use Rattle.def_explain.specs.Heads.{HeadReason, head_reason, IsHeadReason}
use Rattle.def_explain.specs.Values.{fault_in}
use Rattle.def_explain.specs.Reasons.{ConditionReason, has_value, faults_at, Reason, by_head, by_condition, bound_within, IsUntrue, StopsAt, IsReason, untrue_by, untrue_in, as_reason, reason_by, reason_of}
use Rattle.def_explain.specs.Laws.{ReasonWhereNotFired, ReasonIsOne, ReasonIsComputed, HeadReasonWhereNotMatched}
use Rattle.def_explain.proofs.HeadStops.{head_sound, head_complete, head_there, head_matched}
use Rattle.def_explain.proofs.FaultPlaces.{Tied, tied, fault_sound, fault_complete}

some_is : {X : Type 0} (x y : X) → Some x ≡ Some y → x ≡ y
some_is x y e = cc e

-- ---- heads

pub head_reason_where_not_matched : HeadReasonWhereNotMatched
head_reason_where_not_matched p ts = (
  λ h b m. absurd (cc (sym (head_complete p ts h.0 h.1) ∙ head_matched p ts b (matches-bind p (list (of_elements ts)) b m))),
  λ h.
      let r : (x : HeadReason) × (head_reason p ts ≡ Some x) = head_there p ts ((walk_misses_none p (list (of_elements ts))).1 h) in
      (r.0, head_sound p ts r.0 r.1),
)

module _ (d : Dialect) (b : Bindings) (c : Context) where
  -- ---- a condition that isn't true

  untrue_is : (e : Expr) (n : ℕ) (v : Option Tree) (x : Option Expr) (next : Option Reason) (r : Reason) → value d in_condition b c e ≡ v → fault_in d b c e ≡ x → untrue_by n (bound_within e b) v x next ≡ Some r → ((w : ConditionReason) × (r ≡ by_condition n w) × IsUntrue d b c e w) ⊎ ((value d in_condition b c e ≡ Some (truth true)) × (next ≡ Some r))
  untrue_is e n None None next r h k l = absurd (cc l)
  untrue_is e n None (Some x) next r h k l = inl (faults_at x, sym (some_is _ _ l), fault_sound d b c e x k)
  untrue_is e n (Some t) x next r h k l = go (is_true t) refl l
    where
      go : (q : Bool) → is_true t ≡ q → (if q then next else Some (by_condition n (has_value t (bound_within e b)))) ≡ Some r → ((w : ConditionReason) × (r ≡ by_condition n w) × IsUntrue d b c e w) ⊎ ((value d in_condition b c e ≡ Some (truth true)) × (next ≡ Some r))
      go true f g = inr (h ∙ ap Some (same-is t (truth true) f), g)
      go false f g = inl (has_value t (bound_within e b), sym (some_is _ _ g), (h, f, refl))

  untrue_there : (e : Expr) (n : ℕ) (w : ConditionReason) (next : Option Reason) → IsUntrue d b c e w → untrue_by n (bound_within e b) (value d in_condition b c e) (fault_in d b c e) next ≡ Some (by_condition n w)
  untrue_there e n (has_value t bound) next h =
      ap (λ v. untrue_by n (bound_within e b) v (fault_in d b c e) next) h.0
      ∙ ap (λ q. if q then next else Some (by_condition n (has_value t (bound_within e b)))) h.1
      ∙ ap (λ x. Some (by_condition n (has_value t x))) (sym h.2)
  untrue_there e n (faults_at x) next h =
      let f : fault_in d b c e ≡ Some x = fault_complete d b c e x h in
      go (value d in_condition b c e) (tied d b c e) f
    where
      go : (v : Option Tree) → Tied v (fault_in d b c e) → fault_in d b c e ≡ Some x → untrue_by n (bound_within e b) v (fault_in d b c e) next ≡ Some (by_condition n (faults_at x))
      go None t f = ap (λ y. untrue_by n (bound_within e b) None y next) f
      go (Some u) t f = absurd (subst (Tied (Some u)) f t)

  passed_by : (e : Expr) (n : ℕ) (next : Option Reason) → value d in_condition b c e ≡ Some (truth true) → untrue_by n (bound_within e b) (value d in_condition b c e) (fault_in d b c e) next ≡ next
  passed_by e n next h = ap (λ v. untrue_by n (bound_within e b) v (fault_in d b c e) next) h ∙ ap (λ q. if q then next else Some (by_condition n (has_value (truth true) (bound_within e b)))) (same-self (truth true))

  -- ---- the first that isn't

  shift : (m n : ℕ) → m + suc n ≡ suc m + n
  shift m n = omega arith

  untrue_sound : (n : ℕ) (es : Exprs) (r : Reason) → untrue_in d b c n es ≡ Some r → (m : ℕ) × (w : ConditionReason) × (r ≡ by_condition (m + n) w) × StopsAt d b c es m w
  untrue_sound n no_exprs r h = absurd (cc h)
  untrue_sound n (and_expr e es) r h = go (λ k. untrue_sound (suc n) es r k) (untrue_is e n (value d in_condition b c e) (fault_in d b c e) (untrue_in d b c (suc n) es) r refl refl h)
    where
      go : (untrue_in d b c (suc n) es ≡ Some r → (m : ℕ) × (w : ConditionReason) × (r ≡ by_condition (m + suc n) w) × StopsAt d b c es m w) → ((w : ConditionReason) × (r ≡ by_condition n w) × IsUntrue d b c e w) ⊎ ((value d in_condition b c e ≡ Some (truth true)) × (untrue_in d b c (suc n) es ≡ Some r)) → (m : ℕ) × (w : ConditionReason) × (r ≡ by_condition (m + n) w) × StopsAt d b c (and_expr e es) m w
      go again (inl k) = (zero, k.0, k.1 ∙ ap (λ i. by_condition i k.0) (sym (zero-add n)), k.2)
      go again (inr k) =
          let z : (m : ℕ) × (w : ConditionReason) × (r ≡ by_condition (m + suc n) w) × StopsAt d b c es m w = again k.1 in
          (suc z.0, z.1, z.2 ∙ ap (λ i. by_condition i z.1) (shift z.0 n), (k.0, z.3))

  untrue_complete : (n m : ℕ) (es : Exprs) (w : ConditionReason) → StopsAt d b c es m w → untrue_in d b c n es ≡ Some (by_condition (m + n) w)
  untrue_complete n m no_exprs w h = absurd h
  untrue_complete n zero (and_expr e es) w h = untrue_there e n w (untrue_in d b c (suc n) es) h ∙ ap (λ i. Some (by_condition i w)) (sym (zero-add n))
  untrue_complete n (suc m) (and_expr e es) w h = passed_by e n (untrue_in d b c (suc n) es) h.0 ∙ untrue_complete (suc n) m es w h.1 ∙ ap (λ i. Some (by_condition i w)) (shift m n)

  -- ---- where all are true there is none, and only there

  untrue_none : (n : ℕ) (es : Exprs) → EachTrue d b c es → untrue_in d b c n es ≡ None
  untrue_none n no_exprs h = refl
  untrue_none n (and_expr e es) h = passed_by e n (untrue_in d b c (suc n) es) h.0 ∙ untrue_none (suc n) es h.1

  all_true_is : (e : Expr) (n : ℕ) (v : Option Tree) (x : Option Expr) (next : Option Reason) → value d in_condition b c e ≡ v → Tied v x → untrue_by n (bound_within e b) v x next ≡ None → (value d in_condition b c e ≡ Some (truth true)) × (next ≡ None)
  all_true_is e n None None next h t k = absurd t
  all_true_is e n None (Some x) next h t k = absurd (cc k)
  all_true_is e n (Some u) x next h t k = go (is_true u) refl k
    where
      go : (q : Bool) → is_true u ≡ q → (if q then next else Some (by_condition n (has_value u (bound_within e b)))) ≡ None → (value d in_condition b c e ≡ Some (truth true)) × (next ≡ None)
      go true f g = (h ∙ ap Some (same-is u (truth true) f), g)
      go false f g = absurd (cc g)

  pub none_untrue : (n : ℕ) (es : Exprs) → untrue_in d b c n es ≡ None → EachTrue d b c es
  none_untrue n no_exprs h = tt
  none_untrue n (and_expr e es) h =
      let r : (value d in_condition b c e ≡ Some (truth true)) × (untrue_in d b c (suc n) es ≡ None) = all_true_is e n (value d in_condition b c e) (fault_in d b c e) (untrue_in d b c (suc n) es) refl (tied d b c e) h in
      (r.0, none_untrue (suc n) es r.1)

-- ---- clauses

as_is : (o : Option HeadReason) (r : Reason) → as_reason o ≡ Some r → (h : HeadReason) × (o ≡ Some h) × (r ≡ by_head h)
as_is None r e = absurd (cc e)
as_is (Some h) r e = (h, refl, sym (some_is _ _ e))

module _ (d : Dialect) (k : Clause) (c : Context) where
  reason_sound : (r : Reason) → reason_of d k c ≡ Some r → IsReason d k c r
  reason_sound r e = go (bindings_of k.head (matched_term c)) refl e
    where
      go : (o : Option Bindings) → bindings_of k.head (matched_term c) ≡ o → reason_by d k c o ≡ Some r → IsReason d k c r
      go None f g =
          let z : (h : HeadReason) × (head_reason k.head c.matched_list ≡ Some h) × (r ≡ by_head h) = as_is (head_reason k.head c.matched_list) r g in
          subst (IsReason d k c) (sym z.2) (head_sound k.head c.matched_list z.0 z.1)
      go (Some b) f g =
          let z : (m : ℕ) × (w : ConditionReason) × (r ≡ by_condition (m + zero) w) × StopsAt d b c k.conditions m w = untrue_sound d b c zero k.conditions r g in
          subst (IsReason d k c) (sym (z.2 ∙ ap (λ i. by_condition i z.1) (add-zero z.0))) (b, bind-matches k.head (matched_term c) b f, z.3)

  reason_complete : (r : Reason) → IsReason d k c r → reason_of d k c ≡ Some r
  reason_complete (by_head h) x =
      let e : head_reason k.head c.matched_list ≡ Some h = head_complete k.head c.matched_list h x in
      let n : bindings_of k.head (matched_term c) ≡ None = (walk_misses_none k.head (matched_term c)).1 ((head_reason_where_not_matched k.head c.matched_list).0 (h, x)) in
      ap (reason_by d k c) n ∙ ap as_reason e
  reason_complete (by_condition n w) x =
      ap (reason_by d k c) (matches-bind k.head (matched_term c) x.0 x.1) ∙ untrue_complete d x.0 c zero n k.conditions w x.2 ∙ ap (λ i. Some (by_condition i w)) (add-zero n)

pub reason_is_computed : ReasonIsComputed
reason_is_computed d k c r = (reason_sound d k c r, reason_complete d k c r)

pub reason_is_one : ReasonIsOne
reason_is_one d k c q r x y = some_is q r (sym (reason_complete d k c q x) ∙ reason_complete d k c r y)

pub reason_where_not_fired : ReasonWhereNotFired
reason_where_not_fired d k c = (λ h b f. no_reason h.0 h.1 b f, λ h. some_reason h (bindings_of k.head (matched_term c)) refl)
  where
    no_reason : (r : Reason) → IsReason d k c r → (b : Bindings) → Fires d k c b → ⊥
    no_reason (by_head h) x b f = (head_reason_where_not_matched k.head c.matched_list).0 (h, x) b f.matches
    no_reason (by_condition n w) x b f =
        let same : x.0 ≡ b = binding_is_unique k.head (matched_term c) x.0 b x.1 f.matches in
        let none : untrue_in d x.0 c zero k.conditions ≡ None = untrue_none d x.0 c zero k.conditions (subst (λ z. EachTrue d z c k.conditions) (sym same) f.conditions) in
        absurd (cc (sym none ∙ untrue_complete d x.0 c zero n k.conditions w x.2))

    found : (o : Option Reason) → reason_of d k c ≡ o → (o ≡ None → ⊥) → (r : Reason) × IsReason d k c r
    found None e f = absurd (f refl)
    found (Some r) e f = (r, reason_sound d k c r e)

    some_reason : ((b : Bindings) → ¬ Fires d k c b) → (o : Option Bindings) → bindings_of k.head (matched_term c) ≡ o → (r : Reason) × IsReason d k c r
    some_reason h None e =
        let z : (x : HeadReason) × IsHeadReason k.head c.matched_list x = (head_reason_where_not_matched k.head c.matched_list).1 ((walk_misses_none k.head (matched_term c)).0 e) in
        (by_head z.0, z.1)
    some_reason h (Some b) e = found (reason_of d k c) refl (λ n. h b (record { matches = bind-matches k.head (matched_term c) b e; conditions = none_untrue d b c zero k.conditions (sym (ap (reason_by d k c) e) ∙ n) }))
