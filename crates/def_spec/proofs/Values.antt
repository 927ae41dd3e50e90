-- A body's value is a term; a condition has no effects; without `trace` values and effects are element by element.
use Rattle.std.proofs.Common.{◌≡◌, List, [], ◌∷◌, ◌++◌, Bool, true, false, Option, Some, None, is_some, unwrap_or, refl, sym, ap, ◌∙◌, if◌then◌else◌, append_assoc, append-nil}
use Rattle.def_term.specs.Tree.{Tree}
use Rattle.def_spec.specs.Flags.{FlagTable}
use Rattle.def_spec.specs.Matching.{Pattern, Bindings, Matches, value_bound}
use Rattle.def_spec.specs.Functions.{is_true, apply}
use Rattle.def_spec.specs.Expressions.{Dialect, Action, message, return_trace, exception_trace, silent, enable_trace, disable_trace, trace, caller, Expr, bound_to, whole_list, all_bound, constant, tuple_of, list_of, call, and_also, or_else, perform, Exprs, no_exprs, and_expr, Context, Effect, context_after, action_done, Position, in_condition, in_body, Evaluation, comes_to, faults, then_on, or_fault, settle, with_effect, evaluation, evaluation_of_all, evaluation_while_true, evaluation_until_true, its_value, its_effects, value, values}
use Rattle.def_spec.specs.Laws.{IsCovered, AreCovered, BodiesHaveValues, ConditionsHaveNoEffects, EffectsStandAfter, IsOther, IsTraceless, AreTraceless, after_effects, OnlyTraceReadsFlags, EachValue, EffectsChangeNoValue}

-- ---- a body's value

abbrev HasTerm : {X : Type 0} → Evaluation X → Type 0
HasTerm r = is_some (its_value r) ≡ true

then-some : {X Y : Type 0} (r : Evaluation X) (f : X → List Effect → Evaluation Y) → HasTerm r → ((t : X) (y : List Effect) → HasTerm (f t y)) → HasTerm (then_on r f)
then-some (comes_to t y) f h g = g t y
then-some (faults y) f h g = cc

settled-some : (r : Option Tree) (x : List Effect) → HasTerm (or_fault (settle in_body r) x)
settled-some None x = refl
settled-some (Some t) x = refl

performed-some : (r : Option (Tree × List Effect)) (x : List Effect) → HasTerm (with_effect in_body r x)
performed-some None x = refl
performed-some (Some p) x = refl

bound-some : (o : Option Tree) (x : List Effect) → is_some o ≡ true → HasTerm (or_fault o x)
bound-some None x h = cc
bound-some (Some t) x h = refl

branch-some : (s : Bool) (r q : Evaluation Tree) → HasTerm r → HasTerm q → HasTerm (if s then r else q)
branch-some true r q h k = h
branch-some false r q h k = k

module _ (d : Dialect) (head : Pattern) (t : Tree) (b : Bindings) (c : Context) (m : Matches head t b) where
  mutual
    body-some : (e : Expr) (x : List Effect) → IsCovered head e → HasTerm (evaluation d in_body b c e x)
    body-some (bound_to n) x h = bound-some (value_bound b n) x (m.exact n ∙ h)
    body-some whole_list x h = refl
    body-some all_bound x h = refl
    body-some (constant u) x h = refl
    body-some (tuple_of es) x h = then-some (evaluation_of_all d in_body b c es x) _ (bodies-some es x h) (λ ts y. refl)
    body-some (list_of es) x h = then-some (evaluation_of_all d in_body b c es x) _ (bodies-some es x h) (λ ts y. refl)
    body-some (call f es) x h = then-some (evaluation_of_all d in_body b c es x) _ (bodies-some es x h) (λ ts y. settled-some (apply f ts c.self_pid) y)
    body-some (and_also es) x h = all-some es x h
    body-some (or_else es) x h = one-some es x h
    body-some (perform a es) x h = then-some (evaluation_of_all d in_body b c es x) _ (bodies-some es x h) (λ ts y. performed-some (action_done d a ts (context_after c y)) y)

    pub bodies-some : (es : Exprs) (x : List Effect) → AreCovered head es → HasTerm (evaluation_of_all d in_body b c es x)
    bodies-some no_exprs x h = refl
    bodies-some (and_expr e es) x h = then-some (evaluation d in_body b c e x) _ (body-some e x h.0) (λ u y. then-some (evaluation_of_all d in_body b c es y) _ (bodies-some es y h.1) (λ ts z. refl))

    pub all-some : (es : Exprs) (x : List Effect) → AreCovered head es → HasTerm (evaluation_while_true d in_body b c es x)
    all-some no_exprs x h = refl
    all-some (and_expr e es) x h = then-some (evaluation d in_body b c e x) _ (body-some e x h.0) (λ u y. branch-some (is_true u) _ _ (all-some es y h.1) refl)

    pub one-some : (es : Exprs) (x : List Effect) → AreCovered head es → HasTerm (evaluation_until_true d in_body b c es x)
    one-some no_exprs x h = refl
    one-some (and_expr e es) x h = then-some (evaluation d in_body b c e x) _ (body-some e x h.0) (λ u y. branch-some (is_true u) _ _ refl (one-some es y h.1))

pub bodies_have_values : BodiesHaveValues
bodies_have_values d head t b c e x m h = body-some d head t b c m e x h

-- ---- a condition has no effects

-- the same value after these effects
abbrev pub again : {X : Type 0} → Evaluation X → List Effect → Evaluation X
again r x = or_fault (its_value r) x

then-again : {X Y : Type 0} (r s : Evaluation X) (x : List Effect) (f g : X → List Effect → Evaluation Y) → r ≡ again s x → ((t : X) (u v : List Effect) → f t u ≡ again (g t v) u) → then_on r f ≡ again (then_on s g) x
then-again r (comes_to t v) x f g h k = ap (λ q. then_on q f) h ∙ k t x v
then-again r (faults v) x f g h k = ap (λ q. then_on q f) h

fault-again : {X : Type 0} (o : Option X) (x y : List Effect) → or_fault o x ≡ again (or_fault o y) x
fault-again None x y = refl
fault-again (Some t) x y = refl

branch-again : {X : Type 0} (s : Bool) (r q r' q' : Evaluation X) (x : List Effect) → r ≡ again r' x → q ≡ again q' x → (if s then r else q) ≡ again (if s then r' else q') x
branch-again true r q r' q' x h k = h
branch-again false r q r' q' x h k = k

module _ (d : Dialect) (b : Bindings) (c : Context) (flags : FlagTable) where
  abbrev other : Context
  other = record c { flags = flags }

  mutual
    condition-again : (e : Expr) (x y : List Effect) → evaluation d in_condition b other e x ≡ again (evaluation d in_condition b c e y) x
    condition-again (bound_to n) x y = fault-again (value_bound b n) x y
    condition-again whole_list x y = refl
    condition-again all_bound x y = refl
    condition-again (constant t) x y = refl
    condition-again (tuple_of es) x y = then-again _ (evaluation_of_all d in_condition b c es y) x _ _ (conditions-again es x y) (λ ts u v. refl)
    condition-again (list_of es) x y = then-again _ (evaluation_of_all d in_condition b c es y) x _ _ (conditions-again es x y) (λ ts u v. refl)
    condition-again (call f es) x y = then-again _ (evaluation_of_all d in_condition b c es y) x _ _ (conditions-again es x y) (λ ts u v. fault-again (apply f ts c.self_pid) u v)
    condition-again (and_also es) x y = while-again es x y
    condition-again (or_else es) x y = until-again es x y
    condition-again (perform a es) x y = then-again _ (evaluation_of_all d in_condition b c es y) x _ _ (conditions-again es x y) (λ ts u v. refl)

    pub conditions-again : (es : Exprs) (x y : List Effect) → evaluation_of_all d in_condition b other es x ≡ again (evaluation_of_all d in_condition b c es y) x
    conditions-again no_exprs x y = refl
    conditions-again (and_expr e es) x y =
        then-again _ (evaluation d in_condition b c e y) x _ _ (condition-again e x y)
        (λ t u v. then-again _ (evaluation_of_all d in_condition b c es v) u _ _ (conditions-again es u v) (λ ts p q. refl))

    pub while-again : (es : Exprs) (x y : List Effect) → evaluation_while_true d in_condition b other es x ≡ again (evaluation_while_true d in_condition b c es y) x
    while-again no_exprs x y = refl
    while-again (and_expr e es) x y = then-again _ (evaluation d in_condition b c e y) x _ _ (condition-again e x y) (λ t u v. branch-again (is_true t) _ _ _ _ u (while-again es u v) refl)

    pub until-again : (es : Exprs) (x y : List Effect) → evaluation_until_true d in_condition b other es x ≡ again (evaluation_until_true d in_condition b c es y) x
    until-again no_exprs x y = refl
    until-again (and_expr e es) x y = then-again _ (evaluation d in_condition b c e y) x _ _ (condition-again e x y) (λ t u v. branch-again (is_true t) _ _ _ _ u refl (until-again es u v))

pub conditions_have_no_effects : ConditionsHaveNoEffects
conditions_have_no_effects d b c flags e x = condition-again d b c flags e x []

-- ---- effects stand after

abbrev StandsAfter : {X : Type 0} → List Effect → Evaluation X → Type 0
StandsAfter x r = (own : List Effect) × (its_effects r ≡ x ++ own)

then-behind : {X Y : Type 0} (x : List Effect) (r : Evaluation X) (f : X → List Effect → Evaluation Y) → StandsAfter x r → ((t : X) (y : List Effect) → StandsAfter y (f t y)) → StandsAfter x (then_on r f)
then-behind x (comes_to t y) f h g = ((h.0 ++ (g t y).0), (g t y).1 ∙ ap (λ l. l ++ (g t y).0) h.1 ∙ append_assoc x h.0 (g t y).0)
then-behind x (faults y) f h g = h

none-behind : {X : Type 0} (o : Option X) (x : List Effect) → StandsAfter x (or_fault o x)
none-behind None x = ([], sym (append-nil x))
none-behind (Some t) x = ([], sym (append-nil x))

done-behind : (part : Position) (r : Option (Tree × List Effect)) (x : List Effect) → StandsAfter x (with_effect part r x)
done-behind in_condition r x = ([], sym (append-nil x))
done-behind in_body None x = ([], sym (append-nil x))
done-behind in_body (Some p) x = (p.1, refl)

either-behind : {X : Type 0} (s : Bool) (r q : Evaluation X) (x : List Effect) → StandsAfter x r → StandsAfter x q → StandsAfter x (if s then r else q)
either-behind true r q x h k = h
either-behind false r q x h k = k

module _ (d : Dialect) (part : Position) (b : Bindings) (c : Context) where
  mutual
    one-behind : (e : Expr) (x : List Effect) → StandsAfter x (evaluation d part b c e x)
    one-behind (bound_to n) x = none-behind (value_bound b n) x
    one-behind whole_list x = ([], sym (append-nil x))
    one-behind all_bound x = ([], sym (append-nil x))
    one-behind (constant t) x = ([], sym (append-nil x))
    one-behind (tuple_of es) x = then-behind x (evaluation_of_all d part b c es x) _ (all-behind es x) (λ ts y. ([], sym (append-nil y)))
    one-behind (list_of es) x = then-behind x (evaluation_of_all d part b c es x) _ (all-behind es x) (λ ts y. ([], sym (append-nil y)))
    one-behind (call f es) x = then-behind x (evaluation_of_all d part b c es x) _ (all-behind es x) (λ ts y. none-behind (settle part (apply f ts c.self_pid)) y)
    one-behind (and_also es) x = while-behind es x
    one-behind (or_else es) x = until-behind es x
    one-behind (perform a es) x = then-behind x (evaluation_of_all d part b c es x) _ (all-behind es x) (λ ts y. done-behind part (action_done d a ts (context_after c y)) y)

    all-behind : (es : Exprs) (x : List Effect) → StandsAfter x (evaluation_of_all d part b c es x)
    all-behind no_exprs x = ([], sym (append-nil x))
    all-behind (and_expr e es) x = then-behind x (evaluation d part b c e x) _ (one-behind e x) (λ t y. then-behind y (evaluation_of_all d part b c es y) _ (all-behind es y) (λ ts z. ([], sym (append-nil z))))

    while-behind : (es : Exprs) (x : List Effect) → StandsAfter x (evaluation_while_true d part b c es x)
    while-behind no_exprs x = ([], sym (append-nil x))
    while-behind (and_expr e es) x = then-behind x (evaluation d part b c e x) _ (one-behind e x) (λ t y. either-behind (is_true t) _ _ y (while-behind es y) ([], sym (append-nil y)))

    until-behind : (es : Exprs) (x : List Effect) → StandsAfter x (evaluation_until_true d part b c es x)
    until-behind no_exprs x = ([], sym (append-nil x))
    until-behind (and_expr e es) x = then-behind x (evaluation d part b c e x) _ (one-behind e x) (λ t y. either-behind (is_true t) _ _ y ([], sym (append-nil y)) (until-behind es y))

pub effects_stand_after : EffectsStandAfter
effects_stand_after d part b c e x = one-behind d part b c e x

-- ---- only `trace` reads flags

then-after : {X Y : Type 0} (x : List Effect) (r s : Evaluation X) (f g : X → List Effect → Evaluation Y) → r ≡ after_effects x s → ((t : X) (y : List Effect) → f t (x ++ y) ≡ after_effects x (g t y)) → then_on r f ≡ after_effects x (then_on s g)
then-after x r (comes_to t y) f g h k = ap (λ q. then_on q f) h ∙ k t y
then-after x r (faults y) f g h k = ap (λ q. then_on q f) h

fault-after : {X : Type 0} (x y : List Effect) (o : Option X) → or_fault o (x ++ y) ≡ after_effects x (or_fault o y)
fault-after x y None = refl
fault-after x y (Some t) = refl

branch-after : {X : Type 0} (x : List Effect) (s : Bool) (r q r' q' : Evaluation X) → r ≡ after_effects x r' → q ≡ after_effects x q' → (if s then r else q) ≡ after_effects x (if s then r' else q')
branch-after x true r q r' q' h k = h
branch-after x false r q r' q' h k = k

performed-after : (part : Position) (x y : List Effect) (r : Option (Tree × List Effect)) → with_effect part r (x ++ y) ≡ after_effects x (with_effect part r y)
performed-after in_condition x y r = refl
performed-after in_body x y None = refl
performed-after in_body x y (Some p) = ap (comes_to p.0) (append_assoc x y p.1)

-- another action is done alike with other flags
pub done_alike : (d : Dialect) (a : Action) (ts : List Tree) (c : Context) (s t : FlagTable) → IsOther a → action_done d a ts (record c { flags = s }) ≡ action_done d a ts (record c { flags = t })
done_alike d message [] c s t h = refl
done_alike d message (u ∷ []) c s t h = refl
done_alike d message (u ∷ v ∷ us) c s t h = refl
done_alike d return_trace ts c s t h = refl
done_alike d exception_trace ts c s t h = refl
done_alike d silent [] c s t h = refl
done_alike d silent (u ∷ []) c s t h = refl
done_alike d silent (u ∷ v ∷ us) c s t h = refl
done_alike d enable_trace [] c s t h = refl
done_alike d enable_trace (u ∷ []) c s t h = refl
done_alike d enable_trace (u ∷ v ∷ []) c s t h = refl
done_alike d enable_trace (u ∷ v ∷ w ∷ us) c s t h = refl
done_alike d disable_trace [] c s t h = refl
done_alike d disable_trace (u ∷ []) c s t h = refl
done_alike d disable_trace (u ∷ v ∷ []) c s t h = refl
done_alike d disable_trace (u ∷ v ∷ w ∷ us) c s t h = refl
done_alike d trace ts c s t h = absurd h
done_alike d caller ts c s t h = refl

module _ (d : Dialect) (part : Position) (b : Bindings) (c : Context) (flags : FlagTable) (x : List Effect) where
  abbrev then_flags : Context
  then_flags = record c { flags = flags }

  mutual
    one-after : (e : Expr) (y : List Effect) → IsTraceless e → evaluation d part b then_flags e (x ++ y) ≡ after_effects x (evaluation d part b c e y)
    one-after (bound_to n) y h = fault-after x y (value_bound b n)
    one-after whole_list y h = refl
    one-after all_bound y h = refl
    one-after (constant t) y h = refl
    one-after (tuple_of es) y h = then-after x _ (evaluation_of_all d part b c es y) _ _ (all-after es y h) (λ ts z. refl)
    one-after (list_of es) y h = then-after x _ (evaluation_of_all d part b c es y) _ _ (all-after es y h) (λ ts z. refl)
    one-after (call f es) y h = then-after x _ (evaluation_of_all d part b c es y) _ _ (all-after es y h) (λ ts z. fault-after x z (settle part (apply f ts c.self_pid)))
    one-after (and_also es) y h = while-after es y h
    one-after (or_else es) y h = until-after es y h
    one-after (perform a es) y h =
        then-after x _ (evaluation_of_all d part b c es y) _ _ (all-after es y h.1)
        (λ ts z. ap (λ r. with_effect part r (x ++ z)) (done_alike d a ts c _ _ h.0) ∙ performed-after part x z (action_done d a ts (context_after c z)))

    all-after : (es : Exprs) (y : List Effect) → AreTraceless es → evaluation_of_all d part b then_flags es (x ++ y) ≡ after_effects x (evaluation_of_all d part b c es y)
    all-after no_exprs y h = refl
    all-after (and_expr e es) y h =
        then-after x _ (evaluation d part b c e y) _ _ (one-after e y h.0)
        (λ t z. then-after x _ (evaluation_of_all d part b c es z) _ _ (all-after es z h.1) (λ ts w. refl))

    while-after : (es : Exprs) (y : List Effect) → AreTraceless es → evaluation_while_true d part b then_flags es (x ++ y) ≡ after_effects x (evaluation_while_true d part b c es y)
    while-after no_exprs y h = refl
    while-after (and_expr e es) y h = then-after x _ (evaluation d part b c e y) _ _ (one-after e y h.0) (λ t z. branch-after x (is_true t) _ _ _ _ (while-after es z h.1) refl)

    until-after : (es : Exprs) (y : List Effect) → AreTraceless es → evaluation_until_true d part b then_flags es (x ++ y) ≡ after_effects x (evaluation_until_true d part b c es y)
    until-after no_exprs y h = refl
    until-after (and_expr e es) y h = then-after x _ (evaluation d part b c e y) _ _ (one-after e y h.0) (λ t z. branch-after x (is_true t) _ _ _ _ refl (until-after es z h.1))

pub only_trace_reads_flags : OnlyTraceReadsFlags
only_trace_reads_flags d part b c flags e x h = ap (evaluation d part b (record c { flags = flags }) e) (sym (append-nil x)) ∙ one-after d part b c flags x e [] h

-- ---- element by element

-- one value before the others; a fault where one is
abbrev pub before : Option Tree → Option (List Tree) → Option (List Tree)
before None ts = None
before (Some t) None = None
before (Some t) (Some ts) = Some (t ∷ ts)

pub value-behind : {X : Type 0} (x : List Effect) (r : Evaluation X) → its_value (after_effects x r) ≡ its_value r
value-behind x (comes_to t y) = refl
value-behind x (faults y) = refl

pub both-values : (r : Evaluation Tree) (f : List Effect → Evaluation (List Tree)) (o : Option (List Tree)) → ((y : List Effect) → its_value (f y) ≡ o) → its_value (then_on r (λ t y. then_on (f y) (λ ts z. comes_to (t ∷ ts) z))) ≡ before (its_value r) o
both-values (faults y) f o h = refl
both-values (comes_to t y) f o h = go (f y) ∙ ap (before (Some t)) (h y)
  where
    go : (s : Evaluation (List Tree)) → its_value (then_on s (λ ts z. comes_to (t ∷ ts) z)) ≡ before (Some t) (its_value s)
    go (faults z) = refl
    go (comes_to ts z) = refl

terms_in : (ts us : List Tree) → Some ts ≡ Some us → ts ≡ us
terms_in ts us e = ap (λ o. unwrap_or o ts) e

first_of_both : (o : Option Tree) (p : Option (List Tree)) (t : Tree) (ts : List Tree) → before o p ≡ Some (t ∷ ts) → (o ≡ Some t) × (p ≡ Some ts)
first_of_both None p t ts e = cc
first_of_both (Some u) None t ts e = cc
first_of_both (Some u) (Some us) t ts e =
    let r : u ∷ us ≡ t ∷ ts = terms_in (u ∷ us) (t ∷ ts) e in
    (cc, cc)

never_empty : (o : Option Tree) (p : Option (List Tree)) → before o p ≡ Some [] → ⊥
never_empty None p e = cc
never_empty (Some u) None e = cc
never_empty (Some u) (Some us) e = cc

module _ (d : Dialect) (part : Position) (b : Bindings) (c : Context) where
  values-here : (e : Expr) (es : Exprs) → AreTraceless es → values d part b c (and_expr e es) ≡ before (value d part b c e) (values d part b c es)
  values-here e es h =
      both-values (evaluation d part b c e []) (evaluation_of_all d part b c es) (values d part b c es)
      (λ y. ap (λ z. its_value (evaluation_of_all d part b c es z)) (sym (append-nil y)) ∙ ap its_value (all-after d part b c c.flags y es [] h) ∙ value-behind y (evaluation_of_all d part b c es []))

  each-of : (es : Exprs) (ts : List Tree) → AreTraceless es → values d part b c es ≡ Some ts → EachValue d part b c es ts
  each-of no_exprs [] k h = tt
  each-of no_exprs (t ∷ ts) k h = cc
  each-of (and_expr e es) [] k h = never_empty _ _ (sym (values-here e es k.1) ∙ h)
  each-of (and_expr e es) (t ∷ ts) k h =
      let r : (value d part b c e ≡ Some t) × (values d part b c es ≡ Some ts) = first_of_both _ _ t ts (sym (values-here e es k.1) ∙ h) in
      (r.0, each-of es ts k.1 r.1)

  of-each : (es : Exprs) (ts : List Tree) → AreTraceless es → EachValue d part b c es ts → values d part b c es ≡ Some ts
  of-each no_exprs [] k h = refl
  of-each no_exprs (t ∷ ts) k h = absurd h
  of-each (and_expr e es) [] k h = absurd h
  of-each (and_expr e es) (t ∷ ts) k h = values-here e es k.1 ∙ (λ i. before (h.0 i) (of-each es ts k.1 h.1 i))

pub effects_change_no_value : EffectsChangeNoValue
effects_change_no_value d part b c es ts k = (each-of d part b c es ts k, of-each d part b c es ts k)
