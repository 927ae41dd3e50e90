-- The walk over a pattern finds the one binding of `Matches`.
use Rattle.std.proofs.Common.{◌≡◌, ℕ, [], ◌∷◌, Bool, true, false, cond, T, ◌||◌, ◌==◌, Option, Some, None, is_some, unwrap_or, refl, sym, ap, ◌∙◌, subst, nat_cmp, if◌then◌else◌, eq-eqb, eqb-true}
use Rattle.std.specs.Bool.{⊤}
use Rattle.std.specs.Ordering.{eq_by_cmp, is_eq}
use Rattle.std.specs.Cmp.{nat_cmp_total, Equal-is, both_ways}
use Rattle.std.specs.FinMap.{put, is_sorted, nat_cmp-IsAntisymmetric}
use Rattle.std.specs.FinMap.Entries.{find-put, is_sorted-put, same_entries}
use Rattle.std.specs.Option.{option_and_then}
use Rattle.def_term.specs.Tree.{Tree, tuple, list, Trees, none, more}
use Rattle.def_term.specs.Order.{same}
use Rattle.def_term.proofs.Same.{tied_self, same-is, same-self}
use Rattle.def_spec.specs.Matching.{Pattern, Patterns, variable, anything, only_term, in_tuple, in_list, no_patterns, and_pattern, Bindings, value_bound, occurs, occurs_in_some, here, past, Fill, subst_in, subst_each, Matches, bind, bind_on, bind_each, bindings_of}

to_T : (b : Bool) → b ≡ true → T b
to_T b e = subst T (sym e) tt

of_T : (b : Bool) → T b → b ≡ true
of_T true h = refl
of_T false h = absurd h

-- the order's tie is the equality of numbers
tied_is : (q k : ℕ) → eq_by_cmp nat_cmp q k ≡ (q == k)
tied_is q k = both_ways _ _ (λ e. eq-eqb q k (nat_cmp-IsAntisymmetric q k ((Equal-is (nat_cmp q k)).0 e))) (λ e. subst (λ x. eq_by_cmp nat_cmp q x ≡ true) (eqb-true q k e) (ap is_eq (tied_self nat_cmp_total q)))

get_put : (q k : ℕ) (t : Tree) (b : Bindings) → value_bound (put nat_cmp k t b) q ≡ cond (q == k) (Some t) (value_bound b q)
get_put q k t b = find-put nat_cmp nat_cmp_total q k t b ∙ ap (λ s. cond s (Some t) (value_bound b q)) (tied_is q k)

-- what b binds, c binds to the same
abbrev Extends : Bindings → Bindings → Type 0
Extends b c = (n : ℕ) (t : Tree) → value_bound b n ≡ Some t → value_bound c n ≡ Some t

abbrev mutual
  Fits : Pattern → Bindings → Tree → Type 0
  Fits (variable n) b t = value_bound b n ≡ Some t
  Fits anything b t = ⊤
  Fits (only_term c) b t = c ≡ t
  Fits (in_tuple ps) b (tuple ts) = FitEach ps b ts
  Fits (in_tuple ps) b _ = ⊥
  Fits (in_list ps) b (list ts) = FitEach ps b ts
  Fits (in_list ps) b _ = ⊥

  FitEach : Patterns → Bindings → Trees → Type 0
  FitEach no_patterns b none = ⊤
  FitEach no_patterns b (more t ts) = ⊥
  FitEach (and_pattern p ps) b none = ⊥
  FitEach (and_pattern p ps) b (more t ts) = Fits p b t × FitEach ps b ts

abbrev split : Fill → Fill → Fill
split f g [] = f []
split f g (here ∷ path) = f path
split f g (past ∷ path) = g path

mutual
  fill_of : (p : Pattern) (b : Bindings) (t : Tree) → Fits p b t → (fill : Fill) × (subst_in p b fill ≡ t)
  fill_of (variable n) b t h = (λ _. t, ap (λ o. unwrap_or o (list none)) h)
  fill_of anything b t h = (λ _. t, refl)
  fill_of (only_term c) b t h = (λ _. t, h)
  fill_of (in_tuple ps) b (tuple ts) h = ((fill_each ps b ts h).0, ap tuple (fill_each ps b ts h).1)
  fill_of (in_tuple ps) b _ h = absurd h
  fill_of (in_list ps) b (list ts) h = ((fill_each ps b ts h).0, ap list (fill_each ps b ts h).1)
  fill_of (in_list ps) b _ h = absurd h

  fill_each : (ps : Patterns) (b : Bindings) (ts : Trees) → FitEach ps b ts → (fill : Fill) × (subst_each ps b fill ≡ ts)
  fill_each no_patterns b none h = (λ _. list none, refl)
  fill_each no_patterns b (more t ts) h = absurd h
  fill_each (and_pattern p ps) b none h = absurd h
  fill_each (and_pattern p ps) b (more t ts) h = (split (fill_of p b t h.0).0 (fill_each ps b ts h.1).0, λ i. more ((fill_of p b t h.0).1 i) ((fill_each ps b ts h.1).1 i))

or_left : (a b : Bool) → a ≡ true → (a || b) ≡ true
or_left a b e = ap (λ x. x || b) e

or_right : (a b : Bool) → b ≡ true → (a || b) ≡ true
or_right true b e = refl
or_right false b e = e

there : (o : Option Tree) → is_some o ≡ true → o ≡ Some (unwrap_or o (list none))
there None e = cc
there (Some t) e = refl

self_equal : (n : ℕ) → (n == n) ≡ true
self_equal n = eq-eqb n n refl

mutual
  fits_filled : (p : Pattern) (b : Bindings) (fill : Fill) → ((n : ℕ) → occurs n p ≡ true → is_some (value_bound b n) ≡ true) → Fits p b (subst_in p b fill)
  fits_filled (variable n) b fill h = there (value_bound b n) (h n (self_equal n))
  fits_filled anything b fill h = tt
  fits_filled (only_term c) b fill h = refl
  fits_filled (in_tuple ps) b fill h = fit_filled ps b fill h
  fits_filled (in_list ps) b fill h = fit_filled ps b fill h

  fit_filled : (ps : Patterns) (b : Bindings) (fill : Fill) → ((n : ℕ) → occurs_in_some n ps ≡ true → is_some (value_bound b n) ≡ true) → FitEach ps b (subst_each ps b fill)
  fit_filled no_patterns b fill h = tt
  fit_filled (and_pattern p ps) b fill h = (fits_filled p b _ (λ n e. h n (or_left (occurs n p) (occurs_in_some n ps) e)), fit_filled ps b _ (λ n e. h n (or_right (occurs n p) (occurs_in_some n ps) e)))

mutual
  fits_on : (p : Pattern) (b c : Bindings) (t : Tree) → Extends b c → Fits p b t → Fits p c t
  fits_on (variable n) b c t e h = e n t h
  fits_on anything b c t e h = tt
  fits_on (only_term x) b c t e h = h
  fits_on (in_tuple ps) b c (tuple ts) e h = fit_on ps b c ts e h
  fits_on (in_tuple ps) b c _ e h = absurd h
  fits_on (in_list ps) b c (list ts) e h = fit_on ps b c ts e h
  fits_on (in_list ps) b c _ e h = absurd h

  fit_on : (ps : Patterns) (b c : Bindings) (ts : Trees) → Extends b c → FitEach ps b ts → FitEach ps c ts
  fit_on no_patterns b c none e h = tt
  fit_on no_patterns b c (more t ts) e h = absurd h
  fit_on (and_pattern p ps) b c none e h = absurd h
  fit_on (and_pattern p ps) b c (more t ts) e h = (fits_on p b c t e h.0, fit_on ps b c ts e h.1)

-- what a walk from b to c has done, for what occurs and what fits
record Walked (b c : Bindings) (occurring : ℕ → Bool) (Fitting : Type 0) : Type 0 where
  rising : T (is_sorted nat_cmp c)
  keeps : (n : ℕ) (u : Tree) → value_bound b n ≡ Some u → value_bound c n ≡ Some u
  exact : (n : ℕ) → is_some (value_bound c n) ≡ (is_some (value_bound b n) || occurring n)
  fits : Fitting

or_false : (a : Bool) → a ≡ (a || false)
or_false true = refl
or_false false = refl

or_assoc : (a b c : Bool) → ((a || b) || c) ≡ (a || (b || c))
or_assoc true b c = refl
or_assoc false b c = refl

value_in : (t u : Tree) → Some t ≡ Some u → t ≡ u
value_in t u e = ap (λ o. unwrap_or o t) e

pub bindings_in : (b c : Bindings) → Some b ≡ Some c → b ≡ c
bindings_in b c e = ap (λ o. unwrap_or o b) e

not_both : {A : Type 0} (o : Option Tree) (u : Tree) → o ≡ None → o ≡ Some u → A
not_both o u e h = absurd (subst (λ (x : Option Tree). T (is_some x)) (sym h ∙ e) tt)

untouched : (b c : Bindings) (F : Type 0) → b ≡ c → T (is_sorted nat_cmp b) → F → Walked b c (λ n. false) F
untouched b c F e s f = record {
  rising = subst (λ x. T (is_sorted nat_cmp x)) e s;
  keeps = λ n u h. subst (λ x. value_bound x n ≡ Some u) e h;
  exact = λ n. ap (λ x. is_some (value_bound x n)) (sym e) ∙ or_false (is_some (value_bound b n));
  fits = f;
}

if_some : (s : Bool) (b c : Bindings) → (if s then Some b else None) ≡ Some c → (s ≡ true) × (b ≡ c)
if_some true b c e = (refl, bindings_in b c e)
if_some false b c e = cc

keeps_put : (n : ℕ) (t : Tree) (b : Bindings) → value_bound b n ≡ None → (m : ℕ) (u : Tree) (s : Bool) → (m == n) ≡ s → value_bound b m ≡ Some u → cond s (Some t) (value_bound b m) ≡ Some u
keeps_put n t b absent m u true e h = not_both (value_bound b n) u absent (subst (λ x. value_bound b x ≡ Some u) (eqb-true m n e) h)
keeps_put n t b absent m u false e h = h

some_put : (t : Tree) (o : Option Tree) (s : Bool) → is_some (cond s (Some t) o) ≡ (is_some o || s)
some_put t None true = refl
some_put t None false = refl
some_put t (Some u) true = refl
some_put t (Some u) false = refl

some_kept : (n : ℕ) (b : Bindings) (u : Tree) (m : ℕ) (s : Bool) → value_bound b n ≡ Some u → (m == n) ≡ s → is_some (value_bound b m) ≡ (is_some (value_bound b m) || s)
some_kept n b u m true e h = let is : is_some (value_bound b m) ≡ true = ap (λ x. is_some (value_bound b x)) (eqb-true m n h) ∙ ap is_some e in is ∙ sym (ap (λ x. x || true) is)
some_kept n b u m false e h = or_false (is_some (value_bound b m))

met_sound : (n : ℕ) (t : Tree) (b c : Bindings) (o : Option Tree) → value_bound b n ≡ o → T (is_sorted nat_cmp b) → bind n t b o ≡ Some c → Walked b c (λ m. m == n) (value_bound c n ≡ Some t)
met_sound n t b c None e s h = subst (λ x. Walked b x (λ m. m == n) (value_bound x n ≡ Some t)) (bindings_in (put nat_cmp n t b) c h) (record {
  rising = is_sorted-put nat_cmp nat_cmp_total n t b s;
  keeps = λ m u f. get_put m n t b ∙ keeps_put n t b e m u (m == n) refl f;
  exact = λ m. ap is_some (get_put m n t b) ∙ some_put t (value_bound b m) (m == n);
  fits = get_put n n t b ∙ ap (λ q. cond q (Some t) (value_bound b n)) (self_equal n);
})
met_sound n t b c (Some u) e s h =
    let r : (same u t ≡ true) × (b ≡ c) = if_some (same u t) b c h in
    subst (λ x. Walked b x (λ m. m == n) (value_bound x n ≡ Some t)) r.1 (record {
      rising = s;
      keeps = λ m v f. f;
      exact = λ m. some_kept n b u m (m == n) e refl;
      fits = e ∙ ap Some (same-is u t r.0);
    })

and_then_some : (f : Bindings → Option Bindings) (o : Option Bindings) (c : Bindings) → option_and_then f o ≡ Some c → (m : Bindings) × (o ≡ Some m) × (f m ≡ Some c)
and_then_some f None c e = cc
and_then_some f (Some m) c e = (m, refl, e)

walked_both : {b m c : Bindings} {f g : ℕ → Bool} {F G H : Type 0} → (Extends m c → F → G → H) → Walked b m f F → Walked m c g G → Walked b c (λ n. f n || g n) H
walked_both {b} {m} {c} {f} {g} join v w = record {
  rising = w.rising;
  keeps = λ n u e. w.keeps n u (v.keeps n u e);
  exact = λ n. w.exact n ∙ ap (λ x. x || g n) (v.exact n) ∙ or_assoc (is_some (value_bound b n)) (f n) (g n);
  fits = join w.keeps v.fits w.fits;
}

mutual
  sound : (p : Pattern) (t : Tree) (b c : Bindings) → T (is_sorted nat_cmp b) → bind_on p t b ≡ Some c → Walked b c (λ n. occurs n p) (Fits p c t)
  sound (variable n) t b c s h = met_sound n t b c (value_bound b n) refl s h
  sound anything t b c s h = untouched b c ⊤ (bindings_in b c h) s tt
  sound (only_term x) t b c s h = untouched b c (x ≡ t) (if_some (same x t) b c h).1 s (same-is x t (if_some (same x t) b c h).0)
  sound (in_tuple ps) (tuple ts) b c s h = sound_each ps ts b c s h
  sound (in_tuple ps) _ b c s h = cc
  sound (in_list ps) (list ts) b c s h = sound_each ps ts b c s h
  sound (in_list ps) _ b c s h = cc

  sound_each : (ps : Patterns) (ts : Trees) (b c : Bindings) → T (is_sorted nat_cmp b) → bind_each ps ts b ≡ Some c → Walked b c (λ n. occurs_in_some n ps) (FitEach ps c ts)
  sound_each no_patterns none b c s h = untouched b c ⊤ (bindings_in b c h) s tt
  sound_each no_patterns (more t ts) b c s h = cc
  sound_each (and_pattern p ps) none b c s h = cc
  sound_each (and_pattern p ps) (more t ts) b c s h =
      let r : (m : Bindings) × (bind_on p t b ≡ Some m) × (bind_each ps ts m ≡ Some c) = and_then_some (bind_each ps ts) (bind_on p t b) c h in
      let v : Walked b r.0 (λ n. occurs n p) (Fits p r.0 t) = sound p t b r.0 s r.1 in
      let w : Walked r.0 c (λ n. occurs_in_some n ps) (FitEach ps c ts) = sound_each ps ts r.0 c v.rising r.2 in
      walked_both (λ e x y. (fits_on p r.0 c t e x, y)) v w

extends_put : (n : ℕ) (t : Tree) (b c : Bindings) → Extends b c → value_bound c n ≡ Some t → (m : ℕ) (u : Tree) (s : Bool) → (m == n) ≡ s → cond s (Some t) (value_bound b m) ≡ Some u → value_bound c m ≡ Some u
extends_put n t b c e h m u true is f = subst (λ x. value_bound c x ≡ Some t) (sym (eqb-true m n is)) h ∙ f
extends_put n t b c e h m u false is f = e m u f

met_complete : (n : ℕ) (t : Tree) (b c : Bindings) (o : Option Tree) → value_bound b n ≡ o → Extends b c → value_bound c n ≡ Some t → (d : Bindings) × (bind n t b o ≡ Some d) × Extends d c
met_complete n t b c None is e h = (put nat_cmp n t b, refl, λ m u f. extends_put n t b c e h m u (m == n) refl (sym (get_put m n t b) ∙ f))
met_complete n t b c (Some u) is e h =
    let equal : u ≡ t = value_in u t (sym (e n u is) ∙ h) in
    (b, ap (λ s. if s then Some b else None) (subst (λ x. same u x ≡ true) equal (same-self u)), e)

mutual
  complete : (p : Pattern) (t : Tree) (b c : Bindings) → T (is_sorted nat_cmp b) → Extends b c → Fits p c t → (d : Bindings) × (bind_on p t b ≡ Some d) × Extends d c
  complete (variable n) t b c s e h = met_complete n t b c (value_bound b n) refl e h
  complete anything t b c s e h = (b, refl, e)
  complete (only_term x) t b c s e h = (b, ap (λ s. if s then Some b else None) (subst (λ y. same x y ≡ true) h (same-self x)), e)
  complete (in_tuple ps) (tuple ts) b c s e h = complete_each ps ts b c s e h
  complete (in_tuple ps) _ b c s e h = absurd h
  complete (in_list ps) (list ts) b c s e h = complete_each ps ts b c s e h
  complete (in_list ps) _ b c s e h = absurd h

  complete_each : (ps : Patterns) (ts : Trees) (b c : Bindings) → T (is_sorted nat_cmp b) → Extends b c → FitEach ps c ts → (d : Bindings) × (bind_each ps ts b ≡ Some d) × Extends d c
  complete_each no_patterns none b c s e h = (b, refl, e)
  complete_each no_patterns (more t ts) b c s e h = absurd h
  complete_each (and_pattern p ps) none b c s e h = absurd h
  complete_each (and_pattern p ps) (more t ts) b c s e h =
      let r : (d : Bindings) × (bind_on p t b ≡ Some d) × Extends d c = complete p t b c s e h.0 in
      let w : Walked b r.0 (λ n. occurs n p) (Fits p r.0 t) = sound p t b r.0 s r.1 in
      let q : (d : Bindings) × (bind_each ps ts r.0 ≡ Some d) × Extends d c = complete_each ps ts r.0 c w.rising r.2 h.1 in
      (q.0, ap (option_and_then (bind_each ps ts)) r.1 ∙ q.1, q.2)

same_option : (o p : Option Tree) → ((u : Tree) → o ≡ Some u → p ≡ Some u) → is_some p ≡ is_some o → o ≡ p
same_option None None f e = refl
same_option None (Some u) f e = cc
same_option (Some u) p f e = sym (f u refl)

pub bind-matches : (p : Pattern) (t : Tree) (b : Bindings) → bindings_of p t ≡ Some b → Matches p t b
bind-matches p t b h =
    let w : Walked [] b (λ n. occurs n p) (Fits p b t) = sound p t [] b tt h in
    record { rising = of_T (is_sorted nat_cmp b) w.rising; exact = w.exact; filled = fill_of p b t w.fits }

pub matches-bind : (p : Pattern) (t : Tree) (b : Bindings) → Matches p t b → bindings_of p t ≡ Some b
matches-bind p t b m =
    let fits : Fits p b t = subst (λ x. Fits p b x) m.filled.1 (fits_filled p b m.filled.0 (λ n e. m.exact n ∙ e)) in
    let r : (d : Bindings) × (bind_on p t [] ≡ Some d) × Extends d b = complete p t [] b tt (λ n u e. cc) fits in
    let w : Walked [] r.0 (λ n. occurs n p) (Fits p r.0 t) = sound p t [] r.0 tt r.1 in
    r.1 ∙ ap Some (same_entries nat_cmp nat_cmp_total nat_cmp-IsAntisymmetric r.0 b w.rising (to_T (is_sorted nat_cmp b) m.rising) (λ n. same_option (value_bound r.0 n) (value_bound b n) (r.2 n) (m.exact n ∙ sym (w.exact n))))
