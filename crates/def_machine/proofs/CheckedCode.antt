-- Code that is checked is valid.
use Rattle.std.proofs.Common.{◌≡◌, ℕ, zero, suc, ◌<◌, ◌≤◌, List, [], ◌∷◌, length, Option, Some, refl, sym, ap, ◌∙◌, subst, arith, Bool, true, false, nat_le, nat_lt, slice_get, ◌==◌, ◌&&◌, ◌||◌, inl, inr, ◌⊎◌, ⊎_elim, eq-eqb, eqb-true}
use Rattle.std.proofs.lemmas.Bool.{leb-true, cases_lt}
use Rattle.std.proofs.lemmas.Option.{slice_get_within}
use Rattle.std.proofs.lemmas.Bool.{and_parts}
use Rattle.def_machine.specs.Instructions.{Instruction}
use Rattle.def_machine.specs.Validity.{Each, ways, Way, leads_to, reads, has_its_number, RegisterSet, no_register, with_registers, LeadsForward, IsInPlace, HasInstruction, ReadsSet}
use Rattle.def_machine.specs.Acceptance.{all_below, some_below, all_of_them, where_standing, is_one_of, leads_forward, stops_at, sets_before, is_set_before, is_fine, is_checked}
use Rattle.def_machine.specs.Laws.{CheckedCodeIsValid}

abbrev pub IsIn : {X : Type 0} → X → List X → Type 0
IsIn x [] = ⊥
IsIn x (y ∷ ys) = (x ≡ y) ⊎ IsIn x ys

-- ---- tests as facts

either_true : (a b : Bool) → (a || b) ≡ true → (a ≡ true) ⊎ (b ≡ true)
either_true true b e = inl refl
either_true false b e = inr e

all_hold : (n : ℕ) (f : ℕ → Bool) → all_below n f ≡ true → (k : ℕ) → k < n → f k ≡ true
all_hold zero f h k l = absurd (omega (arith, l))
all_hold (suc n) f h k l =
    let b : (all_below n f ≡ true) × (f n ≡ true) = and_parts (all_below n f) (f n) h in
    ⊎_elim (λ lt. all_hold n f b.0 k lt) (λ le. let e : n ≡ k = omega (arith, l, le) in subst (λ x. f x ≡ true) e b.1) (cases_lt k n)

some_holds : (n : ℕ) (f : ℕ → Bool) → some_below n f ≡ true → (k : ℕ) × (k < n) × (f k ≡ true)
some_holds zero f h = cc
some_holds (suc n) f h = ⊎_elim
    (λ a. let r : (k : ℕ) × (k < n) × (f k ≡ true) = some_holds n f a in (r.0, omega (arith, r.1), r.2))
    (λ b. (n, omega arith, b)) (either_true (some_below n f) (f n) h)

each-holds : {X : Type 0} (P : X → Type 0) (f : X → Bool) (xs : List X) → ((x : X) → f x ≡ true → P x) → all_of_them f xs ≡ true → Each P xs
each-holds P f [] on h = tt
each-holds P f (x ∷ xs) on h = let b : (f x ≡ true) × (all_of_them f xs ≡ true) = and_parts (f x) (all_of_them f xs) h in (on x b.0, each-holds P f xs on b.1)

of_all : {X : Type 0} (f : X → Bool) (xs : List X) (x : X) → all_of_them f xs ≡ true → IsIn x xs → f x ≡ true
of_all f [] x h i = absurd i
of_all f (y ∷ ys) x h (inl e) = ap f e ∙ (and_parts (f y) (all_of_them f ys) h).0
of_all f (y ∷ ys) x h (inr i) = of_all f ys x (and_parts (f y) (all_of_them f ys) h).1 i

is_there : (r : ℕ) (qs : List ℕ) → is_one_of r qs ≡ true → IsIn r qs
is_there r [] h = cc
is_there r (q ∷ qs) h = ⊎_elim (λ a. inl (eqb-true r q a)) (λ b. inr (is_there r qs b)) (either_true (r == q) (is_one_of r qs) h)

standing_there : (f : Instruction → Bool) (x : Option Instruction) (i : Instruction) → x ≡ Some i → where_standing f x ≡ true → f i ≡ true
standing_there f x i e h = sym (ap (where_standing f) e) ∙ h

-- ---- registers that are set before

-- no way from q or before leads past q to p or before it, but those from q that set r
pub record Guards (code : List Instruction) (q p r : ℕ) : Type 0 where
  pub before : q < p
  pub stops : (j : ℕ) (i : Instruction) (w : Way) → j ≤ q → slice_get code j ≡ Some i → IsIn w (ways i) → (leads_to j w ≤ q) ⊎ ((p < leads_to j w) ⊎ ((j ≡ q) × IsIn r w.sets))

stops-here : (q p r j : ℕ) (w : Way) → stops_at q p r j w ≡ true → (leads_to j w ≤ q) ⊎ ((p < leads_to j w) ⊎ ((j ≡ q) × IsIn r w.sets))
stops-here q p r j w h = ⊎_elim
    (λ a. inl (leb-true (leads_to j w) q a))
    (λ x. ⊎_elim
    (λ b. inr (inl (leb-true (suc p) (leads_to j w) b)))
    (λ y. let z : ((j == q) ≡ true) × (is_one_of r w.sets ≡ true) = and_parts (j == q) (is_one_of r w.sets) y in inr (inr (eqb-true j q z.0, is_there r w.sets z.1)))
    (either_true (nat_lt p (leads_to j w)) (j == q && is_one_of r w.sets) x))
    (either_true (nat_le (leads_to j w) q) (nat_lt p (leads_to j w) || (j == q && is_one_of r w.sets)) h)

guards-here : (code : List Instruction) (p r : ℕ) → is_set_before code p r ≡ true → (q : ℕ) × Guards code q p r
guards-here code p r h =
    let s : (q : ℕ) × (q < p) × (sets_before code p r q ≡ true) = some_holds p (sets_before code p r) h in (
      s.0,
      record {
        before = s.1;
        stops = λ j i w le at here. stops-here s.0 p r j w
            (of_all (stops_at s.0 p r j) (ways i) w
            (standing_there (λ k. all_of_them (stops_at s.0 p r j) (ways k)) (slice_get code j) i at
            (all_hold (suc s.0) (λ k. where_standing (λ x. all_of_them (stops_at s.0 p r k) (ways x)) (slice_get code k)) s.2 j (omega (arith, le)))) here);
      },
    )

guard_on : (code : List Instruction) (p p1 q r : ℕ) → q < p → p ≤ p1 → Guards code q p1 r → Guards code q p r
guard_on code p p1 q r l le g = record {
  before = l;
  stops = λ j i w lj at here. ⊎_elim (λ a. inl a) (λ x. ⊎_elim (λ b. inr (inl (omega (arith, b, le)))) (λ c. inr (inr c)) x) (g.stops j i w lj at here);
}

-- ---- sets of registers

or_right : (a b : Bool) → b ≡ true → (a || b) ≡ true
or_right true b h = refl
or_right false b h = h

or_left : (a b : Bool) → a ≡ true → (a || b) ≡ true
or_left a b h = ap (λ x. x || b) h

added : (rs : List ℕ) (s : RegisterSet) (r : ℕ) → IsIn r rs → with_registers rs s r ≡ true
added [] s r h = absurd h
added (q ∷ rs) s r (inl e) = or_left (r == q) (with_registers rs s r) (eq-eqb r q e)
added (q ∷ rs) s r (inr h) = or_right (r == q) (with_registers rs s r) (added rs s r h)

kept : (rs : List ℕ) (s : RegisterSet) (r : ℕ) → s r ≡ true → with_registers rs s r ≡ true
kept [] s r h = h
kept (q ∷ rs) s r h = or_right (r == q) (with_registers rs s r) (kept rs s r h)

-- on a path at p, with s set: what a guard of p sets is in s
abbrev Kept : List Instruction → ℕ → RegisterSet → Type 0
Kept code p s = (q r : ℕ) → Guards code q p r → s r ≡ true

step_kept : (code : List Instruction) (p : ℕ) (s : RegisterSet) (i : Instruction) (w : Way) → slice_get code p ≡ Some i → IsIn w (ways i) → p < leads_to p w → Kept code p s → Kept code (leads_to p w) (with_registers w.sets s)
step_kept code p s i w at here l keep q r g = ⊎_elim
    (λ lt. kept w.sets s r (keep q r (guard_on code p (leads_to p w) q r lt (omega (arith, l)) g)))
    (λ le. ⊎_elim (λ a. absurd (omega (arith, a, g.before))) (λ x. ⊎_elim (λ b. absurd (omega (arith, b))) (λ c. added w.sets s r c.1) x) (g.stops p i w le at here))
    (cases_lt q p)

-- ---- valid code

every : {X : Type 0} {P : X → Type 0} (xs : List X) → ((x : X) → IsIn x xs → P x) → Each P xs
every [] f = tt
every (x ∷ xs) f = (f x (inl refl), every xs (λ y h. f y (inr h)))

of_each : {X : Type 0} (P : X → Type 0) (xs : List X) (x : X) → Each P xs → IsIn x xs → P x
of_each P [] x h i = absurd i
of_each P (y ∷ xs) x h (inl e) = subst P (sym e) h.0
of_each P (y ∷ xs) x h (inr i) = of_each P xs x h.1 i

there-is : (code : List Instruction) (p : ℕ) → p < length code → (i : Instruction) × (slice_get code p ≡ Some i)
there-is [] p l = absurd (omega (arith, l))
there-is (i ∷ code) zero l = (i, refl)
there-is (i ∷ code) (suc p) l = there-is code p (omega (arith, l))

module _ (code : List Instruction) (h : is_checked code ≡ true) where
  fine_at : (p : ℕ) (i : Instruction) → slice_get code p ≡ Some i → is_fine code p i ≡ true
  fine_at p i at = standing_there (is_fine code p) (slice_get code p) i at
      (all_hold (length code) (λ k. where_standing (is_fine code k) (slice_get code k)) (and_parts (nat_lt 0 (length code)) _ h).1 p (slice_get_within code p i at))

  in_place : (p : ℕ) (i : Instruction) → slice_get code p ≡ Some i → IsInPlace code p i
  in_place p i at =
      let f : (has_its_number i ≡ true) × ((all_of_them (leads_forward (length code) p) (ways i) && all_of_them (is_set_before code p) (reads i)) ≡ true) = and_parts _ _ (fine_at p i at) in
      record {
        number = f.0;
        forward = each-holds (LeadsForward code p) (leads_forward (length code) p) (ways i)
            (λ w x. let b : (nat_lt p (leads_to p w) ≡ true) × (nat_lt (leads_to p w) (length code) ≡ true) = and_parts _ _ x in
            record { forward = leb-true (suc p) (leads_to p w) b.0; inside = leb-true (suc (leads_to p w)) (length code) b.1 })
            (and_parts _ _ f.1).0;
      }

  guarded : (p r : ℕ) (i : Instruction) → slice_get code p ≡ Some i → IsIn r (reads i) → (q : ℕ) × Guards code q p r
  guarded p r i at here = guards-here code p r (of_all (is_set_before code p) (reads i) r (and_parts _ _ (and_parts _ _ (fine_at p i at)).1).1 here)

  reads-set : (n p : ℕ) (s : RegisterSet) → p < length code → Kept code p s → ReadsSet code n p s
  reads-set zero p s l keep = tt
  reads-set (suc n) p s l keep =
      let P : Instruction → Type 0 = λ i. Each (λ r. s r ≡ true) (reads i) × Each (λ w. ReadsSet code n (leads_to p w) (with_registers w.sets s)) (ways i) in
      let t : (i : Instruction) × (slice_get code p ≡ Some i) = there-is code p l in
      subst (HasInstruction P) (sym t.1) (
        every (reads t.0) (λ r here. let g : (q : ℕ) × Guards code q p r = guarded p r t.0 t.1 here in keep g.0 r g.1),
        every (ways t.0) (λ w here.
            let f : LeadsForward code p w = of_each (LeadsForward code p) (ways t.0) w (in_place p t.0 t.1).forward here in
            reads-set n (leads_to p w) (with_registers w.sets s) f.inside (step_kept code p s t.0 w t.1 here f.forward keep)),
      )

pub checked_code_is_valid : CheckedCodeIsValid
checked_code_is_valid code h =
    let some : 0 < length code = leb-true 1 (length code) (and_parts (nat_lt 0 (length code)) _ h).0 in
    record {
      nonempty = some;
      in_place = in_place code h;
      reads_set = λ n. reads-set code h n 0 no_register some (λ q r g. absurd (omega (arith, g.before)));
    }
