-- The row of an end says which slots its view has, before and after each step.
use Rattle.std.proofs.Common.{◌≡◌, ◌≢◌, ℕ, zero, suc, ◌+◌, ◌<◌, Bool, true, false, cond, nat_eq, List, [], ◌∷◌, length, replicate, slice_set, slice_index_or, ◌⊎◌, ⊎_elim, sym, refl, ap, ◌∙◌, subst, arith, length-set}
use Rattle.std.proofs.lemmas.Bool.{false≢true}
use Rattle.std.proofs.lemmas.Bool.Decides.{Decides-eqb, nat_tests}
use Rattle.std.proofs.lemmas.List.{get_or-set_same, get_or-set_other}
use Rattle.def_turns.specs.Slots.{is_slot}
use Rattle.def_turns.specs.Turns.{times}
use Rattle.def_turns.specs.Moments.{TakesTurn, GivesTurn}
use Rattle.def_turns.proofs.Counts.{tick, times-append, times-one, times-without}
use Rattle.def_turns.proofs.Rule.{new_to_view}
use Rattle.tn_pool.specs.Rows.{row_place, IsHeld}

-- the place of a slot tells the slot
place-cases : (x : ℕ) → is_slot x ≡ true → ((x ≡ 0) × (row_place x ≡ 0)) ⊎ ((99 < x) × (x < 164) × (row_place x + 99 ≡ x))
place-cases x s = grind (arith, nat_tests)

place-apart : (x y : ℕ) → is_slot x ≡ true → is_slot y ≡ true → y ≢ x → row_place y ≢ row_place x
place-apart x y s t ne e =
    ⊎_elim
    (λ (a : (x ≡ 0) × (row_place x ≡ 0)).
    ⊎_elim (λ (b : (y ≡ 0) × (row_place y ≡ 0)). ne (omega (arith, a.0, b.0))) (λ (b : (99 < y) × (y < 164) × (row_place y + 99 ≡ y)). absurd (omega (arith, a.1, b.0, b.2, e))) (place-cases y t))
    (λ (a : (99 < x) × (x < 164) × (row_place x + 99 ≡ x)).
    ⊎_elim (λ (b : (y ≡ 0) × (row_place y ≡ 0)). absurd (omega (arith, a.0, a.2, b.1, e))) (λ (b : (99 < y) × (y < 164) × (row_place y + 99 ≡ y)). ne (omega (arith, a.2, b.2, e))) (place-cases y t))
    (place-cases x s)

place-within : (x : ℕ) → is_slot x ≡ true → row_place x < 65
place-within x s =
    ⊎_elim (λ (a : (x ≡ 0) × (row_place x ≡ 0)). omega (arith, a.1)) (λ (a : (99 < x) × (x < 164) × (row_place x + 99 ≡ x)). omega (arith, a.1, a.2)) (place-cases x s)

held-step : (held : List Bool) (x y : ℕ) (b q : Bool) (n : ℕ) → length held ≡ 65 → is_slot x ≡ true → is_slot y ≡ true → nat_eq x y ≡ q → (q ≡ true → n ≡ tick b) → (q ≡ false → n ≡ tick (slice_index_or held (row_place y) false))
    → n ≡ tick (slice_index_or (slice_set held (row_place x) b) (row_place y) false)
held-step held x y b true n l s t e mine other =
    let xy : x ≡ y = (Decides-eqb x y).0 e in
    let r : slice_index_or (slice_set held (row_place x) b) (row_place y) false ≡ b = subst (λ k. slice_index_or (slice_set held (row_place x) b) (row_place k) false ≡ b) xy (get_or-set_same held (row_place x) b false (omega (arith, l, place-within x s))) in
    mine refl ∙ ap (λ w. tick w) (sym r)
held-step held x y b false n l s t e mine other =
    let ne : y ≢ x = λ p. absurd (false≢true (sym e ∙ (Decides-eqb x y).1 (sym p))) in
    let r : slice_index_or (slice_set held (row_place x) b) (row_place y) false ≡ slice_index_or held (row_place y) false = get_or-set_other held (row_place x) (row_place y) b false (place-apart x y s t ne) in
    other refl ∙ ap (λ w. tick w) (sym r)

-- after a token is taken
pub held_takes : (held : List Bool) (v w : List ℕ) (x : ℕ) → IsHeld held v → is_slot x ≡ true → TakesTurn v x w → IsHeld (slice_set held (row_place x) true) w
held_takes held v w x is s g = (
  length-set held (row_place x) true ∙ is.0,
  λ y t.
      let c : times y w ≡ times y v + tick (nat_eq x y) = ap (λ l. times y l) g.step.gains ∙ (times-append y v (x ∷ []) ∙ ap (λ n. times y v + n) (times-one y x)) in
      held-step held x y true (nat_eq x y) (times y w) is.0 s t refl (λ q. let z : times y v ≡ 0 = subst (λ k. times k v ≡ 0) ((Decides-eqb x y).0 q) (new_to_view v x w g) in omega (arith, c, z, ap (λ b. tick b) q))
      (λ q. omega (arith, c, is.1 y t, ap (λ b. tick b) q)),
)

-- after a token is given
pub held_gives : (held : List Bool) (v w : List ℕ) (x : ℕ) → IsHeld held v → is_slot x ≡ true → GivesTurn v x w → IsHeld (slice_set held (row_place x) false) w
held_gives held v w x is s g = (
  length-set held (row_place x) false ∙ is.0,
  λ y t.
      let c : times y w + cond (nat_eq x y) (times x v) 0 ≡ times y v = ap (λ l. times y l + cond (nat_eq x y) (times x v) 0) g.step.loses ∙ times-without x y v in
      held-step held x y false (nat_eq x y) (times y w) is.0 s t refl
      (λ q. let z : times x v ≡ times y v = ap (λ k. times k v) ((Decides-eqb x y).0 q) in omega (arith, c, z, ap (λ b. cond b (times x v) 0) q))
      (λ q. omega (arith, c, is.1 y t, ap (λ b. cond b (times x v) 0) q)),
)

-- the row says that the slot is held
pub held_one : (held : List Bool) (v : List ℕ) (x : ℕ) → IsHeld held v → is_slot x ≡ true → slice_index_or held (row_place x) false ≡ true → times x v ≡ 1
held_one held v x is s h = is.1 x s ∙ ap (λ b. tick b) h

none-there : (n i : ℕ) → slice_index_or (replicate n false) i false ≡ false
none-there zero i = refl
none-there (suc n) zero = refl
none-there (suc n) (suc i) = none-there n i

-- at first
pub held_none : (held : List Bool) (v : List ℕ) → held ≡ replicate 65 false → v ≡ [] → IsHeld held v
held_none held v none e = (
  ap (λ (w : List Bool). length w) none,
  λ x s. ap (λ w. times x w) e ∙ ap (λ b. tick b) (sym (ap (λ w. slice_index_or w (row_place x) false) none ∙ none-there 65 (row_place x))),
)
