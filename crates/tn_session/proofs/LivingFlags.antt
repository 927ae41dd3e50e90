-- The flags of each living process changed, place by place.
use Rattle.std.proofs.Common.{◌≡◌, ◌∙◌, ◌+◌, ◌-◌, ◌<◌, ℕ, zero, suc, Bool, true, false, cond, if◌then◌else◌, List, [], ◌∷◌, length, get_or, set, take, unwrap_or, refl, sym, ap, arith, add-one}
use Rattle.std.specs.Prelude.{slice_get}
use Rattle.def_term.specs.Alive.{Alive}
use Rattle.def_spec.specs.Flags.{Flags, no_flags, FlagTable, flags_in, with_flags_in}
use Rattle.def_session.specs.Commands.{changed_flags, all_changed}

pub nothing_changed : (on : Bool) (f : Flags) (gs : List Flags) → all_changed on f [] gs ≡ gs
nothing_changed on f [] = refl
nothing_changed on f (g ∷ gs) = refl

abbrev nobody : Alive
nobody = []

take_none : (i : ℕ) → take i nobody ≡ nobody
take_none zero = refl
take_none (suc i) = refl

head_case : (on : Bool) (f g x : Flags) (gs hs : List Flags) (b : Bool) → x ≡ g → hs ≡ gs → (if b then changed_flags on f g else g) ∷ hs ≡ cond b (changed_flags on f x ∷ gs) (g ∷ gs)
head_case on f g x gs hs true e h = ap (λ y. changed_flags on f y ∷ hs) (sym e) ∙ ap (λ ys. changed_flags on f x ∷ ys) h
head_case on f g x gs hs false e h = ap (λ ys. g ∷ ys) h

cond_cons : {X : Type 0} (b : Bool) (h : X) (xs ys : List X) → h ∷ cond b xs ys ≡ cond b (h ∷ xs) (h ∷ ys)
cond_cons true h xs ys = refl
cond_cons false h xs ys = refl

-- one more place
pub one_more_changed : (on : Bool) (f x e : Flags) (bs : Alive) (gs : List Flags) (i : ℕ) → i < length gs → x ≡ get_or (all_changed on f (take i bs) gs) i e
    → all_changed on f (take (suc i) bs) gs ≡ cond (unwrap_or (slice_get bs i) false) (set (all_changed on f (take i bs) gs) i (changed_flags on f x)) (all_changed on f (take i bs) gs)
one_more_changed on f x e [] gs i below is = ap (λ bs. all_changed on f bs gs) (sym (take_none i))
one_more_changed on f x e (b ∷ bs) [] i below is = absurd (omega arith)
one_more_changed on f x e (b ∷ bs) (g ∷ gs) zero below is = head_case on f g x gs (all_changed on f [] gs) b is (nothing_changed on f gs)
one_more_changed on f x e (b ∷ bs) (g ∷ gs) (suc i) below is =
    let h : Flags = if b then changed_flags on f g else g in
    ap (λ ys. h ∷ ys) (one_more_changed on f x e bs gs i (omega arith) is)
    ∙ cond_cons (unwrap_or (slice_get bs i) false) h (set (all_changed on f (take i bs) gs) i (changed_flags on f x)) (all_changed on f (take i bs) gs)

pub all_places : (on : Bool) (f : Flags) (bs : Alive) (gs : List Flags) (n : ℕ) → length gs ≡ n → all_changed on f (take n bs) gs ≡ all_changed on f bs gs
all_places on f [] gs n e = ap (λ bs. all_changed on f bs gs) (take_none n)
all_places on f (b ∷ bs) [] zero e = refl
all_places on f (b ∷ bs) [] (suc n) e = absurd (omega arith)
all_places on f (b ∷ bs) (g ∷ gs) zero e = absurd (omega arith)
all_places on f (b ∷ bs) (g ∷ gs) (suc n) e = ap (λ ys. (if b then changed_flags on f g else g) ∷ ys) (all_places on f bs gs n (omega arith))

-- ---- a table, whose process at a place lives, and one whose doesn't

or_none : (xs : List Flags) (i : ℕ) → unwrap_or (slice_get xs i) no_flags ≡ get_or xs i no_flags
or_none [] zero = refl
or_none [] (suc i) = refl
or_none (x ∷ xs) zero = refl
or_none (x ∷ xs) (suc i) = or_none xs i

module _ (on : Bool) (f : Flags) (bs : Alive) (start all : FlagTable) (i : ℕ) (below : i < length start) (so_far : all ≡ all_changed on f (take i bs) start) where
  next : all_changed on f (take (i + 1) bs) start ≡ cond (unwrap_or (slice_get bs i) false) (set all i (changed_flags on f (get_or all i no_flags))) all
  next =
      ap (λ n. all_changed on f (take n bs) start) (add-one i)
      ∙ one_more_changed on f (get_or all i no_flags) no_flags bs start i below (ap (λ ys. get_or ys i no_flags) so_far)
      ∙ ap (λ ys. cond (unwrap_or (slice_get bs i) false) (set ys i (changed_flags on f (get_or all i no_flags))) ys) (sym so_far)

  pub living_case : (new : FlagTable) (pid : ℕ) (old after : Flags) → pid ≡ 100 + i → old ≡ flags_in all pid → after ≡ changed_flags on f old → new ≡ with_flags_in all pid after
      → true ≡ unwrap_or (slice_get bs i) false → new ≡ all_changed on f (take (i + 1) bs) start
  living_case new pid old after at read changes made lives =
      let place : pid - 100 ≡ i = omega (arith, at) in
      made
      ∙ ap (λ n. set all n after) place
      ∙ ap (set all i) (changes ∙ ap (changed_flags on f) (read ∙ ap (λ n. unwrap_or (slice_get all n) no_flags) place ∙ or_none all i))
      ∙ sym (next ∙ ap (λ q. cond q (set all i (changed_flags on f (get_or all i no_flags))) all) (sym lives))

  pub other_case : (new : FlagTable) → new ≡ all → false ≡ unwrap_or (slice_get bs i) false → new ≡ all_changed on f (take (i + 1) bs) start
  other_case new same lives = same ∙ sym (next ∙ ap (λ q. cond q (set all i (changed_flags on f (get_or all i no_flags))) all) (sym lives))
