-- What is independent of each other pick is independent of all others.
use Rattle.std.proofs.Common.{◌≡◌, ◌<◌, ◌+◌, ℕ, List, [], ◌∷◌, ◌++◌, length, Bool, true, false, ◌||◌, refl, sym, ap, ◌∙◌, arith, append_assoc, append-nil, length-append, subst}
use Rattle.std.specs.Prelude.{All, ◌==◌}
use Rattle.std.proofs.lemmas.Bool.Decides.{nat_tests}
use Rattle.std.proofs.lemmas.List.Elements.{All-head, All-tail}
use Rattle.def_term.specs.Names.{Name}
use Rattle.def_script.specs.Program.{Program}
use Rattle.def_run.specs.Run.{moves}
use Rattle.def_run.proofs.Runs.{runs_grow}
use Rattle.def_explore.specs.Rests.{IsMovingAfter, RunQuestion}
use Rattle.def_explore.specs.Alike.{IsStateAlike, HasStateOf, is_pick_among, AreIndependent}
use Rattle.def_explore.proofs.Alike.{goes_on, alike_then, alike_same}
use Rattle.def_independence.specs.Laws.{OnePickGoesFirst}
use Rattle.def_independence.proofs.Numbers.{same_if, other_if}

or_false : (b : Bool) → (b || false) ≡ true → b ≡ true
or_false true h = refl
or_false false h = h

or_none : (b : Bool) → (b || false) ≡ false → b ≡ false
or_none true h = h
or_none false h = refl

-- what was before has no more moves
pub fewer : (p : Program) (a b : List ℕ) → length (moves p (a ++ b)) < 65536 → length (moves p a) < 65536
fewer p a b room =
    let grows : (rest : List ℕ) × (moves p (a ++ b) ≡ moves p a ++ rest) = runs_grow p a b in
    let counted : length (moves p (a ++ b)) ≡ length (moves p a) + length grows.0 = ap length grows.1 ∙ length-append (moves p a) grows.0 in
    omega (arith, room, counted)

-- what is kept by each other pick, and makes it independent of that pick
pub record IsApartFromEach (q : RunQuestion) (ss : List Name) (p : Program) (t : ℕ) (Meets : List ℕ → Type 0) : Type 0 where
  pub moving : (j : List ℕ) → Meets j → length (moves p j) < 65536 → IsMovingAfter p j t
  pub kept : (j : List ℕ) (o : ℕ) → Meets j → (o ≡ t → ⊥) → length (moves p (j ++ o ∷ [])) < 65536 → Meets (j ++ o ∷ [])
  pub alike : (j : List ℕ) (o : ℕ) → Meets j → (o ≡ t → ⊥) → length (moves p (j ++ o ∷ [])) < 65536 → IsStateAlike q ss p (j ++ o ∷ t ∷ []) (j ++ t ∷ o ∷ [])

module _ (q : RunQuestion) (ss : List Name) (p : Program) (t : ℕ) (Meets : List ℕ → Type 0) (h : IsApartFromEach q ss p t Meets) where
  abbrev IsFree : ℕ → Type 0
  IsFree o = is_pick_among o (t ∷ []) ≡ false

  from_each : (others j : List ℕ) → Meets j → All IsFree others → length (moves p (j ++ others)) < 65536 → IsMovingAfter p (j ++ others) t × IsStateAlike q ss p ((j ++ others) ++ t ∷ []) (j ++ t ∷ others)
  from_each [] j m free room =
      subst (λ a. IsMovingAfter p a t × IsStateAlike q ss p (a ++ t ∷ []) (j ++ t ∷ [])) (sym (append-nil j))
      (h.moving j m (subst (λ a. length (moves p a) < 65536) (append-nil j) room), alike_same q ss p (j ++ t ∷ []) (j ++ t ∷ []) refl)
  from_each (o ∷ os) j m free room =
      let apart : (j ++ o ∷ []) ++ os ≡ j ++ o ∷ os = append_assoc j (o ∷ []) os in
      let room_first : length (moves p ((j ++ o ∷ []) ++ os)) < 65536 = subst (λ a. length (moves p a) < 65536) (sym apart) room in
      let room_one : length (moves p (j ++ o ∷ [])) < 65536 = fewer p (j ++ o ∷ []) os room_first in
      let other : o ≡ t → ⊥ = λ e. other_if t o (or_none (t == o) (All-head IsFree o os free)) (sym e) in
      let rest : IsMovingAfter p ((j ++ o ∷ []) ++ os) t × IsStateAlike q ss p (((j ++ o ∷ []) ++ os) ++ t ∷ []) ((j ++ o ∷ []) ++ t ∷ os) =
      from_each os (j ++ o ∷ []) (h.kept j o m other room_one) (All-tail IsFree o os free) room_first in
      let on : IsStateAlike q ss p ((j ++ o ∷ t ∷ []) ++ os) ((j ++ t ∷ o ∷ []) ++ os) = goes_on q ss p (j ++ o ∷ t ∷ []) (j ++ t ∷ o ∷ []) os (h.alike j o m other room_one) in
      let from : (j ++ o ∷ []) ++ t ∷ os ≡ (j ++ o ∷ t ∷ []) ++ os = append_assoc j (o ∷ []) (t ∷ os) ∙ sym (append_assoc j (o ∷ t ∷ []) os) in
      let to : (j ++ t ∷ o ∷ []) ++ os ≡ j ++ t ∷ o ∷ os = append_assoc j (t ∷ o ∷ []) os in
      let first : IsStateAlike q ss p ((j ++ o ∷ os) ++ t ∷ []) ((j ++ o ∷ t ∷ []) ++ os) =
      subst (λ a. IsStateAlike q ss p (a ++ t ∷ []) ((j ++ o ∷ t ∷ []) ++ os)) apart (subst (IsStateAlike q ss p (((j ++ o ∷ []) ++ os) ++ t ∷ [])) from rest.1) in
      let second : IsStateAlike q ss p ((j ++ o ∷ t ∷ []) ++ os) (j ++ t ∷ o ∷ os) = subst (IsStateAlike q ss p ((j ++ o ∷ t ∷ []) ++ os)) to on in
      (subst (λ a. IsMovingAfter p a t) apart rest.0, alike_then q ss p ((j ++ o ∷ os) ++ t ∷ []) ((j ++ o ∷ t ∷ []) ++ os) (j ++ t ∷ o ∷ os) first second)

  pub from_all : (j : List ℕ) → Meets j → AreIndependent q ss p j (t ∷ [])
  from_all j m others free room one there =
      subst (λ x. IsMovingAfter p (j ++ others) x × IsStateAlike q ss p ((j ++ others) ++ x ∷ []) (j ++ x ∷ others)) (same_if t one (or_false (t == one) there)) (from_each others j m free room)

same_self : (t : ℕ) → (t == t) ≡ true
same_self t = grind (arith, nat_tests)

pub one_goes_first : OnePickGoesFirst
one_goes_first q ss p js j t independent there = record {
  picks = t ∷ [];
  one = t;
  there = ap (λ b. b || false) (same_self t);
  independent = independent;
  next = λ x h. subst (λ y. HasStateOf q ss p js (j ++ y ∷ [])) (same_if t x (or_false (t == x) h)) there;
}
