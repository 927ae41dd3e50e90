-- A queue is filled slot by slot.
use Rattle.std.proofs.Common.{◌≡◌, ℕ, zero, suc, ◌+◌, ◌-◌, ◌<◌, not, cond, nat_eq, true, false, List, [], ◌∷◌, ◌++◌, sym, refl, ap, ◌∙◌, subst, arith, append_assoc}
use Rattle.std.proofs.lemmas.List.{append-nil}
use Rattle.std.proofs.lemmas.Bool.Decides.{nat_tests}
use Rattle.def_turns.specs.Slots.{numbers_from, all_slots}
use Rattle.def_turns.specs.Turns.{times, list_without}
use Rattle.def_turns.proofs.Counts.{tick, times-cons, equal-self, times-numbers-low}
use Rattle.tn_pool.specs.declared.rule.Hand.{Hand}
use Rattle.tn_pool.specs.Hands.{GivesUp, first_hand}

without-low : (first n x : ℕ) → x < first → list_without x (numbers_from first n) ≡ numbers_from first n
without-low first zero x lt = refl
without-low first (suc n) x lt =
    let ne : nat_eq first x ≡ false = grind (arith, nat_tests) in
    let rest : List ℕ = list_without x (numbers_from (first + 1) n) in
    ap (λ b. cond (not b) (first ∷ rest) rest) ne ∙ ap (λ l. first ∷ l) (without-low (first + 1) n x (omega arith))

-- the first of a list, which isn't in the rest
abbrev pub IsNext : ℕ → List ℕ → List ℕ → Type 0
IsNext x rest held = (held ≡ x ∷ rest) × (times x held ≡ 1) × (list_without x held ≡ rest)

numbers-next : (first n : ℕ) → IsNext first (numbers_from (first + 1) n) (numbers_from first (suc n))
numbers-next first n =
    let rest : List ℕ = list_without first (numbers_from (first + 1) n) in (
      refl,
      omega (arith, times-cons first first (numbers_from (first + 1) n), ap (λ b. tick b) (equal-self first), times-numbers-low (first + 1) n first (omega arith)),
      ap (λ b. cond (not b) (first ∷ rest) rest) (equal-self first) ∙ without-low (first + 1) n first (omega arith),
    )

control-next : (n : ℕ) → IsNext 0 (numbers_from 100 n) (0 ∷ numbers_from 100 n)
control-next n = (refl, omega (arith, times-cons 0 0 (numbers_from 100 n), times-numbers-low 100 n 0 (omega arith)), without-low 100 n 0 (omega arith))

pub control_first : IsNext 0 (numbers_from 100 64) all_slots
unfolding all_slots
control_first = control-next 64

-- so far a queue is filled: what is in it and then what is held are all slots, of which so many are left
pub record IsFilled (left : List ℕ) (h : Hand) : Type 0 where
  pub alone : h.alone ≡ true
  pub held : h.held ≡ left
  pub order : h.queue ++ h.held ≡ all_slots

pub unfilled : (h : Hand) → h ≡ first_hand → IsFilled all_slots h
unfilled h e = rw e (record { alone = refl; held = refl; order = refl })

pub holds_next : (x : ℕ) (rest left : List ℕ) (h : Hand) → IsNext x rest left → IsFilled left h → times x h.held ≡ 1
holds_next x rest left h is f = ap (λ l. times x l) f.held ∙ is.1

pub filled_on : (x : ℕ) (rest left : List ℕ) (h k : Hand) → IsNext x rest left → IsFilled left h → GivesUp h (x ∷ []) k → IsFilled rest k
filled_on x rest left h k is f g =
    let held : k.held ≡ rest = g.0.step.loses ∙ (ap (λ l. list_without x l) f.held ∙ is.2) in
    record {
      alone = g.1 ∙ f.alone;
      held = held;
      order = ap (λ q. q ++ k.held) g.2 ∙ (ap (λ l. (h.queue ++ x ∷ []) ++ l) held ∙ (append_assoc h.queue (x ∷ []) rest ∙ (ap (λ l. h.queue ++ l) (sym (f.held ∙ is.0)) ∙ f.order)));
    }

pub numbers_at : (first n : ℕ) → 0 < n → IsNext first (numbers_from (first + 1) (n - 1)) (numbers_from first n)
numbers_at first zero more = absurd (omega arith)
numbers_at first (suc n) more =
    let e : n ≡ suc n - 1 = omega arith in
    subst (λ k. IsNext first (numbers_from (first + 1) k) (numbers_from first (suc n))) e (numbers-next first n)

pub all_filled : (h : Hand) → IsFilled [] h → h.queue ≡ all_slots
all_filled h f = sym (append-nil h.queue) ∙ (ap (λ l. h.queue ++ l) (sym f.held) ∙ f.order)
