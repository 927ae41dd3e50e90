-- The rule of turns, and what each step does to it.
use Rattle.std.proofs.Common.{◌≡◌, ℕ, zero, suc, ◌+◌, ◌<◌, cond, nat_eq, List, [], ◌∷◌, slice_get, slice_index_or, length, ap, ◌∙◌, arith}
use Rattle.std.specs.List.{sum_by}
use Rattle.std.proofs.lemmas.List.Sums.{sum_by-cons, sum_by_push}
use Rattle.def_turns.specs.Slots.{all_slots}
use Rattle.def_turns.specs.Turns.{Turns, times, times_in, list_without, IsExclusive, ChangesView, Pushes, Steals, Opens, pushes, steals, opens, AreSteps, turns_start}
use Rattle.def_turns.specs.Moments.{TakesTurn}
use Rattle.def_turns.specs.Laws.{once, OpeningIsExclusive, StepsKeepTheRule, NoSlotIsLost, EachSlotStaysOnce, NoSlotIsHeldByTwo, PushChangesNoOtherView, StealChangesNoOtherView}
use Rattle.def_turns.proofs.Counts.{tick, times-append, times-cons, times-one, times-without, equal-self, each_once, once-most}
use Rattle.def_turns.proofs.Views.{sum-changed, sum-has, only-one, get-set-other}

-- what the views have of a slot, after one has changed
views-after : (x n : ℕ) (v w : List ℕ) (s t : Turns) → ChangesView n v w s t → sum_by (λ u. times x u) t.views + times x v ≡ sum_by (λ u. times x u) s.views + times x w
views-after x n v w s t c = ap (λ us. sum_by (λ u. times x u) us + times x v) c.views ∙ sum-changed (λ u. times x u) s.views n v w c.was

-- ---- no slot is lost

push-counts : (s t : Turns) (x n slot : ℕ) (v w : List ℕ) → Pushes n slot v w s t → times_in x t ≡ times_in x s
push-counts s t x n slot v w p =
    let q : times x t.queue ≡ times x s.queue + tick (nat_eq slot x) = ap (λ l. times x l) p.back ∙ (times-append x s.queue (slot ∷ []) ∙ ap (λ k. times x s.queue + k) (times-one x slot)) in
    let o : cond (nat_eq slot x) (times slot v) 0 ≡ tick (nat_eq slot x) = ap (λ k. cond (nat_eq slot x) k 0) p.held in
    let l : times x w ≡ times x (list_without slot v) = ap (λ u. times x u) p.loses in
    omega (arith, q, o, l, times-without slot x v, views-after x n v w s t p.changes)

steal-counts : (s t : Turns) (x n slot : ℕ) (v w : List ℕ) → Steals n slot v w s t → times_in x t ≡ times_in x s
steal-counts s t x n slot v w p =
    let q : times x s.queue ≡ tick (nat_eq slot x) + times x t.queue = ap (λ l. times x l) p.front ∙ times-cons x slot t.queue in
    let g : times x w ≡ times x v + tick (nat_eq slot x) = ap (λ u. times x u) p.gains ∙ (times-append x v (slot ∷ []) ∙ ap (λ k. times x v + k) (times-one x slot)) in
    omega (arith, q, g, views-after x n v w s t p.changes)

open-counts : (s t : Turns) (x : ℕ) → Opens s t → times_in x t ≡ times_in x s
open-counts s t x p =
    let q : times x t.queue ≡ times x s.queue = ap (λ l. times x l) p.queue in
    let g : sum_by (λ u. times x u) t.views ≡ sum_by (λ u. times x u) s.views + 0 = ap (λ us. sum_by (λ u. times x u) us) p.views ∙ sum_by_push (λ u. times x u) s.views [] in
    omega (arith, q, g)

pub none_lost : NoSlotIsLost
none_lost s t x (pushes n slot v w p) = push-counts s t x n slot v w p
none_lost s t x (steals n slot v w p) = steal-counts s t x n slot v w p
none_lost s t x (opens p) = open-counts s t x p

-- ---- the rule

pub rule_kept : StepsKeepTheRule
rule_kept s t is p x = omega (arith, is x, none_lost s t x p)

pub push_keeps : (s t : Turns) (n slot : ℕ) (v w : List ℕ) → IsExclusive s → Pushes n slot v w s t → IsExclusive t
push_keeps s t n slot v w is p = rule_kept s t is (pushes n slot v w p)

pub steal_keeps : (s t : Turns) (n slot : ℕ) (v w : List ℕ) → IsExclusive s → Steals n slot v w s t → IsExclusive t
steal_keeps s t n slot v w is p = rule_kept s t is (steals n slot v w p)

pub open_keeps : (s t : Turns) → IsExclusive s → Opens s t → IsExclusive t
open_keeps s t is p = rule_kept s t is (opens p)

opening-once : (x : ℕ) → times_in x turns_start ≡ once x
opening-once x = omega (arith, each_once x, sum_by-cons (λ u. times x u) all_slots [])

pub opening_is : OpeningIsExclusive
opening_is x = omega (arith, opening-once x, once-most x)

-- ---- all steps from one on keep each count

count-kept : (s : Turns) (ts : List Turns) → AreSteps s ts → (i : ℕ) (d : Turns) → i < length ts → (x : ℕ) → times_in x (slice_index_or ts i d) ≡ times_in x s
count-kept s [] steps i d lt x = absurd (omega arith)
count-kept s (t ∷ ts) steps zero d lt x = none_lost s t x steps.0
count-kept s (t ∷ ts) steps (suc i) d lt x = count-kept t ts steps.1 i d (omega arith) x ∙ none_lost s t x steps.0

pub stays_once : EachSlotStaysOnce
stays_once ts steps i d lt x = count-kept turns_start ts steps i d lt x ∙ opening-once x

-- ---- who holds a slot

pub held_by_one : NoSlotIsHeldByTwo
held_by_one s is m n x v w at ah p q = only-one (λ u. times x u) s.views m n v w (omega (arith, is x)) at ah p q

pub push_alone : PushChangesNoOtherView
push_alone s t n slot m v w p ne = ap (λ us. slice_get us m) p.changes.views ∙ get-set-other s.views n m w ne

pub steal_alone : StealChangesNoOtherView
steal_alone s t n slot m v w p ne = ap (λ us. slice_get us m) p.changes.views ∙ get-set-other s.views n m w ne

-- a slot that a view gains was not in it
pub new_to_view : (v : List ℕ) (slot : ℕ) (w : List ℕ) → TakesTurn v slot w → times slot v ≡ 0
new_to_view v slot w t =
    let p = t.step in
    let q : times slot t.before.queue ≡ tick (nat_eq slot slot) + times slot t.after.queue = ap (λ l. times slot l) p.front ∙ times-cons slot slot t.after.queue in
    let one : tick (nat_eq slot slot) ≡ 1 = ap (λ b. tick b) (equal-self slot) in
    omega (arith, t.exclusive slot, q, one, sum-has (λ u. times slot u) t.before.views t.end v p.changes.was)
