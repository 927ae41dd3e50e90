-- Each step of a pass keeps the rule.
use Rattle.std.proofs.Common.{◌≡◌, ℕ, zero, suc, List, [], ◌∷◌, ◌++◌, Some, slice_get, slice_set, refl, ap, arith}
use Rattle.std.proofs.lemmas.Option.{none-some}
use Rattle.crossbeam_deque.specs.Tasks as tasks
use Rattle.def_turns.specs.Turns as turns
use Rattle.def_turns.specs.Turns.{times, list_without}
use Rattle.def_turns.proofs.Rule.{push_keeps, steal_keeps, open_keeps, opening_is}
use Rattle.def_turns.proofs.Views.{some_is}
use Rattle.tn_pool.specs.declared.rule.Hand.{Hand}
use Rattle.tn_pool.specs.Hands.{turns_of, AloneKnows, Keeps, first_hand, new_hand, beside_others, GivesUp, HandGains, FindsNone}
use Rattle.tn_pool.proofs.Hands.{to_some, changes_one, opens_one, alone_goes_on, none_alone, none_alone_two}

first-known : AloneKnows [] (first_hand ∷ [])
first-known zero h at al = (refl, ap (λ (g : Hand). g.queue) (some_is first_hand h at))
first-known (suc n) h at al = absurd (none-some h at)

pub begins : Keeps [] (first_hand ∷ [])
begins = record { exclusive = opening_is; known = first-known }

pub gives : (port : ℕ) (h : Hand) (x : ℕ) → times x h.held ≡ 1 → tasks.Pushes Keeps port h (x ∷ []) (GivesUp h (x ∷ []))
gives port h x one queue hands is at =
    let here = to_some hands port h at in
    let k : Hand = record { held = list_without x h.held; alone = h.alone; queue = h.queue ++ x ∷ [] } in
    let s = turns_of queue hands in
    let t = turns_of (queue ++ x ∷ []) (slice_set hands port k) in
    let p : turns.Pushes port x h.held k.held s t = record { held = one; loses = refl; back = refl; changes = changes_one queue (queue ++ x ∷ []) hands port h k here } in (
      k,
      record { exclusive = push_keeps s t port x h.held k.held is.exclusive p; known = alone_goes_on queue (queue ++ x ∷ []) hands port h k is.known here refl (λ e. ap (λ q. q ++ x ∷ []) e) },
      (record { end = port; before = s; after = t; exclusive = is.exclusive; step = p }, refl, refl),
    )

takes-one : (port : ℕ) (h : Hand) (x : ℕ) (queue : List ℕ) (hands : List Hand) → Keeps (x ∷ queue) hands → slice_get hands port ≡ Some h → (k : Hand) × Keeps queue (slice_set hands port k) × HandGains h (x ∷ []) k
takes-one port h x queue hands is here =
    let k : Hand = record new_hand { held = h.held ++ x ∷ [] } in
    let s = turns_of (x ∷ queue) hands in
    let t = turns_of queue (slice_set hands port k) in
    let p : turns.Steals port x h.held k.held s t = record { front = refl; gains = refl; changes = changes_one (x ∷ queue) queue hands port h k here } in (
      k,
      record { exclusive = steal_keeps s t port x h.held k.held is.exclusive p; known = none_alone (x ∷ queue) queue hands port h k is.known here refl },
      record { end = port; before = s; after = t; exclusive = is.exclusive; step = p },
    )

pub takes : (port : ℕ) (h : Hand) → tasks.Takes Keeps port h 1 (HandGains h)
takes port h [] queue hands some_x most is at = absurd (omega arith)
takes port h (x ∷ y ∷ xs) queue hands some_x most is at = absurd (omega arith)
takes port h (x ∷ []) queue hands some_x most is at = takes-one port h x queue hands is (to_some hands port h at)

pub finds : (port : ℕ) (h : Hand) → tasks.Finds Keeps port h (FindsNone h)
finds port h hands is at =
    let c = changes_one [] [] hands port h h (to_some hands port h at) in
    record { end = port; found = turns_of [] hands; exclusive = is.exclusive; empty = refl; view = c.was; stays = refl }

pub cuts : (port : ℕ) (h : Hand) → tasks.Forks Keeps port h (beside_others h) new_hand
cuts port h queue hands is at =
    let here = to_some hands port h at in
    let l : Hand = beside_others h in
    record {
      exclusive = open_keeps (turns_of queue hands) (turns_of queue (slice_set hands port l ++ new_hand ∷ [])) is.exclusive (opens_one queue hands port h l new_hand here refl refl);
      known = none_alone_two queue queue hands port h l new_hand is.known here refl refl;
    }
