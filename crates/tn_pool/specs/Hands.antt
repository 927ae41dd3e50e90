-- What each pass of the run queue knows, and the rule over what they all know.
-- Depends on turns: the slots that a pass holds are an end's view.
use Rattle.std.specs.Prelude.{◌≡◌, ℕ, true, false, List, [], ◌∷◌, ◌++◌, length, map, Some, slice_get}
use Rattle.def_turns.specs.Slots.{all_slots}
use Rattle.def_turns.specs.Turns.{Turns, IsExclusive}
use Rattle.def_turns.specs.Moments.{TakesTurn, FindsNoTurn, GivesTurn}
use Rattle.tn_pool.specs.declared.rule.Hand.{Hand}

-- the turns that a queue and the passes amount to
abbrev pub turns_of : List ℕ → List Hand → Turns
turns_of queue hands = record { queue = queue; views = map (λ h. h.held) hands }

-- a pass that is alone is the only one, and knows what is in the queue
abbrev pub AloneKnows : List ℕ → List Hand → Type 0
AloneKnows queue hands = (n : ℕ) (h : Hand) → slice_get hands n ≡ Some h → h.alone ≡ true → (length hands ≡ 1) × (queue ≡ h.queue)

-- the rule: that of turns, and what a pass that is alone knows is so
pub record Keeps (queue : List ℕ) (hands : List Hand) : Type 0 where
  pub exclusive : IsExclusive (turns_of queue hands)
  pub known : AloneKnows queue hands

-- the first pass holds all slots, beside an empty queue
abbrev pub first_hand : Hand
first_hand = record { held = all_slots; alone = true; queue = [] }

-- a new pass holds nothing, and isn't alone
abbrev pub new_hand : Hand
new_hand = record { held = []; alone = false; queue = [] }

-- nor is the pass that it was made of
abbrev pub beside_others : Hand → Hand
beside_others h = record { held = h.held; alone = false; queue = [] }

-- a push gives the slot up, and a pass that is alone knows that it stands at the back
abbrev pub GivesUp : Hand → List ℕ → Hand → Type 0
GivesUp h [] k = ⊥
GivesUp h (x ∷ xs) k = GivesTurn h.held x k.held × (k.alone ≡ h.alone) × (k.queue ≡ h.queue ++ x ∷ [])

-- a steal gains the slot
abbrev pub HandGains : Hand → List ℕ → Hand → Type 0
HandGains h [] k = ⊥
HandGains h (x ∷ xs) k = TakesTurn h.held x k.held

-- or finds none
abbrev pub FindsNone : Hand → Type 0
FindsNone h = FindsNoTurn h.held h.held
