-- What the code counts of messages, and the numbers of moves that it adds (own).
use Rattle.std.specs.Prelude.{◌≡◌, ℕ, ◌-◌, List, [], ◌∷◌, ◌++◌, length, map, replicate}
use Rattle.std.specs.declared.vec.Vec.{Vec}
use Rattle.def_term.specs.Tree.{Tree}
use Rattle.tn_trace.specs.declared.slot.Slot.{Slot}
use Rattle.tn_message_moves.specs.declared.tally.Tally.{Tally}

-- there are so many
abbrev pub CountsMessages : Tally → List Tree → Type 0
CountsMessages k ts = k.count ≡ length ts

-- how many messages each session has
abbrev pub slot_counts : {A : Type 0} → List (Slot A Tally) → List ℕ
slot_counts slots = map (λ s. s.kept.count) slots

-- lists of numbers
abbrev pub tallies_seen : {A : Type 0} → List (Vec ℕ A) → List (List ℕ)
tallies_seen vs = map (λ v. v.items) vs

-- some numbers, and this one as often as there are more messages than numbers
abbrev pub with_move : (number count : ℕ) → List ℕ → List ℕ
with_move number count moves = moves ++ replicate (count - length moves) number

-- the same of each session
abbrev pub each_with_move : (number : ℕ) → List ℕ → List (List ℕ) → List (List ℕ)
each_with_move number [] ms = ms
each_with_move number (c ∷ cs) [] = []
each_with_move number (c ∷ cs) (m ∷ ms) = with_move number c m ∷ each_with_move number cs ms
