-- Numbers of moves, session by session.
use Rattle.std.proofs.Common.{◌≡◌, ◌∙◌, ◌⊎◌, inl, inr, ℕ, zero, suc, ◌+◌, ◌-◌, min, ◌<◌, ◌≤◌, List, [], ◌∷◌, ◌++◌, length, map, take, drop, set, replicate, get_or, refl, sym, ap, ap₂, subst, append-nil, take_all, add-one, arith}
use Rattle.std.specs.declared.vec.Vec.{Vec}
use Rattle.std.proofs.lemmas.Bool.{cases_lt}
use Rattle.std.proofs.lemmas.List.{take-append-drop, drop_all}
use Rattle.def_formats.specs.MessageMoves.{moves_by}
use Rattle.tn_trace.specs.declared.slot.Slot.{Slot}
use Rattle.tn_message_moves.specs.declared.tally.Tally.{Tally}
use Rattle.tn_message_moves.specs.Tallies.{slot_counts, with_move, each_with_move, tallies_seen}

abbrev pub no_numbers : List ℕ
no_numbers = []

-- each of two lists that are made of one
pub each_of : {X : Type 0} (number : ℕ) (f : X → ℕ) (g : X → List ℕ) (xs : List X) → each_with_move number (map f xs) (map g xs) ≡ map (λ x. with_move number (f x) (g x)) xs
each_of number f g [] = refl
each_of number f g (x ∷ xs) = ap (λ l. with_move number (f x) (g x) ∷ l) (each_of number f g xs)

-- with no list left
none_left : (number : ℕ) (cs : List ℕ) → each_with_move number cs [] ≡ []
none_left number [] = refl
none_left number (c ∷ cs) = refl

-- one list more
next_list : {A : Type 0} (number : ℕ) (slots : List (Slot A Tally)) (vs : List (Vec ℕ A)) (place : ℕ) (slot : Slot A Tally) (old new : Vec ℕ A)
    → place < length slots → place < length vs → slot ≡ get_or slots place slot → old ≡ get_or vs place old → new.items ≡ with_move number slot.kept.count old.items
    → take (suc place) (tallies_seen (set vs place new)) ++ each_with_move number (drop (suc place) (slot_counts slots)) (drop (suc place) (tallies_seen (set vs place new)))
    ≡ take place (tallies_seen vs) ++ each_with_move number (drop place (slot_counts slots)) (drop place (tallies_seen vs))
next_list number [] vs place slot old new a b is was made = absurd (omega (arith, a))
next_list number (s ∷ ss) [] place slot old new a b is was made = absurd (omega (arith, b))
next_list number (s ∷ ss) (v ∷ vs) zero slot old new a b is was made =
    ap (λ m. m ∷ each_with_move number (slot_counts ss) (tallies_seen vs)) (made ∙ ap₂ (with_move number) (ap (λ t. t.kept.count) is) (ap (λ w. w.items) was))
next_list number (s ∷ ss) (v ∷ vs) (suc k) slot old new a b is was made = ap (λ l. v.items ∷ l) (next_list number ss vs k slot old new (omega (arith, a)) (omega (arith, b)) is was made)

pub one_list : {A : Type 0} (number : ℕ) (slots : List (Slot A Tally)) (vs : List (Vec ℕ A)) (place : ℕ) (slot : Slot A Tally) (old new : Vec ℕ A)
    → place < length slots → place < length vs → slot ≡ get_or slots place slot → old ≡ get_or vs place old → new.items ≡ with_move number slot.kept.count old.items
    → take (place + 1) (tallies_seen (set vs place new)) ++ each_with_move number (drop (place + 1) (slot_counts slots)) (drop (place + 1) (tallies_seen (set vs place new)))
    ≡ take place (tallies_seen vs) ++ each_with_move number (drop place (slot_counts slots)) (drop place (tallies_seen vs))
one_list number slots vs place slot old new a b is was made =
    subst (λ n. take n (tallies_seen (set vs place new)) ++ each_with_move number (drop n (slot_counts slots)) (drop n (tallies_seen (set vs place new))) ≡ take place (tallies_seen vs) ++ each_with_move number (drop place (slot_counts slots)) (drop place (tallies_seen vs))) (sym (add-one place))
    (next_list number slots vs place slot old new a b is was made)

-- all lists
pub all_lists : (number : ℕ) (cs : List ℕ) (ms : List (List ℕ)) (place : ℕ) → (length cs ≤ place) ⊎ (length ms ≤ place) → take place ms ++ each_with_move number (drop place cs) (drop place ms) ≡ ms
all_lists number cs ms place (inl h) = ap (λ l. take place ms ++ each_with_move number l (drop place ms)) (drop_all place cs h) ∙ take-append-drop place ms
all_lists number cs ms place (inr h) =
    ap₂ (λ l m. l ++ each_with_move number (drop place cs) m) (take_all place ms h) (drop_all place ms h) ∙ ap (λ l. ms ++ l) (none_left number (drop place cs)) ∙ append-nil ms

-- so many lists as the lesser of both
pub either_all : (m n place : ℕ) → min m n ≤ place → (m ≤ place) ⊎ (n ≤ place)
either_all m n place h = by_order (cases_lt place m)
  where
    by_order : (place < m) ⊎ (m ≤ place) → (m ≤ place) ⊎ (n ≤ place)
    by_order (inl less) = inr (omega (arith, h, less))
    by_order (inr le) = inl le

-- one more list without numbers
pub one_none : {A S : Type 0} (slots : List S) (vs : List (Vec ℕ A)) (v : Vec ℕ A) → v.items ≡ [] → length vs < length slots
    → tallies_seen (vs ++ v ∷ []) ++ map (λ s. no_numbers) (drop (length (vs ++ v ∷ [])) slots) ≡ tallies_seen vs ++ map (λ s. no_numbers) (drop (length vs) slots)
one_none [] vs v none l = absurd (omega (arith, l))
one_none (s ∷ ss) [] v none l = ap (λ m. m ∷ map (λ s. no_numbers) ss) none
one_none (s ∷ ss) (w ∷ ws) v none l = ap (λ m. w.items ∷ m) (one_none ss ws v none (omega (arith, l)))

-- numbers that are counted alike up to the n-th
pub moves_by-same : (f g : ℕ → ℕ) (n : ℕ) → ((k : ℕ) → k ≤ n → f k ≡ g k) → moves_by f n ≡ moves_by g n
moves_by-same f g zero same = refl
moves_by-same f g (suc n) same =
    ap₂ (λ l k. l ++ replicate k (suc n)) (moves_by-same f g n (λ k le. same k (omega (arith, le)))) (ap₂ ◌-◌ (same (suc n) (omega arith)) (same n (omega arith)))
