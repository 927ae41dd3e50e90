-- Runs: what they lead to, that they keep the limits, and that a state can be ended.
use Rattle.std.proofs.Common.{◌≡◌, ℕ, pos, ◌+◌, ◌≤◌, max, List, [], ◌∷◌, ◌++◌, length, refl, ap, sym, ◌∙◌, subst, append_assoc, append-nil, length-append, arith, Result, Ok, Err, Bool, true, false, ◌⊎◌, inl, inr}
use Rattle.std.proofs.lemmas.Bool.{ltb-true}
use Rattle.def_term.specs.Tree.{Tree, int, none, depth, greatest_depth, of_elements}
use Rattle.def_text.specs.Tokens.{Token, integer}
use Rattle.def_text.specs.Limits.{sizes_ok}
use Rattle.def_text.specs.Faults.{FaultKind, Fault}
use Rattle.def_text.specs.Reading.{Bracket, brace, bracket, node, close_token, most, Sort, leaf, opens, closes, separates, nothing, first, next, behind, OpenFrame, frame, ReadState, inside, done, put, close_top, has_room, step_by_sort, step, sort, after_step, run}
use Rattle.def_text.proofs.FoldStates.{Led, NodeFits, OpenFits, AfterFits, StateFits}
use Rattle.def_text.proofs.Steps.{leaf_ok, open_ok, comma_ok, close_ok, stands}
use Rattle.def_text.proofs.Sound.{step_led}
use Rattle.def_text.proofs.Complete.{count_of, all_push, node_parts, node_from, closes_first, closes_after}

pub went_on : (r : Result ReadState FaultKind) (go : ReadState → Result ReadState Fault) (ts : List Token) (s : ReadState) → after_step r go ts ≡ Ok s → (z : ReadState) × (r ≡ Ok z) × (go z ≡ Ok s)
went_on (Ok z) go ts s h = (z, refl, h)
went_on (Err k) go ts s h = absurd (cc)

pub stopped : (r : Result ReadState FaultKind) (go : ReadState → Result ReadState Fault) (ts : List Token) (q : Fault) → after_step r go ts ≡ Err q
    → ((z : ReadState) × (r ≡ Ok z) × (go z ≡ Err q)) ⊎ ((k : FaultKind) × (r ≡ Err k) × (q ≡ (k, ts)))
stopped (Ok z) go ts q h = inl (z, refl, h)
stopped (Err k) go ts q h = inr (k, refl, let e : q ≡ (k, ts) = cc in e)

pub run_led : (limit : ℕ) (sized : Bool) (s : ReadState) (ts xs : List Token) (s' : ReadState) → Led s ts → run limit sized s xs ≡ Ok s' → Led s' (ts ++ xs)
run_led limit sized s ts [] s' h e = let is : s ≡ s' = cc in subst (Led s') (sym (append-nil ts)) (subst (λ x. Led x ts) is h)
run_led limit sized s ts (x ∷ xs) s' h e =
    let w = went_on (step limit sized s x) (λ z. run limit sized z xs) (x ∷ xs) s' e in
    subst (Led s') (append_assoc ts (x ∷ []) xs) (run_led limit sized w.0 (ts ++ x ∷ []) xs s' (step_led limit sized s ts x w.0 h w.1) w.2)

pub run_append : (limit : ℕ) (sized : Bool) (s : ReadState) (xs ys : List Token) (s' : ReadState) → run limit sized s xs ≡ Ok s' → run limit sized s (xs ++ ys) ≡ run limit sized s' ys
run_append limit sized s [] ys s' e = let is : s ≡ s' = cc in ap (λ z. run limit sized z ys) is
run_append limit sized s (x ∷ xs) ys s' e =
    let w = went_on (step limit sized s x) (λ z. run limit sized z xs) (x ∷ xs) s' e in
    ap (λ r. after_step r (λ z. run limit sized z (xs ++ ys)) (x ∷ (xs ++ ys))) w.1 ∙ run_append limit sized w.0 xs ys s' w.2

-- where a run stops
pub run_stops : (limit : ℕ) (sized : Bool) (s : ReadState) (xs : List Token) (q : Fault) → run limit sized s xs ≡ Err q
    → (front : List Token) × (x : Token) × (rest : List Token) × (z : ReadState) × (xs ≡ front ++ x ∷ rest) × (q.1 ≡ x ∷ rest) × (run limit sized s front ≡ Ok z) × (step limit sized z x ≡ Err q.0)
run_stops limit sized s [] q e = absurd (cc)
run_stops limit sized s (x ∷ xs) q e =
    elim (stopped (step limit sized s x) (λ z. run limit sized z xs) (x ∷ xs) q e) [
      | inl w ↦ let r = run_stops limit sized w.0 xs q w.2 in (x ∷ r.0, r.1, r.2, r.3, ap (λ zs. x ∷ zs) r.4, r.5, ap (λ a. after_step a (λ z. run limit sized z r.0) (x ∷ r.0)) w.1 ∙ r.6, r.7)
      | inr w ↦ ([], x, xs, s, refl, ap (λ (p : Fault). p.1) w.2, refl, w.1 ∙ ap (λ (p : Fault). Err p.0) (sym w.2))
    ]

-- limits
greatest_push : (f : List Tree) (t : Tree) → greatest_depth (of_elements (f ++ t ∷ [])) ≡ max (greatest_depth (of_elements f)) (depth t)
greatest_push [] t = omega arith
greatest_push (s ∷ f) t = omega (arith, greatest_push f t)

pub frames_short : (limit : ℕ) (sized : Bool) (fs : List OpenFrame) → OpenFits limit sized fs → length fs ≤ limit
frames_short limit sized [] h = omega arith
frames_short limit sized (frame b f ∷ fs) h = let n = h.0.nests in omega (arith, n)

depth_node : (b : Bracket) (f : List Tree) → depth (node b (of_elements f)) ≡ 1 + greatest_depth (of_elements f)
depth_node brace f = refl
depth_node bracket f = refl

node_push : (sized : Bool) (b : Bracket) (f : List Tree) (t : Tree) → has_room sized b (length f) ≡ true → sizes_ok sized (node b (of_elements f)) ≡ true → sizes_ok sized t ≡ true → sizes_ok sized (node b (of_elements (f ++ t ∷ []))) ≡ true
node_push false b f t r n z = refl
node_push true b f t r n z =
    let room = ltb-true (length f) (most b) r in
    node_from b (of_elements (f ++ t ∷ [])) (omega (arith, room, count_of (f ++ t ∷ []), length-append f (t ∷ []))) (all_push f t (node_parts b (of_elements f) n).1 z)

put_fits : (limit : ℕ) (sized : Bool) (fs : List OpenFrame) (t : Tree) → OpenFits limit sized fs → depth t + length fs ≤ limit → sizes_ok sized t ≡ true → StateFits limit sized (put t fs)
put_fits limit sized [] t h below z = record { nests = omega arith; sizes = z }
put_fits limit sized (frame b f ∷ fs) t h below z =
    let n = h.0.nests in
    let node_fits : NodeFits limit sized b (f ++ t ∷ []) fs = record { nests = omega (arith, greatest_push f t, n); sizes = node_push sized b f t h.1 h.0.sizes z } in
    (node_fits, h.2)

leaf_fits : (limit : ℕ) (sized : Bool) (t : Tree) (fs : List OpenFrame) (s : ReadState) → OpenFits limit sized fs → step_by_sort limit sized (inside next fs) (leaf t) ≡ Ok s → StateFits limit sized s
leaf_fits limit sized t fs s h e = let k = leaf_ok limit sized t fs s e in let below = k.0 in subst (StateFits limit sized) k.2 (put_fits limit sized fs t h (omega (arith, below)) k.1)

empty_ok : (sized : Bool) (b : Bracket) → sizes_ok sized (node b none) ≡ true
empty_ok false b = refl
empty_ok true brace = refl
empty_ok true bracket = refl

empty_room : (sized : Bool) (b : Bracket) → has_room sized b 0 ≡ true
empty_room false b = refl
empty_room true brace = refl
empty_room true bracket = refl

open_fits : (limit : ℕ) (sized : Bool) (b : Bracket) (fs : List OpenFrame) (s : ReadState) → OpenFits limit sized fs → step_by_sort limit sized (inside next fs) (opens b) ≡ Ok s → StateFits limit sized s
open_fits limit sized b fs s h e =
    let k = open_ok limit b fs s e in
    let below = k.0 in
    let node_fits : NodeFits limit sized b [] fs = record { nests = omega (arith, below); sizes = empty_ok sized b } in
    subst (StateFits limit sized) k.1 (node_fits, empty_room sized b, h)

node_closes : (limit : ℕ) (sized : Bool) (b : Bracket) (f : List Tree) (fs : List OpenFrame) → NodeFits limit sized b f fs → OpenFits limit sized fs → StateFits limit sized (put (node b (of_elements f)) fs)
node_closes limit sized b f fs n h = let deep = n.nests in put_fits limit sized fs (node b (of_elements f)) h (omega (arith, deep, depth_node b f)) n.sizes

close_open : (limit : ℕ) (sized : Bool) (b : Bracket) (fs : List OpenFrame) (s : ReadState) → OpenFits limit sized fs → close_top b fs ≡ Ok s → StateFits limit sized s
close_open limit sized b fs s h e = let k = close_ok b fs s e in let h' : OpenFits limit sized (frame b k.0 ∷ k.1) = subst (OpenFits limit sized) k.2 h in subst (StateFits limit sized) k.3 (node_closes limit sized b k.0 k.1 h'.0 h'.2)

close_after : (limit : ℕ) (sized : Bool) (b : Bracket) (fs : List OpenFrame) (s : ReadState) → AfterFits limit sized fs → close_top b fs ≡ Ok s → StateFits limit sized s
close_after limit sized b fs s h e = let k = close_ok b fs s e in let h' : AfterFits limit sized (frame b k.0 ∷ k.1) = subst (AfterFits limit sized) k.2 h in subst (StateFits limit sized) k.3 (node_closes limit sized b k.0 k.1 h'.0 h'.1)

comma_fits : (limit : ℕ) (sized : Bool) (fs : List OpenFrame) (s : ReadState) → AfterFits limit sized fs → step_by_sort limit sized (inside behind fs) separates ≡ Ok s → StateFits limit sized s
comma_fits limit sized [] s h e = absurd (cc)
comma_fits limit sized (frame b f ∷ fs) s h e = let k = comma_ok sized b f fs s e in subst (StateFits limit sized) k.1 (h.0, k.0, h.1)

pub act_fits : (limit : ℕ) (sized : Bool) (s : ReadState) (k : Sort) (s' : ReadState) → StateFits limit sized s → step_by_sort limit sized s k ≡ Ok s' → StateFits limit sized s'
act_fits limit sized (done t) k s' h e = absurd (cc)
act_fits limit sized (inside first fs) (leaf t) s' h e = leaf_fits limit sized t fs s' h e
act_fits limit sized (inside first fs) (opens b) s' h e = open_fits limit sized b fs s' h e
act_fits limit sized (inside first fs) (closes b) s' h e = close_open limit sized b fs s' h e
act_fits limit sized (inside first fs) separates s' h e = absurd (cc)
act_fits limit sized (inside first fs) nothing s' h e = absurd (cc)
act_fits limit sized (inside next fs) (leaf t) s' h e = leaf_fits limit sized t fs s' h e
act_fits limit sized (inside next fs) (opens b) s' h e = open_fits limit sized b fs s' h e
act_fits limit sized (inside next fs) (closes b) s' h e = absurd (cc)
act_fits limit sized (inside next fs) separates s' h e = absurd (cc)
act_fits limit sized (inside next fs) nothing s' h e = absurd (cc)
act_fits limit sized (inside behind fs) (leaf t) s' h e = absurd (cc)
act_fits limit sized (inside behind fs) (opens b) s' h e = absurd (cc)
act_fits limit sized (inside behind fs) (closes b) s' h e = close_after limit sized b fs s' h e
act_fits limit sized (inside behind fs) separates s' h e = comma_fits limit sized fs s' h e
act_fits limit sized (inside behind fs) nothing s' h e = absurd (cc)

pub run_fits : (limit : ℕ) (sized : Bool) (s : ReadState) (xs : List Token) (s' : ReadState) → StateFits limit sized s → run limit sized s xs ≡ Ok s' → StateFits limit sized s'
run_fits limit sized s [] s' h e = let is : s ≡ s' = cc in subst (StateFits limit sized) is h
run_fits limit sized s (x ∷ xs) s' h e =
    let w = went_on (step limit sized s x) (λ z. run limit sized z xs) (x ∷ xs) s' e in
    run_fits limit sized w.0 xs s' (act_fits limit sized s (sort x) w.0 h w.1) w.2

-- each state that tokens lead to can be ended
abbrev pub closers : List OpenFrame → List Token
closers [] = []
closers (frame b f ∷ fs) = close_token b ∷ closers fs

ends : (limit : ℕ) (sized : Bool) (fs : List OpenFrame) (t : Tree) → (u : Tree) × (run limit sized (put t fs) (closers fs) ≡ Ok (done u))
ends limit sized [] t = (t, refl)
ends limit sized (frame b f ∷ fs) t =
    let g = f ++ t ∷ [] in
    let e = ends limit sized fs (node b (of_elements g)) in
    (e.0, closes_after limit sized b g fs (closers fs) ∙ e.1)

zero_ok : (sized : Bool) → sizes_ok sized (int (pos 0)) ≡ true
zero_ok false = refl
zero_ok true = refl

pub can_end : (limit : ℕ) (sized : Bool) (s : ReadState) (ts : List Token) → Led s ts → StateFits limit sized s → (further : List Token) × (t : Tree) × (run limit sized s further ≡ Ok (done t))
can_end limit sized (done t) ts h k = ([], t, refl)
can_end limit sized (inside first []) ts h k = absurd h
can_end limit sized (inside first (frame b f ∷ fs)) ts h k = let e = ends limit sized fs (node b (of_elements f)) in (close_token b ∷ closers fs, e.0, closes_first limit sized b f fs (closers fs) ∙ e.1)
can_end limit sized (inside next fs) ts h k =
    let e = ends limit sized fs (int (pos 0)) in
    let short = frames_short limit sized fs k in
    let x = integer (pos 0) in
    (x ∷ closers fs, e.0, ap (λ r. after_step r (λ z. run limit sized z (closers fs)) (x ∷ closers fs)) (stands limit sized (int (pos 0)) fs (omega (arith, short)) (zero_ok sized)) ∙ e.1)
can_end limit sized (inside behind []) ts h k = absurd h
can_end limit sized (inside behind (frame b f ∷ fs)) ts h k = let e = ends limit sized fs (node b (of_elements f)) in (close_token b ∷ closers fs, e.0, closes_after limit sized b f fs (closers fs) ∙ e.1)
