-- One slot of the node changed, and all partners told.
use Rattle.std.proofs.Common.{◌≡◌, ℕ, zero, suc, ◌<◌, Bool, true, false, cond, List, [], ◌∷◌, ◌++◌, length, get_or, map, take, drop, slice_get, Option, Some, None, refl, ap, sym, ◌∙◌, arith}
use Rattle.std.specs.Option.{option_map}
use Rattle.std.proofs.Math.ListN.{set}
use Rattle.std.proofs.lemmas.List.{take-append-drop}
use Rattle.def_term.specs.Tree.{Tree}
use Rattle.def_node.specs.Process.{Process}
use Rattle.def_node.specs.Node.{with_slot, part, partners_told}

-- a slot that is written is a slot that is changed
pub changed_set : {X : Type 0} (h : X → Option Process) (xs : List X) (i : ℕ) (x y : X) (f : Process → Process)
    → i < length xs → x ≡ get_or xs i x → h y ≡ option_map f (h x) → map h (set xs i y) ≡ with_slot (map h xs) i f
changed_set h [] i x y f below is new = absurd (omega arith)
changed_set h (z ∷ zs) zero x y f below is new = ap (λ s. s ∷ map h zs) (new ∙ ap (λ v. option_map f (h v)) is)
changed_set h (z ∷ zs) (suc i) x y f below is new = ap (λ ss. h z ∷ ss) (changed_set h zs i x y f (omega arith) is new)

-- what stands at the place afterwards
pub changed_here : (ss : List (Option Process)) (i : ℕ) (q r : Process) → slice_get ss i ≡ Some (Some q) → slice_get (with_slot ss i (λ _. r)) i ≡ Some (Some r)
changed_here [] i q r e = absurd (let k : None ≡ Some (Some q) = e in cc)
changed_here (s ∷ ss) zero q r e = let k : s ≡ Some q = (let m : Some s ≡ Some (Some q) = e in cc) in ap (λ x. Some (option_map (λ _. r) x)) k
changed_here (s ∷ ss) (suc i) q r e = changed_here ss i q r e

pub length_changed : (ss : List (Option Process)) (i : ℕ) (f : Process → Process) → length (with_slot ss i f) ≡ length ss
length_changed [] i f = refl
length_changed (s ∷ ss) zero f = refl
length_changed (s ∷ ss) (suc i) f = omega (arith, length_changed ss i f)

-- an emptied place doesn't show what stood there
pub set_changed : (ss : List (Option Process)) (i : ℕ) (f : Process → Process) → set (with_slot ss i f) i None ≡ set ss i None
set_changed [] i f = refl
set_changed (s ∷ ss) zero f = refl
set_changed (s ∷ ss) (suc i) f = ap (λ xs. s ∷ xs) (set_changed ss i f)

-- the partners from the place i on told
abbrev pub told_from : ℕ → Tree → List Bool → ℕ → List (Option Process) → List (Option Process)
told_from n r bs i ss = take i ss ++ partners_told n r (drop i bs) (drop i ss)

pub told_changed : (n : ℕ) (r : Tree) (bs : List Bool) (ss : List (Option Process)) (i : ℕ) (d : Bool) → i < length ss → i < length bs → get_or bs i d ≡ true
    → told_from n r bs (suc i) (with_slot ss i (part n r)) ≡ told_from n r bs i ss
told_changed n r bs [] i d below within e = absurd (omega arith)
told_changed n r [] (s ∷ ss) i d below within e = absurd (omega arith)
told_changed n r (c ∷ bs) (s ∷ ss) zero d below within e = sym (ap (λ b. cond b (option_map (part n r) s) s ∷ partners_told n r bs ss) e)
told_changed n r (c ∷ bs) (s ∷ ss) (suc i) d below within e = ap (λ xs. s ∷ xs) (told_changed n r bs ss i d (omega arith) (omega arith) e)

pub told_same : (n : ℕ) (r : Tree) (bs : List Bool) (ss : List (Option Process)) (i : ℕ) (d : Bool) → i < length ss → i < length bs → get_or bs i d ≡ false
    → told_from n r bs (suc i) ss ≡ told_from n r bs i ss
told_same n r bs [] i d below within e = absurd (omega arith)
told_same n r [] (s ∷ ss) i d below within e = absurd (omega arith)
told_same n r (c ∷ bs) (s ∷ ss) zero d below within e = sym (ap (λ b. cond b (option_map (part n r) s) s ∷ partners_told n r bs ss) e)
told_same n r (c ∷ bs) (s ∷ ss) (suc i) d below within e = ap (λ xs. s ∷ xs) (told_same n r bs ss i d (omega arith) (omega arith) e)

pub told_all : (n : ℕ) (r : Tree) (bs : List Bool) (ss : List (Option Process)) (i : ℕ) → i ≡ length ss → told_from n r bs i ss ≡ ss
told_all n r [] [] zero e = refl
told_all n r (b ∷ bs) [] zero e = refl
told_all n r bs [] (suc i) e = absurd (omega arith)
told_all n r bs (s ∷ ss) zero e = absurd (omega arith)
told_all n r [] (s ∷ ss) (suc i) e = ap (λ xs. s ∷ xs) (take-append-drop i ss)
told_all n r (b ∷ bs) (s ∷ ss) (suc i) e = ap (λ xs. s ∷ xs) (told_all n r bs ss i (omega arith))

-- what stands at a place is one process
pub same_here : (o : Option (Option Process)) (s : Option Process) (p q : Process) → o ≡ Some s → s ≡ Some p → o ≡ Some (Some q) → p ≡ q
same_here o s p q a b c = cc

pub none_here : (o : Option (Option Process)) (s : Option Process) (q : Process) → o ≡ Some s → s ≡ None → o ≡ Some (Some q) → ⊥
none_here o s q a b c = cc
