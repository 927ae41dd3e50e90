-- Two changes of the processes of a node, at different places or at one.
use Rattle.std.proofs.Common.{◌≡◌, ℕ, zero, suc, Bool, true, false, ◌&&◌, List, [], ◌∷◌, ◌++◌, length, slice_get, Option, Some, None, refl, ap, sym, ◌∙◌, ◌-◌}
use Rattle.std.specs.Prelude.{replicate}
use Rattle.std.proofs.Math.ListN.{set}
use Rattle.std.specs.Option.{option_map, unwrap_or}
use Rattle.def_term.specs.Tree.{Tree}
use Rattle.def_node.specs.Process.{Process}
use Rattle.def_node.specs.Node.{with_slot, place_in, partners_told, partner_pids, is_linked}

-- ---- one change

pub slot_other : (ss : List (Option Process)) (i k : ℕ) (f : Process → Process) → (i ≡ k → ⊥) → slice_get (with_slot ss i f) k ≡ slice_get ss k
slot_other [] i k f apart = refl
slot_other (s ∷ ss) zero zero f apart = absurd (apart refl)
slot_other (s ∷ ss) zero (suc k) f apart = refl
slot_other (s ∷ ss) (suc i) zero f apart = refl
slot_other (s ∷ ss) (suc i) (suc k) f apart = slot_other ss i k f (λ e. apart (ap suc e))

pub slot_own : (ss : List (Option Process)) (i : ℕ) (f : Process → Process) (q : Process) → slice_get ss i ≡ Some (Some q) → slice_get (with_slot ss i f) i ≡ Some (Some (f q))
slot_own [] i f q e = absurd (let h : None ≡ Some (Some q) = e in cc)
slot_own (s ∷ ss) zero f q e = ap (option_map (option_map f)) e
slot_own (s ∷ ss) (suc i) f q e = slot_own ss i f q e

kept_place : (s : Option Process) (f : Process → Process) (x : ℕ) → place_in (Some (option_map f s)) x ≡ place_in (Some s) x
kept_place None f x = refl
kept_place (Some q) f x = refl

-- who lives stays
pub slot_place : (ss : List (Option Process)) (i k : ℕ) (f : Process → Process) (x : ℕ) → place_in (slice_get (with_slot ss i f) k) x ≡ place_in (slice_get ss k) x
slot_place [] i k f x = refl
slot_place (s ∷ ss) zero zero f x = kept_place s f x
slot_place (s ∷ ss) zero (suc k) f x = refl
slot_place (s ∷ ss) (suc i) zero f x = refl
slot_place (s ∷ ss) (suc i) (suc k) f x = slot_place ss i k f x

pub slots_length : (ss : List (Option Process)) (i : ℕ) (f : Process → Process) → length (with_slot ss i f) ≡ length ss
slots_length [] i f = refl
slots_length (s ∷ ss) zero f = refl
slots_length (s ∷ ss) (suc i) f = ap suc (slots_length ss i f)

-- ---- two changes

pub slots_swap : (ss : List (Option Process)) (i k : ℕ) (f g : Process → Process) → (i ≡ k → ⊥) → with_slot (with_slot ss i f) k g ≡ with_slot (with_slot ss k g) i f
slots_swap [] i k f g apart = refl
slots_swap (s ∷ ss) zero zero f g apart = absurd (apart refl)
slots_swap (s ∷ ss) zero (suc k) f g apart = refl
slots_swap (s ∷ ss) (suc i) zero f g apart = refl
slots_swap (s ∷ ss) (suc i) (suc k) f g apart = ap (λ xs. s ∷ xs) (slots_swap ss i k f g (λ e. apart (ap suc e)))

twice_map : (o : Option Process) (f g : Process → Process) → option_map g (option_map f o) ≡ option_map (λ q. g (f q)) o
twice_map None f g = refl
twice_map (Some q) f g = refl

pub slots_then : (ss : List (Option Process)) (i : ℕ) (f g : Process → Process) → with_slot (with_slot ss i f) i g ≡ with_slot ss i (λ q. g (f q))
slots_then [] i f g = refl
slots_then (s ∷ ss) zero f g = ap (λ x. x ∷ ss) (twice_map s f g)
slots_then (s ∷ ss) (suc i) f g = ap (λ xs. s ∷ xs) (slots_then ss i f g)

-- ---- more processes, and fewer

pub slot_before : (ss ys : List (Option Process)) (i : ℕ) (s : Option Process) → slice_get ss i ≡ Some s → slice_get (ss ++ ys) i ≡ Some s
slot_before [] ys i s e = absurd (let h : None ≡ Some s = e in cc)
slot_before (x ∷ ss) ys zero s e = e
slot_before (x ∷ ss) ys (suc i) s e = slot_before ss ys i s e

pub slots_before : (ss ys : List (Option Process)) (i : ℕ) (f : Process → Process) (s : Option Process) → slice_get ss i ≡ Some s → with_slot (ss ++ ys) i f ≡ with_slot ss i f ++ ys
slots_before [] ys i f s e = absurd (let h : None ≡ Some s = e in cc)
slots_before (x ∷ ss) ys zero f s e = refl
slots_before (x ∷ ss) ys (suc i) f s e = ap (λ xs. x ∷ xs) (slots_before ss ys i f s e)

pub gone_other : (ss : List (Option Process)) (i k : ℕ) → (i ≡ k → ⊥) → slice_get (set ss k None) i ≡ slice_get ss i
gone_other [] i k apart = refl
gone_other (s ∷ ss) zero zero apart = absurd (apart refl)
gone_other (s ∷ ss) zero (suc k) apart = refl
gone_other (s ∷ ss) (suc i) zero apart = refl
gone_other (s ∷ ss) (suc i) (suc k) apart = gone_other ss i k (λ e. apart (ap suc e))

pub gone_swap : (ss : List (Option Process)) (i k : ℕ) (f : Process → Process) → (i ≡ k → ⊥) → with_slot (set ss k None) i f ≡ set (with_slot ss i f) k None
gone_swap [] i k f apart = refl
gone_swap (s ∷ ss) zero zero f apart = absurd (apart refl)
gone_swap (s ∷ ss) zero (suc k) f apart = refl
gone_swap (s ∷ ss) (suc i) zero f apart = refl
gone_swap (s ∷ ss) (suc i) (suc k) f apart = ap (λ xs. s ∷ xs) (gone_swap ss i k f (λ e. apart (ap suc e)))

-- ---- no process is linked

-- each process that is alive is linked to none
abbrev pub AllUnlinked : List (Option Process) → Type 0
AllUnlinked [] = Unit {0}
AllUnlinked (None ∷ ss) = AllUnlinked ss
AllUnlinked (Some q ∷ ss) = (q.links ≡ replicate 64 false) × AllUnlinked ss

pub unlinked_at : (ss : List (Option Process)) (i : ℕ) (q : Process) → AllUnlinked ss → slice_get ss i ≡ Some (Some q) → q.links ≡ replicate 64 false
unlinked_at [] i q all e = absurd (let h : None ≡ Some (Some q) = e in cc)
unlinked_at (None ∷ ss) zero q all e = absurd (let h : Some None ≡ Some (Some q) = e in cc)
unlinked_at (Some r ∷ ss) zero q all e =
    let same : r ≡ q = (let h : Some (Some r) ≡ Some (Some q) = e in cc) in
    ap (λ (x : Process). x.links) (sym same) ∙ all.0
unlinked_at (None ∷ ss) (suc i) q all e = unlinked_at ss i q all e
unlinked_at (Some r ∷ ss) (suc i) q all e = unlinked_at ss i q all.1 e

pub unlinked_change : (ss : List (Option Process)) (i : ℕ) (f : Process → Process) → ((q : Process) → q.links ≡ replicate 64 false → (f q).links ≡ replicate 64 false) → AllUnlinked ss → AllUnlinked (with_slot ss i f)
unlinked_change [] i f h all = tt
unlinked_change (None ∷ ss) zero f h all = all
unlinked_change (Some q ∷ ss) zero f h all = (h q all.0, all.1)
unlinked_change (None ∷ ss) (suc i) f h all = unlinked_change ss i f h all
unlinked_change (Some q ∷ ss) (suc i) f h all = (all.0, unlinked_change ss i f h all.1)

pub unlinked_gone : (ss : List (Option Process)) (i : ℕ) → AllUnlinked ss → AllUnlinked (set ss i None)
unlinked_gone [] i all = tt
unlinked_gone (None ∷ ss) zero all = all
unlinked_gone (Some q ∷ ss) zero all = all.1
unlinked_gone (None ∷ ss) (suc i) all = unlinked_gone ss i all
unlinked_gone (Some q ∷ ss) (suc i) all = (all.0, unlinked_gone ss i all.1)

pub unlinked_more : (ss : List (Option Process)) (q : Process) → AllUnlinked ss → q.links ≡ replicate 64 false → AllUnlinked (ss ++ Some q ∷ [])
unlinked_more [] q all h = (h, tt)
unlinked_more (None ∷ ss) q all h = unlinked_more ss q all h
unlinked_more (Some p ∷ ss) q all h = (all.0, unlinked_more ss q all.1 h)

all_false : (k i : ℕ) → unwrap_or (slice_get (replicate k false) i) false ≡ false
all_false zero i = refl
all_false (suc k) zero = refl
all_false (suc k) (suc i) = all_false k i

and_false : (b c : Bool) → c ≡ false → (b && c) ≡ false
and_false true c h = h
and_false false c h = refl

-- one that is linked to none is not linked to this one
pub none_linked : (q : Process) (m : ℕ) → q.links ≡ replicate 64 false → is_linked q m ≡ false
none_linked q m h = and_false _ _ (ap (λ (ls : List Bool). unwrap_or (slice_get ls (m - 100)) false) h ∙ all_false 64 (m - 100))

-- and has no partners
pub told_none : (n : ℕ) (r : Tree) (k : ℕ) (ss : List (Option Process)) → partners_told n r (replicate k false) ss ≡ ss
told_none n r zero ss = refl
told_none n r (suc k) [] = refl
told_none n r (suc k) (s ∷ ss) = ap (λ xs. s ∷ xs) (told_none n r k ss)

pub no_pids : (k m : ℕ) → partner_pids m (replicate k false) ≡ []
no_pids zero m = refl
no_pids (suc k) m = no_pids k (suc m)
