-- Starts, and answers of yes or no.
use Rattle.std.proofs.Common.{◌≡◌, ◌∙◌, ℕ, suc, ◌<◌, Bool, true, false, List, [], ◌∷◌, length, IsTrue, ◌↔◌, slice_get, refl, sym, ap, subst, arith}
use Rattle.std.specs.Option.{unwrap_or}
use Rattle.def_script.specs.Program.{Program}
use Rattle.tn_live.specs.States.{BookState, SeatState, SeatFits, AreFresh}

-- lists with the same at each place
same_lists : {X : Type 0} (xs ys : List X) → length xs ≡ length ys → ((k : ℕ) → k < length xs → slice_get xs k ≡ slice_get ys k) → xs ≡ ys
same_lists [] [] size each = refl
same_lists [] (y ∷ ys) size each = absurd (omega arith)
same_lists (x ∷ xs) [] size each = absurd (omega arith)
same_lists (x ∷ xs) (y ∷ ys) size each =
    let first : x ≡ y = ap (λ o. unwrap_or o x) (each 0 (omega arith)) in
    let rest : xs ≡ ys = same_lists xs ys (omega arith) (λ k below. each (suc k) (omega arith)) in
    λ i. first i ∷ rest i

pub same_fresh : (n : ℕ) (xs ys : List SeatState) → AreFresh n xs → AreFresh n ys → xs ≡ ys
same_fresh n xs ys h i = same_lists xs ys (h.all ∙ sym i.all) (λ k below. let lower : k < n = omega (arith, h.all) in h.each k lower ∙ sym (i.each k lower))

pub same_truth : {P : Type 0} (b c : Bool) → IsTrue b ↔ P → IsTrue c ↔ P → b ≡ c
same_truth true c h i = sym (i.1 (h.0 refl))
same_truth false true h i = h.1 (i.0 refl)
same_truth false false h i = refl

pub same_fits : (p q : Program) (b c : BookState) (v w : Program) (s t : SeatState) (x y : Bool) → p ≡ q → b ≡ c → v ≡ w → s ≡ t
    → IsTrue x ↔ (v ≡ p) × SeatFits b s → IsTrue y ↔ (w ≡ q) × SeatFits c t → x ≡ y
same_fits p q b c v w s t x y named books programs seats h i =
    let back : (q, c, w, t) ≡ (p, b, v, s) = λ j. (sym named j, sym books j, sym programs j, sym seats j) in
    same_truth x y h (subst (λ (z : Program × BookState × Program × SeatState). IsTrue y ↔ (z.2 ≡ z.0) × SeatFits z.1 z.3) back i)
