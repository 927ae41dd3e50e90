-- Boards of one size are the same, and so is what they give back or lend.
use Rattle.std.proofs.Common.{◌≡◌, ◌∙◌, ℕ, suc, List, [], ◌∷◌, length, All, Option, Some, None, IfSome, OnSome, Result, Ok, Err, IfOk, OnOk, IfErr, refl, sym, ap, ap₂, arith}
use Rattle.std.specs.Borrow.{Bor}
use Rattle.tn_listing.specs.declared.line.Line.{Line}
use Rattle.tn_pool.specs.Boards.{IsLineAt}
use Rattle.complete_workers.specs.Receipts.{ArePlacedAlike}

-- two lists of one length, of one value throughout
pub same_throughout : {X : Type 0} (v : X) (xs ys : List X) → All (λ x. x ≡ v) xs → All (λ y. y ≡ v) ys → length xs ≡ length ys → xs ≡ ys
same_throughout v [] [] h i e = refl
same_throughout v [] (y ∷ ys) h i e = absurd (omega (arith, e))
same_throughout v (x ∷ xs) [] h i e = absurd (omega (arith, e))
same_throughout v (x ∷ xs) (y ∷ ys) h i e =
    let first : x ≡ y = h 0 x (omega arith) ∙ sym (i 0 y (omega arith)) in
    let rest : xs ≡ ys = same_throughout v xs ys (λ k d l. h (suc k) d (omega (arith, l))) (λ k d l. i (suc k) d (omega (arith, l))) (omega (arith, e)) in
    ap₂ (λ z zs. z ∷ zs) first rest

-- so boards of as many rows, with as many places in each, are the same
pub same_boards : {E : Type 0} (sessions places : ℕ) (r q : Result (List ℕ) E) → IfOk r (λ b. length b ≡ sessions) → IfOk r (λ b. All (λ n. n ≡ places) b)
    → IfOk q (λ b. length b ≡ sessions) → IfOk q (λ b. All (λ n. n ≡ places) b) → IfOk r (λ b. IfOk q (λ c. b ≡ c))
same_boards sessions places (Err e) q h i k l = tt
same_boards sessions places (Ok b) (Err e) h i k l = tt
same_boards sessions places (Ok b) (Ok c) h i k l = same_throughout places b c i l (h ∙ sym k)

-- what comes back is what was given
pub same_returned : {T L V : Type 0} (view : L → V) (one other : L) (r q : Result T L) → view one ≡ view other → IfErr r (λ b. b ≡ one) → IfErr q (λ b. b ≡ other) → IfErr r (λ b. IfErr q (λ c. view b ≡ view c))
same_returned view one other (Ok x) q e h i = tt
same_returned view one other (Err b) (Ok x) e h i = tt
same_returned view one other (Err b) (Err c) e h i = ap view h ∙ e ∙ sym (ap view i)

-- where nothing is put
pub not_put : {L P : Type 0} (line : L) (r : Result (Unit {0}) L) → (P → ⊥) → OnOk r P → IfErr r (λ b. b ≡ line) → r ≡ Err line
not_put line (Ok done) none h i = absurd (none h)
not_put line (Err b) none h i = ap Err i

-- where nothing is lent
pub not_lent : {L P : Type 0} (r : Option L) → (P → ⊥) → OnSome r P → r ≡ None
not_lent None none h = refl
not_lent (Some line) none h = absurd (none h)

-- two lines of one place
pub same_places : {A : Type 0} (session index : ℕ) (o p : Option (Bor (Line A))) → IfSome o (λ l. IsLineAt session index l.now) → IfSome p (λ l. IsLineAt session index l.now)
    → IfSome o (λ l. IfSome p (λ k. ArePlacedAlike l.now k.now))
same_places session index None p h i = tt
same_places session index (Some l) None h i = tt
same_places session index (Some l) (Some k) h i = record { session = h.0 ∙ sym i.0; index = h.1 ∙ sym i.1 }
