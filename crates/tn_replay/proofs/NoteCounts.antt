-- How many of several are `true`, from the front and from the end.
use Rattle.std.proofs.Common.{◌≡◌, ◌∙◌, ℕ, suc, ◌+◌, ◌<◌, Bool, true, false, List, [], ◌∷◌, length, get_or, drop, refl, sym, ap, arith}
use Rattle.std.proofs.lemmas.List.{drop_more}
use Rattle.std.specs.List.{list_any, count_by, fold}
use Rattle.std.specs.Prelude.{cond}

-- the same, one after another
abbrev pub counted : List Bool → ℕ
counted [] = 0
counted (true ∷ bs) = suc (counted bs)
counted (false ∷ bs) = counted bs

fold-is : (n : ℕ) (bs : List Bool) → fold (λ a x. a + cond x 1 0) n bs ≡ n + counted bs
fold-is n [] = omega arith
fold-is n (true ∷ bs) = fold-is (n + 1) bs ∙ omega arith
fold-is n (false ∷ bs) = fold-is (n + 0) bs ∙ omega arith

pub count_is : (bs : List Bool) → count_by (λ b. b) bs ≡ counted bs
count_is bs = fold-is 0 bs ∙ omega arith

-- one of them is, or none
pub none_counted : (bs : List Bool) → counted bs ≡ 0 → list_any (λ b. b) bs ≡ false
none_counted [] h = refl
none_counted (true ∷ bs) h = absurd (cc h)
none_counted (false ∷ bs) h = none_counted bs h

pub some_counted : (bs : List Bool) → (counted bs ≡ 0 → ⊥) → list_any (λ b. b) bs ≡ true
some_counted [] h = absurd (h refl)
some_counted (true ∷ bs) h = refl
some_counted (false ∷ bs) h = some_counted bs h

-- one more of them
module _ (bs : List Bool) (i n : ℕ) (b : Bool) (below : i < length bs) (is : b ≡ get_or bs i b) where
  here : drop i bs ≡ b ∷ drop (i + 1) bs
  here = drop_more bs i b below ∙ ap (λ x. x ∷ drop (i + 1) bs) (sym is)

  pub true_more : b ≡ true → n + counted (drop i bs) ≡ counted bs → (n + 1) + counted (drop (i + 1) bs) ≡ counted bs
  true_more h so_far =
      let left : counted (drop i bs) ≡ suc (counted (drop (i + 1) bs)) = ap counted here ∙ ap (λ x. counted (x ∷ drop (i + 1) bs)) h in
      omega (arith, left, so_far)

  pub false_more : b ≡ false → n + counted (drop i bs) ≡ counted bs → n + counted (drop (i + 1) bs) ≡ counted bs
  false_more h so_far =
      let left : counted (drop i bs) ≡ counted (drop (i + 1) bs) = ap counted here ∙ ap (λ x. counted (x ∷ drop (i + 1) bs)) h in
      omega (arith, left, so_far)
