-- The lines of notes, one element after another.
use Rattle.std.proofs.Common.{◌≡◌, ◌∙◌, ℕ, ◌+◌, ◌<◌, ◌≤◌, List, ◌++◌, length, get_or, drop, map, flat_map, Result, Ok, Err, OnOk, sym, ap, append_assoc, append-nil}
use Rattle.std.proofs.lemmas.Grind.{flat_map-append}
use Rattle.std.proofs.lemmas.List.{drop_more, drop_all}

-- the elements of a list by what they stand for
module _ {X Y N : Type 0} (seen : X → Y) (line : N → List ℕ) (notes : Y → List N) (xs : List X) (i : ℕ) where
  -- one more
  pub noted : (x : X) (now after whole : List ℕ) → i < length xs → x ≡ get_or xs i x → now ++ flat_map line (flat_map notes (map seen (drop i xs))) ≡ whole → after ≡ now ++ flat_map line (notes (seen x))
      → after ++ flat_map line (flat_map notes (map seen (drop (i + 1) xs))) ≡ whole
  noted x now after whole below is so_far made =
      let rest = flat_map notes (map seen (drop (i + 1) xs)) in
      ap (λ s. s ++ flat_map line rest) made
      ∙ append_assoc now (flat_map line (notes (seen x))) (flat_map line rest)
      ∙ ap (λ s. now ++ s) (sym (flat_map-append line (notes (seen x)) rest))
      ∙ ap (λ z. now ++ flat_map line (notes (seen z) ++ rest)) is
      ∙ ap (λ zs. now ++ flat_map line (flat_map notes (map seen zs))) (sym (drop_more xs i x below))
      ∙ so_far

  pub all_noted : (now whole : List ℕ) → length xs ≤ i → now ++ flat_map line (flat_map notes (map seen (drop i xs))) ≡ whole → now ≡ whole
  all_noted now whole past so_far = sym (append-nil now) ∙ ap (λ zs. now ++ flat_map line (flat_map notes (map seen zs))) (sym (drop_all i xs past)) ∙ so_far

-- ---- those of a clause: of its head, its guards and its body

pub last_named : {T E N : Type 0} (done : Result T E) (made : N → List ℕ) (ns ms : N) (d : List ℕ) → ns ≡ ms → OnOk done (d ≡ made ns) → OnOk done (d ≡ made ms)
last_named (Ok v) made ns ms d same h = h ∙ ap made same
last_named (Err e) made ns ms d same h = tt

pub three_ok : {T E N : Type 0} (done : Result T E) (line : N → List ℕ) (xs ys zs : List N) (o a b d : List ℕ) → a ≡ o ++ flat_map line xs → b ≡ a ++ flat_map line ys
    → OnOk done (d ≡ b ++ flat_map line zs) → OnOk done (d ≡ o ++ flat_map line (xs ++ (ys ++ zs)))
three_ok (Ok v) line xs ys zs o a b d first second third =
    third ∙ ap (λ s. s ++ flat_map line zs) (second ∙ ap (λ s. s ++ flat_map line ys) first)
    ∙ append_assoc (o ++ flat_map line xs) (flat_map line ys) (flat_map line zs)
    ∙ append_assoc o (flat_map line xs) (flat_map line ys ++ flat_map line zs)
    ∙ ap (λ s. o ++ (flat_map line xs ++ s)) (sym (flat_map-append line ys zs))
    ∙ ap (λ s. o ++ s) (sym (flat_map-append line xs (ys ++ zs)))
three_ok (Err e) line xs ys zs o a b d first second third = tt
