-- Texts and terms that a loop makes, one piece after the other.
use Rattle.std.proofs.Common.{◌≡◌, ◌∙◌, ℕ, suc, ◌+◌, ◌-◌, ◌<◌, ◌≤◌, List, [], ◌∷◌, ◌++◌, length, drop, get_or, map, flat_map, sym, ap, append-nil, append_assoc, arith}
use Rattle.std.proofs.lemmas.List.{drop_more, map-append}
use Rattle.def_run.specs.Round.{pass_from}

-- the numbers from n on, up to an end
front_of_pass : (last n : ℕ) → n < last → pass_from (last - n) n ≡ n ∷ pass_from (last - (n + 1)) (n + 1)
front_of_pass last n below = let less : last - n ≡ suc (last - (n + 1)) = omega (arith, below) in ap (λ k. pass_from k n) less

end_of_pass : (last n : ℕ) → last ≤ n → pass_from (last - n) n ≡ []
end_of_pass last n past = let none : last - n ≡ 0 = omega (arith, past) in ap (λ k. pass_from k n) none

module _ (f : ℕ → List ℕ) (last n : ℕ) where
  pub one_more : (a b z : List ℕ) → n < last → a ++ flat_map f (pass_from (last - n) n) ≡ z → b ≡ a ++ f n → b ++ flat_map f (pass_from (last - (n + 1)) (n + 1)) ≡ z
  one_more a b z below so_far text =
      let rest = flat_map f (pass_from (last - (n + 1)) (n + 1)) in
      ap (λ x. x ++ rest) text ∙ append_assoc a (f n) rest ∙ ap (λ x. a ++ x) (sym (ap (flat_map f) (front_of_pass last n below))) ∙ so_far

  pub no_more : (a z : List ℕ) → last ≤ n → a ++ flat_map f (pass_from (last - n) n) ≡ z → a ≡ z
  no_more a z past so_far = sym (append-nil a) ∙ ap (λ x. a ++ x) (sym (ap (flat_map f) (end_of_pass last n past))) ∙ so_far

-- the text of one element more, by what it is seen as
pub one_written : {X Y : Type 0} (seen : X → Y) (f : Y → List ℕ) (xs : List X) (i : ℕ) (x : X) (a b z : List ℕ) → i < length xs → x ≡ get_or xs i x
    → a ++ flat_map f (map seen (drop i xs)) ≡ z → b ≡ a ++ f (seen x) → b ++ flat_map f (map seen (drop (i + 1) xs)) ≡ z
one_written seen f xs i x a b z below is so_far text =
    let rest = flat_map f (map seen (drop (i + 1) xs)) in
    ap (λ t. t ++ rest) text
    ∙ append_assoc a (f (seen x)) rest
    ∙ ap (λ y. a ++ (f (seen y) ++ rest)) is
    ∙ ap (λ ys. a ++ flat_map f (map seen ys)) (sym (drop_more xs i x below))
    ∙ so_far

-- one element more, where it is the first of those that are left
pub one_pushed : {X Y : Type 0} (seen : X → Y) (old new : List X) (x : X) (y : Y) (before after z : List Y) → new ≡ old ++ x ∷ [] → seen x ≡ y → before ≡ y ∷ after → map seen old ++ before ≡ z → map seen new ++ after ≡ z
one_pushed seen old new x y before after z added is first so_far =
    ap (λ xs. map seen xs ++ after) added
    ∙ ap (λ ys. ys ++ after) (map-append seen old (x ∷ []))
    ∙ append_assoc (map seen old) (seen x ∷ []) after
    ∙ ap (λ v. map seen old ++ (v ∷ after)) is
    ∙ ap (λ ys. map seen old ++ ys) (sym first)
    ∙ so_far

-- the text of one element more, where it is the first of those that are left
pub one_text : {Y : Type 0} (f : Y → List ℕ) (a b z : List ℕ) (y : Y) (before after : List Y) → before ≡ y ∷ after → a ++ flat_map f before ≡ z → b ≡ a ++ f y → b ++ flat_map f after ≡ z
one_text f a b z y before after first so_far text =
    ap (λ t. t ++ flat_map f after) text ∙ append_assoc a (f y) (flat_map f after) ∙ ap (λ ys. a ++ flat_map f ys) (sym first) ∙ so_far

-- a part that was appended is the first of those after it
pub joined_more : {X : Type 0} (n m s rest : List X) → m ≡ n ++ s → m ++ rest ≡ n ++ (s ++ rest)
joined_more n m s rest e = ap (λ x. x ++ rest) e ∙ append_assoc n s rest

-- a text after another
pub text_then : (a b d x y : List ℕ) → b ≡ a ++ x → d ≡ b ++ y → d ≡ a ++ (x ++ y)
text_then a b d x y first last = last ∙ ap (λ o. o ++ y) first ∙ append_assoc a x y
