-- quotation text: where it closes.
use Rattle.std.proofs.Common.{◌≡◌, ℕ, ◌+◌, List, [], ◌∷◌, ◌++◌, length, true, false, ◌||◌, ◌==◌, Option, Some, None, flat_map, refl, ap, sym, ◌∙◌, subst, arith, append_assoc, length-append, inl, inr}
use Rattle.std.proofs.lemmas.Bool.{and_parts, and_from, or_parts, or_cases, cond_both, cond-true, cond-false, eqb-true, eq-eqb}
use Rattle.def_text.specs.Tokens.{all_are, is_printable, escaped_in}
use Rattle.def_text.specs.Scan.{quoted_end}

-- a quote that is no backslash
pub record IsQuote (q : ℕ) : Type 0 where
  pub other : (92 == q) ≡ false
  pub printable : is_printable q ≡ true

-- what the body says so far
pub record Closes (q n : ℕ) (bs : List ℕ) (m : ℕ) : Type 0 where
  pub body : List ℕ
  pub rest : List ℕ
  pub split : bs ≡ flat_map (escaped_in q) body ++ q ∷ rest
  pub len : m ≡ n + length (flat_map (escaped_in q) body) + 1
  pub printable : all_are is_printable body ≡ true

one_end : (q n b : ℕ) (bs : List ℕ) → IsQuote q → is_printable b ≡ true → quoted_end q false n (escaped_in q b ++ bs) ≡ quoted_end q false (n + length (escaped_in q b)) bs
one_end q n b bs ok pr =
    cond_both ((b == q) || (b == 92)) (92 ∷ b ∷ []) (b ∷ []) (λ e. quoted_end q false n (e ++ bs) ≡ quoted_end q false (n + length e) bs)
    (λ h.
    cond-false (92 == q) _ _ ok.other
    ∙ cond-true ((b == q) || (b == 92)) (quoted_end q false (n + 1 + 1) bs) None h
    ∙ ap (λ k. quoted_end q false k bs) (omega arith))
    (λ h. let parts = or_parts (b == q) (b == 92) h in cond-false (b == q) _ _ parts.0 ∙ cond-false (b == 92) _ _ parts.1 ∙ cond-true (is_printable b) _ _ pr ∙ ap (λ k. quoted_end q false k bs) (omega arith))

pub closes_at : (q n : ℕ) (s rest : List ℕ) → IsQuote q → all_are is_printable s ≡ true → quoted_end q false n (flat_map (escaped_in q) s ++ q ∷ rest) ≡ Some (n + length (flat_map (escaped_in q) s) + 1)
closes_at q n [] rest ok pr = cond-true (q == q) (Some (n + 1)) _ (eq-eqb q q refl) ∙ ap (λ k. Some k) (omega arith)
closes_at q n (b ∷ s) rest ok pr =
    let parts = and_parts (is_printable b) (all_are is_printable s) pr in
    let more = flat_map (escaped_in q) s in
    ap (quoted_end q false n) (append_assoc (escaped_in q b) more (q ∷ rest))
    ∙ one_end q n b (more ++ q ∷ rest) ok parts.0
    ∙ closes_at q (n + length (escaped_in q b)) s rest ok parts.1
    ∙ ap (λ k. Some k) (omega (arith, length-append (escaped_in q b) more))

-- the same of what is found
abbrev pub ClosesAt : ℕ → ℕ → List ℕ → Option ℕ → Type 0
ClosesAt q n bs None = Unit {0}
ClosesAt q n bs (Some m) = Closes q n bs m

-- after a backslash
abbrev ClosesAfter : ℕ → ℕ → List ℕ → Option ℕ → Type 0
ClosesAfter q n bs None = Unit {0}
ClosesAfter q n bs (Some m) = (b : ℕ) × (xs : List ℕ) × (bs ≡ b ∷ xs) × (((b == q) || (b == 92)) ≡ true) × Closes q (n + 1) xs m

special_printable : (q b : ℕ) → IsQuote q → ((b == q) || (b == 92)) ≡ true → is_printable b ≡ true
special_printable q b ok h = elim (or_cases (b == q) (b == 92) h) [ inl e ↦ subst (λ x. is_printable x ≡ true) (sym (eqb-true b q e)) ok.printable | inr e ↦ subst (λ x. is_printable x ≡ true) (sym (eqb-true b 92 e)) refl ]

one_more : (q n k b : ℕ) (bs : List ℕ) (o : Option ℕ) → is_printable b ≡ true → k ≡ n + length (escaped_in q b) → ClosesAt q k bs o → ClosesAt q n (escaped_in q b ++ bs) o
one_more q n k b bs None pr e h = tt
one_more q n k b bs (Some m) pr e h = record {
  body = b ∷ h.body;
  rest = h.rest;
  split = ap (λ xs. escaped_in q b ++ xs) h.split ∙ sym (append_assoc (escaped_in q b) (flat_map (escaped_in q) h.body) (q ∷ h.rest));
  len = let l = h.len in omega (arith, l, length-append (escaped_in q b) (flat_map (escaped_in q) h.body));
  printable = and_from (is_printable b) (all_are is_printable h.body) pr h.printable;
}

mutual
  pub closed : (q n : ℕ) (bs : List ℕ) → IsQuote q → ClosesAt q n bs (quoted_end q false n bs)
  closed q n [] ok = tt
  closed q n (b ∷ bs) ok =
      cond_both (b == q) _ _ (ClosesAt q n (b ∷ bs))
      (λ h. record { body = []; rest = bs; split = ap (λ x. x ∷ bs) (eqb-true b q h); len = omega arith; printable = refl })
      (λ h.
      cond_both (b == 92) _ _ (ClosesAt q n (b ∷ bs))
      (λ is. subst (λ x. ClosesAt q n (x ∷ bs) (quoted_end q true (n + 1) bs)) (sym (eqb-true b 92 is)) (closed_after q n bs ok))
      (λ isnt.
      cond_both (is_printable b) _ _ (ClosesAt q n (b ∷ bs))
      (λ pr.
      let plain : escaped_in q b ≡ b ∷ [] = cond-false ((b == q) || (b == 92)) (92 ∷ b ∷ []) (b ∷ []) (rw h isnt) in
      subst (λ e. ClosesAt q n (e ++ bs) (quoted_end q false (n + 1) bs)) plain (one_more q n (n + 1) b bs (quoted_end q false (n + 1) bs) pr (rw plain) (closed q (n + 1) bs ok)))
      (λ _. tt)))

  closed_after : (q n : ℕ) (bs : List ℕ) → IsQuote q → ClosesAt q n (92 ∷ bs) (quoted_end q true (n + 1) bs)
  closed_after q n [] ok = tt
  closed_after q n (b ∷ bs) ok =
      cond_both ((b == q) || (b == 92)) _ _ (ClosesAt q n (92 ∷ b ∷ bs))
      (λ h.
      let both : escaped_in q b ≡ 92 ∷ b ∷ [] = cond-true ((b == q) || (b == 92)) (92 ∷ b ∷ []) (b ∷ []) h in
      subst (λ e. ClosesAt q n (e ++ bs) (quoted_end q false (n + 1 + 1) bs)) both
      (one_more q n (n + 1 + 1) b bs (quoted_end q false (n + 1 + 1) bs) (special_printable q b ok h) (rw both (omega arith)) (closed q (n + 1 + 1) bs ok)))
      (λ _. tt)
