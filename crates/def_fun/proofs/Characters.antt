-- Quoted texts: where they close, and which codes they have.
use Rattle.std.proofs.Common.{◌≡◌, ℕ, ◌+◌, List, [], ◌∷◌, ◌++◌, length, true, false, not, ◌||◌, ◌==◌, Option, Some, None, refl, ap, sym, ◌∙◌, subst, arith, append_assoc, length-append, inl, inr}
use Rattle.std.proofs.lemmas.Bool.{and_parts, or_parts, cond_both, cond-true, cond-false, eqb-true, eq-eqb, not-true}
use Rattle.def_text.specs.Tokens.{is_printable}
use Rattle.def_fun.specs.Tokens.{is_plain_in, is_escape, escape_code, IsCharacterOf, AreCharactersOf}
use Rattle.def_fun.specs.Scan.{with_character, in_quotes_at}

pub plain_parts : (q c : ℕ) → is_plain_in q c ≡ true → (is_printable c ≡ true) × ((c == q) ≡ false) × ((c == 92) ≡ false)
plain_parts q c h =
    let p = and_parts (is_printable c) (not ((c == q) || (c == 92))) h in
    let o = or_parts (c == q) (c == 92) (not-true _ p.1) in
    (p.0, o.0, o.1)

-- ---- what is written closes there

one_seen : (q c : ℕ) (cs front more rest : List ℕ) → (92 == q) ≡ false → IsCharacterOf q front c → in_quotes_at q false (more ++ q ∷ rest) ≡ Some (cs, length more + 1) → in_quotes_at q false ((front ++ more) ++ q ∷ rest) ≡ Some (c ∷ cs, length (front ++ more) + 1)
one_seen q c cs front more rest ok (inl h) later =
    let p = plain_parts q c h.1 in
    ap (λ f. in_quotes_at q false ((f ++ more) ++ q ∷ rest)) h.0
    ∙ cond-false (c == q) _ _ p.1
    ∙ cond-false (c == 92) _ _ p.2
    ∙ cond-true (is_plain_in q c) _ _ h.1
    ∙ ap (with_character c 1) later
    ∙ ap (λ n. Some (c ∷ cs, n)) (let e = ap length h.0 in omega (arith, e, length-append front more))
one_seen q c cs front more rest ok (inr h) later =
    let e = h.0 in
    ap (λ f. in_quotes_at q false ((f ++ more) ++ q ∷ rest)) h.1
    ∙ cond-false (92 == q) _ _ ok
    ∙ cond-true (is_escape e) _ _ h.2
    ∙ ap (with_character (escape_code e) 2) later
    ∙ ap (λ k. Some (k ∷ cs, length more + 1 + 2)) (sym h.3)
    ∙ ap (λ n. Some (c ∷ cs, n)) (let s = ap length h.1 in omega (arith, s, length-append front more))

pub closes_seen : (q : ℕ) (cs : List ℕ) (u rest : List ℕ) → (92 == q) ≡ false → AreCharactersOf q u cs → in_quotes_at q false (u ++ q ∷ rest) ≡ Some (cs, length u + 1)
closes_seen q [] u rest ok h = ap (λ x. in_quotes_at q false (x ++ q ∷ rest)) h ∙ cond-true (q == q) (Some ([], 1)) _ (eq-eqb q q refl) ∙ ap (λ n. Some ([], n)) (let e = ap length h in omega (arith, e))
closes_seen q (c ∷ cs) u rest ok h = ap (λ x. in_quotes_at q false (x ++ q ∷ rest)) h.2 ∙ one_seen q c cs h.0 h.1 rest ok h.3 (closes_seen q cs h.1 rest ok h.4) ∙ ap (λ x. Some (c ∷ cs, length x + 1)) (sym h.2)

-- ---- and what closes there is written

pub record QuoteCloses (q : ℕ) (bs cs : List ℕ) (n : ℕ) : Type 0 where
  pub body : List ℕ
  pub rest : List ℕ
  pub split : bs ≡ body ++ q ∷ rest
  pub len : n ≡ length body + 1
  pub are : AreCharactersOf q body cs

abbrev pub QuoteAt : ℕ → List ℕ → Option (List ℕ × ℕ) → Type 0
QuoteAt q bs None = Unit {0}
QuoteAt q bs (Some r) = QuoteCloses q bs r.0 r.1

one_more : (q c : ℕ) (front bs : List ℕ) (o : Option (List ℕ × ℕ)) → IsCharacterOf q front c → QuoteAt q bs o → QuoteAt q (front ++ bs) (with_character c (length front) o)
one_more q c front bs None is h = tt
one_more q c front bs (Some r) is h = record {
  body = front ++ h.body;
  rest = h.rest;
  split = ap (λ x. front ++ x) h.split ∙ sym (append_assoc front h.body (q ∷ h.rest));
  len = let l = h.len in omega (arith, l, length-append front h.body);
  are = (front, h.body, refl, is, h.are);
}

mutual
  pub quote_sound : (q : ℕ) (bs : List ℕ) → QuoteAt q bs (in_quotes_at q false bs)
  quote_sound q [] = tt
  quote_sound q (b ∷ bs) =
      cond_both (b == q) _ _ (QuoteAt q (b ∷ bs))
      (λ h. record { body = []; rest = bs; split = ap (λ x. x ∷ bs) (eqb-true b q h); len = refl; are = refl })
      (λ _. cond_both (b == 92) _ _ (QuoteAt q (b ∷ bs))
      (λ h. subst (λ x. QuoteAt q (x ∷ bs) (in_quotes_at q true bs)) (sym (eqb-true b 92 h)) (escaped_sound q bs))
      (λ _. cond_both (is_plain_in q b) _ _ (QuoteAt q (b ∷ bs))
      (λ h. one_more q b (b ∷ []) bs (in_quotes_at q false bs) (inl (refl, h)) (quote_sound q bs))
      (λ _. tt)))

  escaped_sound : (q : ℕ) (bs : List ℕ) → QuoteAt q (92 ∷ bs) (in_quotes_at q true bs)
  escaped_sound q [] = tt
  escaped_sound q (e ∷ bs) =
      cond_both (is_escape e) _ _ (QuoteAt q (92 ∷ e ∷ bs))
      (λ h. one_more q (escape_code e) (92 ∷ e ∷ []) bs (in_quotes_at q false bs) (inr (e, refl, h, refl)) (quote_sound q bs))
      (λ _. tt)
