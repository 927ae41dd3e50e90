-- The tokens of a term are passed within its brackets; so after so many elements with their commas stand the tokens that are computed.
use Rattle.std.proofs.Common.{◌≡◌, ℕ, zero, suc, ◌-◌, ◌==◌, cond, Bool, true, false, List, [], ◌∷◌, ◌++◌, length, inl, inr, refl, ap, ap₂, sym, ◌∙◌, subst, arith}
use Rattle.std.proofs.lemmas.Bool.{ne_eqb}
use Rattle.std.proofs.Common.{append_assoc}
use Rattle.def_term.specs.Tree.{Tree, int, atom, pid, tuple, list, Trees, none, more}
use Rattle.def_text.specs.Tokens as text
use Rattle.def_text.specs.Tokens.{Token, TokenSpan}
use Rattle.def_text.specs.Grammar.{Derives, DerivesAll, DerivesRest}
use Rattle.def_text.specs.Spelling.{tokens_of}
use Rattle.def_refusal.specs.ItemStarts.{TokenRole, opener, closer, separator, no_role, role_of, depth_after, commas_after, tokens_past_commas, DerivesEach, IsFromElement}
use Rattle.def_refusal.specs.Laws.{ElementIsAfterCommas}

-- from these tokens on, at this depth and with so many commas left, the walk comes to tokens that are these at that depth
record Passes (d e n m : ℕ) (front rest : List TokenSpan) (ts : List Token) : Type 0 where
  pub left : List TokenSpan
  pub tokens : tokens_of left ≡ ts
  pub same : tokens_past_commas d n (front ++ rest) ≡ tokens_past_commas e m (left ++ rest)

head-is : {X : Type 0} (x y : X) (xs ys : List X) → x ∷ xs ≡ y ∷ ys → x ≡ y
head-is x y xs ys e = cc

tail-is : {X : Type 0} (x y : X) (xs ys : List X) → x ∷ xs ≡ y ∷ ys → xs ≡ ys
tail-is x y xs ys e = cc

-- one token, while a comma is left
one : (d n : ℕ) (t : Token) (r : TokenRole) → role_of t ≡ r → (front rest : List TokenSpan) (ts : List Token) → tokens_of front ≡ t ∷ ts → Passes d (depth_after d r) (suc n) (commas_after d (suc n) r) front rest ts
one d n t r is [] rest ts e = absurd (let no_token : [] ≡ t ∷ ts = e in cc)
one d n t r is (x ∷ xs) rest ts e =
    let role : role_of x.token ≡ r = ap role_of (head-is x.token t (tokens_of xs) ts e) ∙ is in
    let some : (suc n == 0) ≡ false = ne_eqb (suc n) 0 (λ z. omega (arith, z)) in
    record {
      left = xs;
      tokens = tail-is x.token t (tokens_of xs) ts e;
      same = ap (λ b. cond b (x ∷ (xs ++ rest)) (tokens_past_commas (depth_after d (role_of x.token)) (commas_after d (suc n) (role_of x.token)) (xs ++ rest))) some
          ∙ ap (λ s. tokens_past_commas (depth_after d s) (commas_after d (suc n) s) (xs ++ rest)) role;
    }

-- one way after another
both_ways : (d e f n m k : ℕ) (front rest : List TokenSpan) (ts us : List Token) (p : Passes d e n m front rest ts) → Passes e f m k p.left rest us → Passes d f n k front rest us
both_ways d e f n m k front rest ts us p q = record { left = q.left; tokens = q.tokens; same = p.same ∙ q.same }

inner-comma : (d n : ℕ) → commas_after (suc d) n separator ≡ n
inner-comma d n = ap (λ b. cond b (n - 1) n) (ne_eqb (suc d) 0 (λ e. omega (arith, e)))

-- a comma within brackets
comma_within : (d n : ℕ) (front rest : List TokenSpan) (ts : List Token) → tokens_of front ≡ text.comma ∷ ts → Passes (suc d) (suc d) (suc n) (suc n) front rest ts
comma_within d n front rest ts e =
    let p = one (suc d) n text.comma separator refl front rest ts e in
    record { left = p.left; tokens = p.tokens; same = p.same ∙ ap (λ k. tokens_past_commas (suc d) k (p.left ++ rest)) (inner-comma d (suc n)) }

closes : (d n : ℕ) (close : Token) → role_of close ≡ closer → (front rest : List TokenSpan) (ts : List Token) → tokens_of front ≡ close ∷ ts → Passes (suc d) d (suc n) (suc n) front rest ts
closes d n close is front rest ts e =
    let p = one (suc d) n close closer is front rest ts e in
    let less : suc d - 1 ≡ d = omega arith in
    record { left = p.left; tokens = p.tokens; same = p.same ∙ ap (λ k. tokens_past_commas k (suc n) (p.left ++ rest)) less }

mutual
  term_passes : (ts : List Token) (u : Tree) → Derives ts u → (d n : ℕ) (front rest : List TokenSpan) (us : List Token) → tokens_of front ≡ ts ++ us → Passes d d (suc n) (suc n) front rest us
  term_passes ts (int k) h d n front rest us e = one d n (text.integer k) no_role refl front rest us (e ∙ ap (λ l. l ++ us) h)
  term_passes ts (atom s) h d n front rest us e = one d n (text.atom s) no_role refl front rest us (e ∙ ap (λ l. l ++ us) h)
  term_passes ts (pid k) h d n front rest us e = one d n (text.pid k) no_role refl front rest us (e ∙ ap (λ l. l ++ us) h)
  term_passes ts (tuple vs) h d n front rest us e =
      let p = one d n text.open_brace opener refl front rest (h.0 ++ us) (e ∙ ap (λ l. l ++ us) h.1) in
      both_ways d (suc d) d (suc n) (suc n) (suc n) front rest (h.0 ++ us) us p (all_pass text.close_brace refl h.0 vs h.2 d n p.left rest us p.tokens)
  term_passes ts (list vs) (inl h) d n front rest us e =
      let p = one d n text.open_bracket opener refl front rest (h.0 ++ us) (e ∙ ap (λ l. l ++ us) h.1) in
      both_ways d (suc d) d (suc n) (suc n) (suc n) front rest (h.0 ++ us) us p (all_pass text.close_bracket refl h.0 vs h.2 d n p.left rest us p.tokens)
  term_passes ts (list vs) (inr h) d n front rest us e = one d n (text.characters h.0) no_role refl front rest us (e ∙ ap (λ l. l ++ us) h.1)

  all_pass : (close : Token) → role_of close ≡ closer → (ts : List Token) (vs : Trees) → DerivesAll close ts vs → (d n : ℕ) (front rest : List TokenSpan) (us : List Token) → tokens_of front ≡ ts ++ us → Passes (suc d) d (suc n) (suc n) front rest us
  all_pass close is ts none h d n front rest us e = closes d n close is front rest us (e ∙ ap (λ l. l ++ us) h)
  all_pass close is ts (more v vs) h d n front rest us e =
      let p = term_passes h.0 v h.3 (suc d) n front rest (h.1 ++ us) (e ∙ ap (λ l. l ++ us) h.2 ∙ append_assoc h.0 h.1 us) in
      both_ways (suc d) (suc d) d (suc n) (suc n) (suc n) front rest (h.1 ++ us) us p (rest_pass close is h.1 vs h.4 d n p.left rest us p.tokens)

  rest_pass : (close : Token) → role_of close ≡ closer → (ts : List Token) (vs : Trees) → DerivesRest close ts vs → (d n : ℕ) (front rest : List TokenSpan) (us : List Token) → tokens_of front ≡ ts ++ us → Passes (suc d) d (suc n) (suc n) front rest us
  rest_pass close is ts none h d n front rest us e = closes d n close is front rest us (e ∙ ap (λ l. l ++ us) h)
  rest_pass close is ts (more v vs) h d n front rest us e =
      let c = comma_within d n front rest ((h.0 ++ h.1) ++ us) (e ∙ ap (λ l. l ++ us) h.2) in
      let p = term_passes h.0 v h.3 (suc d) n c.left rest (h.1 ++ us) (c.tokens ∙ append_assoc h.0 h.1 us) in
      let q = rest_pass close is h.1 vs h.4 d n p.left rest us p.tokens in
      both_ways (suc d) (suc d) d (suc n) (suc n) (suc n) front rest ((h.0 ++ h.1) ++ us) us c
      (both_ways (suc d) (suc d) d (suc n) (suc n) (suc n) c.left rest (h.1 ++ us) us p q)

nothing_left : (xs : List TokenSpan) → tokens_of xs ≡ [] → xs ≡ []
nothing_left [] e = refl
nothing_left (x ∷ xs) e = absurd (let some : x.token ∷ tokens_of xs ≡ [] = e in cc)

at_once : (xs : List TokenSpan) → tokens_past_commas 0 0 xs ≡ xs
at_once [] = refl
at_once (x ∷ xs) = refl

each_passes : (ts : List Token) (us : List Tree) → DerivesEach ts us → (front rest : List TokenSpan) → tokens_of front ≡ ts → tokens_past_commas 0 (length us) (front ++ rest) ≡ rest
each_passes ts [] h front rest e = ap (λ xs. tokens_past_commas 0 0 (xs ++ rest)) (nothing_left front (e ∙ h)) ∙ at_once rest
each_passes ts (u ∷ us) h front rest e =
    let p = term_passes h.0 u h.3 0 (length us) front rest (text.comma ∷ h.1) (e ∙ h.2) in
    let c = one 0 (length us) text.comma separator refl p.left rest h.1 p.tokens in
    let less : suc (length us) - 1 ≡ length us = omega arith in
    p.same ∙ c.same ∙ ap (λ k. tokens_past_commas 0 k (c.left ++ rest)) less ∙ each_passes h.1 us h.4 c.left rest c.tokens

pub element_after : ElementIsAfterCommas
element_after n xs rest b =
    ap (λ ys. tokens_past_commas 0 n ys) b.split ∙ ap (λ k. tokens_past_commas 0 k (b.front ++ rest)) (sym b.count) ∙ each_passes (tokens_of b.front) b.elements b.each b.front rest refl
