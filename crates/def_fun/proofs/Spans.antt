-- A text has one list of tokens, where its tokens are determined.
use Rattle.std.proofs.Common.{◌≡◌, ℕ, zero, suc, ◌+◌, ◌<◌, List, [], ◌∷◌, ◌++◌, length, drop, false, refl, ap, sym, ◌∙◌, subst, arith, length-append, length-drop}
use Rattle.def_text.specs.Tokens.{gap_len}
use Rattle.def_fun.specs.Spans.{SpanOf, IsNextOf, SpansFrom}

-- some bytes are one token at most, a token has a byte at least, and each text that has a byte has a token at its front
pub record AreDetermined (T : Type 0) (Stands : List ℕ → List ℕ → T → Type 0) : Type 0 where
  pub one : (u v rest more : List ℕ) (s t : T) → u ++ rest ≡ v ++ more → Stands u rest s → Stands v more t → (s ≡ t) × (u ≡ v) × (rest ≡ more)
  pub some : (u rest : List ℕ) (t : T) → Stands u rest t → 0 < length u
  pub there : (b : ℕ) (bs : List ℕ) → (u : List ℕ) × (rest : List ℕ) × (t : T) × (b ∷ bs ≡ u ++ rest) × Stands u rest t

module _ (T : Type 0) (S : List ℕ → List ℕ → T → Type 0) (d : AreDetermined T S) where
  same_spanned : (x y : SpanOf T) → x.token ≡ y.token → x.from ≡ y.from → x.to ≡ y.to → x ≡ y
  same_spanned x y e f g =
      let made : T → ℕ → ℕ → SpanOf T = λ t a b. record { token = t; from = a; to = b } in
      ap (λ t. made t x.from x.to) e ∙ ap (λ a. made y.token a x.to) f ∙ ap (made y.token y.from) g

  same_next : (at : ℕ) (bytes u v rest more : List ℕ) (x y : SpanOf T) → IsNextOf T S at bytes u rest x → IsNextOf T S at bytes v more y → (x ≡ y) × (rest ≡ more)
  same_next at bytes u v rest more x y h i =
      let s = d.one u v rest more x.token y.token (sym h.split ∙ i.split) h.stands i.stands in
      let token = s.0 in
      let from : x.from ≡ y.from = h.from ∙ sym i.from in
      let hto = h.to in
      let ito = i.to in
      let size = ap length s.1 in
      let to : x.to ≡ y.to = omega (arith, hto, ito, from, size) in
      (same_spanned x y token from to, s.2)

  -- where a token stands, the text has not ended
  never_ended : (at : ℕ) (bytes u rest : List ℕ) (x : SpanOf T) → drop (gap_len false bytes) bytes ≡ [] → IsNextOf T S at bytes u rest x → ⊥
  never_ended at bytes u rest x e h =
      let none : length (u ++ rest) ≡ 0 = ap length (sym h.split ∙ e) in
      let some = d.some u rest x.token h.stands in
      omega (arith, none, some, length-append u rest)

  pub same_spans : (at : ℕ) (bytes : List ℕ) (xs ys : List (SpanOf T)) → SpansFrom T S at bytes xs → SpansFrom T S at bytes ys → xs ≡ ys
  same_spans at bytes [] [] h i = refl
  same_spans at bytes [] (y ∷ ys) h i = absurd (never_ended at bytes i.0 i.1 y h i.2)
  same_spans at bytes (x ∷ xs) [] h i = absurd (never_ended at bytes h.0 h.1 x i h.2)
  same_spans at bytes (x ∷ xs) (y ∷ ys) h i =
      let n = same_next at bytes h.0 i.0 h.1 i.1 x y h.2 i.2 in
      let i' = subst (λ z. SpansFrom T S z.to h.1 ys) (sym n.0) (subst (λ r. SpansFrom T S y.to r ys) (sym n.1) i.3) in
      let rest = same_spans x.to h.1 xs ys h.3 i' in
      let first = n.0 in
      cc

  abbrev HasSpans : ℕ → List ℕ → Type 0
  HasSpans at bytes = (xs : List (SpanOf T)) × SpansFrom T S at bytes xs

  spans_there : (at : ℕ) (bytes there : List ℕ) → drop (gap_len false bytes) bytes ≡ there → ((next : ℕ) (rest : List ℕ) → length rest < length there → HasSpans next rest) → HasSpans at bytes
  spans_there at bytes [] is go = ([], is)
  spans_there at bytes (b ∷ bs) is go =
      let n = d.there b bs in
      let from = at + gap_len false bytes in
      let to = from + length n.0 in
      let x : SpanOf T = record { token = n.2; from = from; to = to } in
      let some = d.some n.0 n.1 n.2 n.4 in
      let size : length (b ∷ bs) ≡ length (n.0 ++ n.1) = ap length n.3 in
      let later = go to n.1 (omega (arith, some, size, length-append n.0 n.1)) in
      (x ∷ later.0, (n.0, n.1, record { split = is ∙ n.3; from = refl; to = refl; stands = n.4 }, later.1))

  -- by the number of bytes
  spans_within : (size at : ℕ) (bytes : List ℕ) → length bytes < size → HasSpans at bytes
  spans_within zero at bytes h = absurd (omega (arith, h))
  spans_within (suc size) at bytes h =
      let n = gap_len false bytes in
      spans_there at bytes (drop n bytes) refl (λ next rest fewer. spans_within size next rest (omega (arith, h, fewer, length-drop n bytes)))

  pub spans_exist : (bytes : List ℕ) → HasSpans 0 bytes
  spans_exist bytes = spans_within (length bytes + 1) 0 bytes (omega arith)
