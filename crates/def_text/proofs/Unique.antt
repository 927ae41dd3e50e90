-- A text has one list of tokens at most.
use Rattle.std.proofs.Common.{◌≡◌, ℕ, ℤ, pos, neg_ℤ, ◌<◌, List, [], ◌∷◌, ◌++◌, length, take, drop, true, false, ◌||◌, ◌==◌, Some, flat_map, codes, refl, ap, sym, ◌∙◌, subst, arith, append_assoc, append-nil, length-append, ◌⊎◌, inl, inr}
use Rattle.std.proofs.lemmas.List.{take_at, drop_at, append_cancel_right, append_cancel_left}
use Rattle.std.proofs.lemmas.Bool.{cond_both, cond-false, or_parts}
use Rattle.def_term.specs.Text.{is_digit}
use Rattle.def_text.specs.Tokens.{Token, open_brace, close_brace, open_bracket, close_bracket, comma, stop, integer, atom, characters, pid, bad, gap_len, all_are, number, in_quotes, escaped_in, IsDigits, IsInteger, IsQuoted, IsPid, IsToken, Stands, TokenSpan, IsNextToken, TokensFrom, HasNoToken}
use Rattle.def_text.specs.Scan.{TokenKind, left_brace, right_brace, left_bracket, right_bracket, separator, full_stop, numeral, bare_atom, quoted_atom, string, process_identifier}
use Rattle.def_text.specs.Scan.{token_at, IsTokenOf, unescape}
use Rattle.def_text.proofs.TokenComplete.{seen}
use Rattle.def_text.proofs.TokenSteps.{nonempty}

one_unescaped : (q b : ℕ) (bs : List ℕ) → unescape false (escaped_in q b ++ bs) ≡ b ∷ unescape false bs
one_unescaped q b bs =
    cond_both ((b == q) || (b == 92)) (92 ∷ b ∷ []) (b ∷ []) (λ e. unescape false (e ++ bs) ≡ b ∷ unescape false bs) (λ _. refl)
    (λ h. let parts = or_parts (b == q) (b == 92) h in cond-false (b == 92) (unescape true bs) (b ∷ unescape false bs) parts.1)

pub unescaped_is : (q : ℕ) (s rest : List ℕ) → unescape false (flat_map (escaped_in q) s ++ rest) ≡ s ++ unescape false rest
unescaped_is q [] rest = refl
unescaped_is q (b ∷ s) rest =
    ap (unescape false) (append_assoc (escaped_in q b) (flat_map (escaped_in q) s) rest) ∙ one_unescaped q b (flat_map (escaped_in q) s ++ rest) ∙ ap (λ xs. b ∷ xs) (unescaped_is q s rest)

same_quoted : (q : ℕ) (r s : List ℕ) → in_quotes q r ≡ in_quotes q s → r ≡ s
same_quoted q r s h =
    let inner : flat_map (escaped_in q) r ++ q ∷ [] ≡ flat_map (escaped_in q) s ++ q ∷ [] = cc in
    append_cancel_right r s (unescape false (q ∷ [])) (sym (unescaped_is q r (q ∷ [])) ∙ ap (unescape false) inner ∙ unescaped_is q s (q ∷ []))

minus_apart : (u ds : List ℕ) → IsDigits u → u ≡ 45 ∷ ds → ⊥
minus_apart u ds h e = let d : all_are is_digit (45 ∷ ds) ≡ true = subst (λ x. all_are is_digit x ≡ true) e h.all in cc

same_integer : (u rest : List ℕ) (m n : ℤ) → IsInteger u rest m → IsInteger u rest n → m ≡ n
same_integer u rest m n (a, inl h) (b, inl k) = h.1 ∙ sym k.1
same_integer u rest m n (a, inl h) (b, inr k) = absurd (minus_apart u k.0 h.0 k.1)
same_integer u rest m n (a, inr h) (b, inl k) = absurd (minus_apart u h.0 k.0 h.1)
same_integer u rest m n (a, inr h) (b, inr k) =
    let both : 45 ∷ h.0 ≡ 45 ∷ k.0 = sym h.1 ∙ k.1 in
    let same : h.0 ≡ k.0 = cc in
    h.3 ∙ ap (λ ds. neg_ℤ (pos (number ds))) same ∙ sym k.3

same_pid : (u ds es : List ℕ) (m n : ℕ) → IsPid u ds m → IsPid u es n → m ≡ n
same_pid u ds es m n h k =
    let both : codes "<0." ++ ds ++ codes ".0>" ≡ codes "<0." ++ es ++ codes ".0>" = sym h.text ∙ k.text in
    let same : ds ≡ es = append_cancel_left (codes "<0.") ds es (append_cancel_right (codes "<0." ++ ds) (codes "<0." ++ es) (codes ".0>") both) in
    h.value ∙ ap number same ∙ sym k.value

one_kind : (k : TokenKind) (u rest : List ℕ) (s t : Token) → IsTokenOf k u rest s → IsTokenOf k u rest t → IsToken u rest s → IsToken u rest t → s ≡ t
one_kind left_brace u rest s t f g h i = f ∙ sym g
one_kind right_brace u rest s t f g h i = f ∙ sym g
one_kind left_bracket u rest s t f g h i = f ∙ sym g
one_kind right_bracket u rest s t f g h i = f ∙ sym g
one_kind separator u rest s t f g h i = f ∙ sym g
one_kind full_stop u rest s t f g h i = f ∙ sym g
one_kind numeral u rest s t (m, f) (n, g) h i = f ∙ ap integer (same_integer u rest m n (subst (IsToken u rest) f h) (subst (IsToken u rest) g i)) ∙ sym g
one_kind bare_atom u rest s t (x, f, a) (y, g, b) h i = f ∙ ap atom (sym a.text ∙ b.text) ∙ sym g
one_kind quoted_atom u rest s t (x, f, a) (y, g, b) h i = f ∙ ap atom (same_quoted 39 x y (sym a.text ∙ b.text)) ∙ sym g
one_kind string u rest s t (x, f) (y, g) h i = let a : IsQuoted 34 u x = subst (IsToken u rest) f h in let b : IsQuoted 34 u y = subst (IsToken u rest) g i in f ∙ ap characters (same_quoted 34 x y (sym a.text ∙ b.text)) ∙ sym g
one_kind process_identifier u rest s t (m, f) (n, g) h i = let a = subst (IsToken u rest) f h in let b = subst (IsToken u rest) g i in f ∙ ap pid (same_pid u a.0 b.0 m n a.1 b.1) ∙ sym g

abbrev Bad : List ℕ → List ℕ → Type 0
Bad u rest = (rest ≡ []) × (0 < length u) × HasNoToken u

good_or_bad : (t : Token) (u rest : List ℕ) → Stands u rest t → IsToken u rest t ⊎ ((t ≡ bad) × Bad u rest)
good_or_bad bad u rest h = inr (refl, h)
good_or_bad open_brace u rest h = inl h
good_or_bad close_brace u rest h = inl h
good_or_bad open_bracket u rest h = inl h
good_or_bad close_bracket u rest h = inl h
good_or_bad comma u rest h = inl h
good_or_bad stop u rest h = inl h
good_or_bad (integer n) u rest h = inl h
good_or_bad (atom s) u rest h = inl h
good_or_bad (characters s) u rest h = inl h
good_or_bad (pid n) u rest h = inl h

same_front : (u v rest more : List ℕ) → u ++ rest ≡ v ++ more → length u ≡ length v → (u ≡ v) × (rest ≡ more)
same_front u v rest more e n = (
  sym (take_at u rest (length u) refl) ∙ ap (take (length u)) e ∙ take_at v more (length u) (sym n),
  sym (drop_at u rest (length u) refl) ∙ ap (drop (length u)) e ∙ drop_at v more (length u) (sym n),
)

same_some : (p q : TokenKind × ℕ) → Some p ≡ Some q → p ≡ q
same_some p q h = cc

same_good : (u v rest more : List ℕ) (s t : Token) → u ++ rest ≡ v ++ more → IsToken u rest s → IsToken v more t → (s ≡ t) × (u ≡ v) × (rest ≡ more)
same_good u v rest more s t e h i =
    let f = seen u rest s h in
    let g = seen v more t i in
    let both = same_some (f.0, length u) (g.0, length v) (sym f.2 ∙ ap token_at e ∙ g.2) in
    let size : length u ≡ length v = ap (λ (p : TokenKind × ℕ). p.1) both in
    let kinds : f.0 ≡ g.0 = ap (λ (p : TokenKind × ℕ). p.0) both in
    let parts = same_front u v rest more e size in
    let i' = subst (λ x. IsToken x rest t) (sym parts.0) (subst (λ x. IsToken v x t) (sym parts.1) i) in
    let g' = subst (λ x. IsTokenOf x u rest t) (sym kinds) (subst (λ x. IsTokenOf g.0 x rest t) (sym parts.0) (subst (λ x. IsTokenOf g.0 v x t) (sym parts.1) g.1)) in
    (one_kind f.0 u rest s t f.1 g' h i', parts.0, parts.1)

same_stands : (u v rest more : List ℕ) (s t : Token) → u ++ rest ≡ v ++ more → Stands u rest s → Stands v more t → (s ≡ t) × (u ≡ v) × (rest ≡ more)
same_stands u v rest more s t e h i =
    elim (good_or_bad s u rest h) [
      | inl a ↦ elim (good_or_bad t v more i) [
        | inl b ↦ same_good u v rest more s t e a b
        | inr b ↦ absurd (b.1.2 u rest s (sym (append-nil v) ∙ ap (λ x. v ++ x) (sym b.1.0) ∙ sym e) a)
      ]
      | inr a ↦ elim (good_or_bad t v more i) [
        | inl b ↦ absurd (a.1.2 v more t (sym (append-nil u) ∙ ap (λ x. u ++ x) (sym a.1.0) ∙ e) b)
        | inr b ↦ (a.0 ∙ sym b.0, sym (append-nil u) ∙ ap (λ x. u ++ x) (sym a.1.0) ∙ e ∙ ap (λ x. v ++ x) b.1.0 ∙ append-nil v, a.1.0 ∙ sym b.1.0)
      ]
    ]

same_spanned : (x y : TokenSpan) → x.token ≡ y.token → x.from ≡ y.from → x.to ≡ y.to → x ≡ y
same_spanned x y e f g =
    let made : Token → ℕ → ℕ → TokenSpan = λ t a b. record { token = t; from = a; to = b } in
    ap (λ t. made t x.from x.to) e ∙ ap (λ a. made y.token a x.to) f ∙ ap (made y.token y.from) g

same_next : (at : ℕ) (bytes u v rest more : List ℕ) (x y : TokenSpan) → IsNextToken at bytes u rest x → IsNextToken at bytes v more y → (x ≡ y) × (rest ≡ more)
same_next at bytes u v rest more x y h i =
    let s = same_stands u v rest more x.token y.token (sym h.split ∙ i.split) h.stands i.stands in
    let token = s.0 in
    let from : x.from ≡ y.from = h.from ∙ sym i.from in
    let hto = h.to in
    let ito = i.to in
    let size = ap length s.1 in
    let to : x.to ≡ y.to = omega (arith, hto, ito, from, size) in
    (same_spanned x y token from to, s.2)

-- where a token stands, the text has not ended
never_ended : (at : ℕ) (bytes u rest : List ℕ) (x : TokenSpan) → drop (gap_len false bytes) bytes ≡ [] → IsNextToken at bytes u rest x → ⊥
never_ended at bytes u rest x e h =
    let none : length (u ++ rest) ≡ 0 = ap length (sym h.split ∙ e) in
    elim (good_or_bad x.token u rest h.stands) [ inl a ↦ (let some = nonempty x.token u rest a in omega (arith, none, some, length-append u rest)) | inr a ↦ (let some = a.1.1 in omega (arith, none, some, length-append u rest)) ]

pub same_tokens : (at : ℕ) (bytes : List ℕ) (xs ys : List TokenSpan) → TokensFrom at bytes xs → TokensFrom at bytes ys → xs ≡ ys
same_tokens at bytes [] [] h i = refl
same_tokens at bytes [] (y ∷ ys) h i = absurd (never_ended at bytes i.0 i.1 y h i.2)
same_tokens at bytes (x ∷ xs) [] h i = absurd (never_ended at bytes h.0 h.1 x i h.2)
same_tokens at bytes (x ∷ xs) (y ∷ ys) h i =
    let n = same_next at bytes h.0 i.0 h.1 i.1 x y h.2 i.2 in
    let i' = subst (λ z. TokensFrom z.to h.1 ys) (sym n.0) (subst (λ r. TokensFrom y.to r ys) (sym n.1) i.3) in
    let rest = same_tokens x.to h.1 xs ys h.3 i' in
    let first = n.0 in
    cc
