-- Steps of going through the tokens of a text.
use Rattle.std.proofs.Common.{◌≡◌, ◌≢◌, ℕ, ◌+◌, ◌≤◌, List, [], ◌∷◌, ◌++◌, length, take, drop, false, refl, ap, sym, ◌∙◌, subst, arith, append_assoc, append-nil, length-drop}
use Rattle.std.proofs.lemmas.List.{drop-drop, take-append-drop, length-take-le, drop_all}
use Rattle.def_text.specs.Tokens.{bad, gap_len, IsToken, TokenSpan, TokensFrom, Tokens}
use Rattle.def_text.specs.Scan.{IsTokenOf, IsFound}
use Rattle.def_text.specs.Spelling.{LENGTH}
use Rattle.def_text.proofs.TokenSteps.{nonempty, stands_of}
use Rattle.tn_text.specs.declared.scan.Kind.{Kind}
use Rattle.tn_text.specs.declared.lexer.Token.{Token}
use Rattle.tn_text.specs.Kinds.{kind_of}
use Rattle.tn_text.specs.Lexer.{ShowsToken, AllShown, AllGood, StandsAt, HasNoTokenAt, IsEnd}
use Rattle.tn_text.proofs.TokenKinds.{span_kind}
use Rattle.tn_text.specs.Answers.{AreTokens, NoTokenAt}

pub stood : (bytes : List ℕ) (at gap len : ℕ) (k : Kind) → gap ≡ gap_len false (drop at bytes) → at + gap + len ≤ length bytes → len ≤ length (drop (at + gap) bytes)
    → IsFound (kind_of k) (take len (drop (at + gap) bytes)) (drop len (drop (at + gap) bytes)) → StandsAt bytes at (record { kind = k; from = at + gap; to = at + gap + len })
stood bytes at gap len k is fits within (t, token, kind) =
    let there = drop (at + gap) bytes in
    let u = take len there in
    let size : length u ≡ len = length-take-le len there within in
    let some = nonempty t u (drop len there) token in
    let on : drop len there ≡ drop (at + gap + len) bytes = drop-drop len (at + gap) bytes in
    let token' = subst (λ r. IsToken u r t) on token in
    record {
      spanned = record { token = t; from = at + gap; to = at + gap + len };
      token = u;
      next = record {
        split = ap (λ n. drop n (drop at bytes)) (sym is) ∙ drop-drop gap at bytes ∙ sym (take-append-drop len there) ∙ ap (λ r. u ++ r) on;
        from = ap (λ n. at + n) is;
        to = omega (arith, size);
        stands = stands_of t u (drop (at + gap + len) bytes) token';
      };
      kind = subst (λ r. IsTokenOf (kind_of k) u r t) on kind;
      from = refl;
      to = refl;
      good = λ e. subst (λ x. IsToken u (drop len there) x) e token;
      more = omega (arith, size, some);
      fits = fits;
    }

-- up to there these are the tokens: whatever the rest has completes them
abbrev pub SoFar : List ℕ → ℕ → List TokenSpan → Type 0
SoFar bytes at xs = (ys : List TokenSpan) → TokensFrom at (drop at bytes) ys → Tokens bytes (xs ++ ys)

pub record ListedTo (bytes : List ℕ) (at : ℕ) (vs : List Token) : Type 0 where
  pub tokens : List TokenSpan
  pub shown : AllShown bytes vs tokens
  pub good : AllGood tokens
  pub so_far : SoFar bytes at tokens

shown_more : (bytes : List ℕ) (vs : List Token) (xs : List TokenSpan) (v : Token) (x : TokenSpan) → AllShown bytes vs xs → ShowsToken bytes v x → AllShown bytes (vs ++ v ∷ []) (xs ++ x ∷ [])
shown_more bytes [] [] v x h s = (s, tt)
shown_more bytes [] (y ∷ xs) v x h s = absurd h
shown_more bytes (w ∷ vs) [] v x h s = absurd h
shown_more bytes (w ∷ vs) (y ∷ xs) v x h s = (h.0, shown_more bytes vs xs v x h.1 s)

good_more : (xs : List TokenSpan) (x : TokenSpan) → AllGood xs → (x.token ≢ bad) → AllGood (xs ++ x ∷ [])
good_more [] x h g = (g, tt)
good_more (y ∷ xs) x h g = (h.0, good_more xs x h.1 g)

-- the tokens after the first complete it
pub after_first : (bytes : List ℕ) (at : ℕ) (v : Token) (s : StandsAt bytes at v) (ys : List TokenSpan) → TokensFrom v.to (drop v.to bytes) ys → TokensFrom at (drop at bytes) (s.spanned ∷ ys)
after_first bytes at v s ys h = (s.token, drop v.to bytes, s.next, subst (λ n. TokensFrom n (drop v.to bytes) ys) s.to h)

pub so_far_more : (bytes : List ℕ) (at : ℕ) (xs : List TokenSpan) (v : Token) → SoFar bytes at xs → (s : StandsAt bytes at v) → SoFar bytes v.to (xs ++ s.spanned ∷ [])
so_far_more bytes at xs v f s = λ ys h. subst (Tokens bytes) (sym (append_assoc xs (s.spanned ∷ []) ys)) (f (s.spanned ∷ ys) (after_first bytes at v s ys h))

pub listed_more : (bytes : List ℕ) (at : ℕ) (vs ws : List Token) (v : Token) → ws ≡ vs ++ v ∷ [] → ListedTo bytes at vs → StandsAt bytes at v → ListedTo bytes v.to ws
listed_more bytes at vs ws v is r s = record {
  tokens = r.tokens ++ s.spanned ∷ [];
  shown = subst (λ x. AllShown bytes x (r.tokens ++ s.spanned ∷ [])) (sym is) (shown_more bytes vs r.tokens v s.spanned r.shown (record { kind = span_kind bytes at v s; from = s.from; to = s.to }));
  good = good_more r.tokens s.spanned r.good s.good;
  so_far = so_far_more bytes at r.tokens v r.so_far s;
}

pub whole : (bytes : List ℕ) (at : ℕ) (xs : List TokenSpan) → SoFar bytes at xs → IsEnd bytes at → Tokens bytes xs
whole bytes at xs f e = subst (Tokens bytes) (append-nil xs) (f [] e)

pub ended : (bytes : List ℕ) (at : ℕ) (vs : List Token) → length bytes ≤ LENGTH → ListedTo bytes at vs → IsEnd bytes at → AreTokens bytes vs
ended bytes at vs short r e = record { short = short; tokens = r.tokens; are = whole bytes at r.tokens r.so_far e; good = r.good; shown = r.shown }

pub end_there : (bytes : List ℕ) (at : ℕ) → length bytes ≤ at → IsEnd bytes at
end_there bytes at h = ap (λ xs. drop (gap_len false xs) xs) (drop_all at bytes h)

-- the bytes that form no token, to the end
abbrev pub last_bad : List ℕ → ℕ → TokenSpan
last_bad bytes from = record { token = bad; from = from; to = from + length (drop from bytes) }

pub bad_there : (bytes : List ℕ) (at from : ℕ) → HasNoTokenAt bytes at from → TokensFrom at (drop at bytes) (last_bad bytes from ∷ [])
bad_there bytes at from b =
    let place = b.place in
    let fits = b.fits in (
      drop from bytes,
      [],
      record {
        split = drop-drop (gap_len false (drop at bytes)) at bytes ∙ ap (λ n. drop n bytes) (sym place) ∙ sym (append-nil (drop from bytes));
        from = place;
        to = refl;
        stands = (refl, omega (arith, length-drop from bytes), b.none);
      },
      refl,
    )

pub no_token : (bytes : List ℕ) (at from : ℕ) (vs : List Token) → length bytes ≤ LENGTH → ListedTo bytes at vs → HasNoTokenAt bytes at from → NoTokenAt bytes from
no_token bytes at from vs short r b = record { short = short; front = r.tokens; last = last_bad bytes from; are = r.so_far (last_bad bytes from ∷ []) (bad_there bytes at from b); good = r.good; bad = refl; place = refl }
