-- The written text of a tree spells it.
use Rattle.std.proofs.Common.{◌≡◌, ℕ, ◌+◌, ◌≤◌, List, [], ◌∷◌, ◌++◌, length, drop, Bool, true, false, ◌==◌, refl, ap, sym, ◌∙◌, subst, append_assoc, append-nil, length-append, arith, inl, inr}
use Rattle.std.proofs.lemmas.Bool.{and_parts, cond-false, ltb-true, ne_eqb, both_ways, not_from_false}
use Rattle.std.proofs.lemmas.Bool.Decides.{nat_tests}
use Rattle.std.proofs.lemmas.List.{map-append}
use Rattle.def_term.specs.Tree.{Tree, int, atom as name, pid as process, tuple, list, Trees, none, more}
use Rattle.def_term.specs.Text.{is_digit, is_lower, is_name_byte, are_name_bytes, w, comma_list, each_after_comma}
use Rattle.def_text.specs.Tokens.{Token, open_brace, close_brace, open_bracket, close_bracket, comma, stop, integer, atom, characters, pid, bad, is_blank, gap_len, stops, all_are, IsToken, TokenSpan, TokensFrom}
use Rattle.def_text.specs.Grammar.{Derives, DerivesAll, DerivesRest}
use Rattle.def_text.specs.Limits.{DEPTH, Fits}
use Rattle.def_text.specs.Spelling.{LENGTH, Spells, tokens_of}
use Rattle.def_text.specs.Writable.{is_writable, are_writable}
use Rattle.def_text.proofs.TokenSteps.{stands_of}
use Rattle.def_text.proofs.WrittenText.{integers, pids, atoms}

digit_solid : (b : ℕ) → is_digit b ≡ true → is_blank b ≡ false
digit_solid b h = grind (arith, nat_tests)

lower_solid : (b : ℕ) → is_lower b ≡ true → is_blank b ≡ false
lower_solid b h = grind (arith, nat_tests)

apart : (p : ℕ → Bool) (b x : ℕ) → p b ≡ true → p x ≡ false → (b == x) ≡ false
apart p b x h o = ne_eqb b x (λ e. both_ways (p b) (ap p e ∙ o) h)

no_gap_at : (b : ℕ) (bs : List ℕ) → (b == 37) ≡ false → is_blank b ≡ false → gap_len false (b ∷ bs) ≡ 0
no_gap_at b bs h k = cond-false (b == 37) _ _ h ∙ cond-false (is_blank b) (gap_len false bs + 1) 0 k

no_gap : (t : Token) (u rest : List ℕ) → IsToken u rest t → gap_len false (u ++ rest) ≡ 0
no_gap open_brace u rest h = ap (λ x. gap_len false (x ++ rest)) h
no_gap close_brace u rest h = ap (λ x. gap_len false (x ++ rest)) h
no_gap open_bracket u rest h = ap (λ x. gap_len false (x ++ rest)) h
no_gap close_bracket u rest h = ap (λ x. gap_len false (x ++ rest)) h
no_gap comma u rest h = ap (λ x. gap_len false (x ++ rest)) h
no_gap stop u rest h = ap (λ x. gap_len false (x ++ rest)) h.0
no_gap (integer n) [] rest (over, inl h) = let s = h.0.some in absurd (omega (arith, s))
no_gap (integer n) (d ∷ ds) rest (over, inl h) = let p = and_parts (is_digit d) (all_are is_digit ds) h.0.all in no_gap_at d (ds ++ rest) (apart is_digit d 37 p.0 refl) (digit_solid d p.0)
no_gap (integer n) u rest (over, inr h) = ap (λ x. gap_len false (x ++ rest)) h.1
no_gap (atom []) u rest (inl h) = absurd (let n = h.name in cc)
no_gap (atom (b ∷ s)) u rest (inl h) = let p = and_parts (is_lower b) (are_name_bytes s) h.name in ap (λ x. gap_len false (x ++ rest)) h.text ∙ no_gap_at b (s ++ rest) (apart is_lower b 37 p.0 refl) (lower_solid b p.0)
no_gap (atom s) u rest (inr h) = ap (λ x. gap_len false (x ++ rest)) h.text
no_gap (characters s) u rest h = ap (λ x. gap_len false (x ++ rest)) h.text
no_gap (pid n) u rest (ds, h) = ap (λ x. gap_len false (x ++ rest)) h.text
no_gap bad u rest h = absurd h

abbrev spanned : Token → ℕ → ℕ → TokenSpan
spanned t from to = record { token = t; from = from; to = to }

-- one more token in front
one_more : (at to : ℕ) (u rest : List ℕ) (ys : List TokenSpan) (t : Token) → IsToken u rest t → to ≡ at + length u → TokensFrom to rest ys → TokensFrom at (u ++ rest) (spanned t at to ∷ ys)
one_more at to u rest ys t h is later =
    let none_there = no_gap t u rest h in
    (u, rest, record { split = ap (λ n. drop n (u ++ rest)) none_there; from = omega (arith, none_there); to = is; stands = stands_of t u rest h }, later)

pub record Follows (rest : List ℕ) : Type 0 where
  pub digit : stops is_digit rest ≡ true
  pub name : stops is_name_byte rest ≡ true

pub record Close (c : ℕ) (k : Token) : Type 0 where
  pub token : (rest : List ℕ) → IsToken (c ∷ []) rest k
  pub digit : is_digit c ≡ false
  pub name : is_name_byte c ≡ false

brace_closes : Close 125 close_brace
brace_closes = record { token = λ rest. refl; digit = refl; name = refl }

bracket_closes : Close 93 close_bracket
bracket_closes = record { token = λ rest. refl; digit = refl; name = refl }

follows_rest : (us : Trees) (c : ℕ) (k : Token) (rest : List ℕ) → Close c k → Follows ((each_after_comma us ++ c ∷ []) ++ rest)
follows_rest none c k rest h = record { digit = not_from_false (is_digit c) h.digit; name = not_from_false (is_name_byte c) h.name }
follows_rest (more t us) c k rest h = record { digit = refl; name = refl }

abbrev Reads : ℕ → List ℕ → List TokenSpan → (List Token → Type 0) → Type 0
Reads at bytes ys D = (xs : List TokenSpan) × TokensFrom at bytes (xs ++ ys) × D (tokens_of xs)

regroup : (a e rest : List ℕ) (c : ℕ) → ((a ++ e) ++ c ∷ []) ++ rest ≡ a ++ ((e ++ c ∷ []) ++ rest)
regroup a e rest c = simp append_assoc

tokens_joined : (xs zs : List TokenSpan) → tokens_of (xs ++ zs) ≡ tokens_of xs ++ tokens_of zs
tokens_joined xs zs = map-append (λ (x : TokenSpan). x.token) xs zs

after_comma : (xs zs : List TokenSpan) → comma ∷ tokens_of (xs ++ zs) ≡ comma ∷ (tokens_of xs ++ tokens_of zs)
after_comma xs zs = ap (λ ts. comma ∷ ts) (tokens_joined xs zs)

-- the same tokens of the same bytes, put together from the front
together : (at : ℕ) (a e rest : List ℕ) (c : ℕ) (xs zs ys : List TokenSpan) → TokensFrom at (a ++ ((e ++ c ∷ []) ++ rest)) (xs ++ (zs ++ ys)) → TokensFrom at (((a ++ e) ++ c ∷ []) ++ rest) ((xs ++ zs) ++ ys)
together at a e rest c xs zs ys h = subst (λ x. TokensFrom at x ((xs ++ zs) ++ ys)) (sym (regroup a e rest c)) (subst (TokensFrom at (a ++ ((e ++ c ∷ []) ++ rest))) (sym (append_assoc xs zs ys)) h)

mutual
  written : (t : Tree) (at to : ℕ) (rest : List ℕ) (ys : List TokenSpan) → is_writable t ≡ true → Follows rest → to ≡ at + length (w t) → TokensFrom to rest ys → Reads at (w t ++ rest) ys (λ ts. Derives ts t)
  written (int n) at to rest ys ok f is m = (spanned (integer n) at to ∷ [], one_more at to (w (int n)) rest ys (integer n) (integers n rest ok f.digit) is m, refl)
  written (name s) at to rest ys ok f is m = (spanned (atom s) at to ∷ [], one_more at to (w (name s)) rest ys (atom s) (atoms s rest ok f.name) is m, refl)
  written (process n) at to rest ys ok f is m = (spanned (pid n) at to ∷ [], one_more at to (w (process n)) rest ys (pid n) (pids n rest (ltb-true n 4294967296 ok)) is m, refl)
  written (tuple us) at to rest ys ok f is m =
      let r = all_written us 125 close_brace (at + 1) to rest ys ok brace_closes (omega (arith, is)) m in
      (spanned open_brace at (at + 1) ∷ r.0, one_more at (at + 1) (123 ∷ []) ((comma_list us ++ 125 ∷ []) ++ rest) (r.0 ++ ys) open_brace refl (omega arith) r.1, (tokens_of r.0, refl, r.2))
  written (list us) at to rest ys ok f is m =
      let r = all_written us 93 close_bracket (at + 1) to rest ys ok bracket_closes (omega (arith, is)) m in
      (spanned open_bracket at (at + 1) ∷ r.0, one_more at (at + 1) (91 ∷ []) ((comma_list us ++ 93 ∷ []) ++ rest) (r.0 ++ ys) open_bracket refl (omega arith) r.1, inl (tokens_of r.0, refl, r.2))

  all_written : (us : Trees) (c : ℕ) (k : Token) (at to : ℕ) (rest : List ℕ) (ys : List TokenSpan) → are_writable us ≡ true → Close c k → to ≡ at + length (comma_list us ++ c ∷ []) → TokensFrom to rest ys → Reads at ((comma_list us ++ c ∷ []) ++ rest) ys (λ ts. DerivesAll k ts us)
  all_written none c k at to rest ys ok h is m = (spanned k at to ∷ [], one_more at to (c ∷ []) rest ys k (h.token rest) is m, refl)
  all_written (more t us) c k at to rest ys ok h is m =
      let p = and_parts (is_writable t) (are_writable us) ok in
      let e = each_after_comma us in
      let mid = at + length (w t) in
      let b = rest_written us c k mid to rest ys p.1 h (omega (arith, is, length-append (w t ++ e) (c ∷ []), length-append (w t) e, length-append e (c ∷ []))) m in
      let a = written t at mid ((e ++ c ∷ []) ++ rest) (b.0 ++ ys) p.0 (follows_rest us c k rest h) refl b.1 in
      (a.0 ++ b.0, together at (w t) e rest c a.0 b.0 ys a.1, (tokens_of a.0, tokens_of b.0, tokens_joined a.0 b.0, a.2, b.2))

  rest_written : (us : Trees) (c : ℕ) (k : Token) (at to : ℕ) (rest : List ℕ) (ys : List TokenSpan) → are_writable us ≡ true → Close c k → to ≡ at + length (each_after_comma us ++ c ∷ []) → TokensFrom to rest ys → Reads at ((each_after_comma us ++ c ∷ []) ++ rest) ys (λ ts. DerivesRest k ts us)
  rest_written none c k at to rest ys ok h is m = (spanned k at to ∷ [], one_more at to (c ∷ []) rest ys k (h.token rest) is m, refl)
  rest_written (more t us) c k at to rest ys ok h is m =
      let p = and_parts (is_writable t) (are_writable us) ok in
      let e = each_after_comma us in
      let mid = at + 1 + length (w t) in
      let b = rest_written us c k mid to rest ys p.1 h (omega (arith, is, length-append (w t ++ e) (c ∷ []), length-append (w t) e, length-append e (c ∷ []))) m in
      let a = written t (at + 1) mid ((e ++ c ∷ []) ++ rest) (b.0 ++ ys) p.0 (follows_rest us c k rest h) refl b.1 in
      let inside = together (at + 1) (w t) e rest c a.0 b.0 ys a.1 in
      (spanned comma at (at + 1) ∷ (a.0 ++ b.0), one_more at (at + 1) (44 ∷ []) (((w t ++ e) ++ c ∷ []) ++ rest) ((a.0 ++ b.0) ++ ys) comma refl (omega arith) inside, (tokens_of a.0, tokens_of b.0, after_comma a.0 b.0, a.2, b.2))

pub spells : (t : Tree) → is_writable t ≡ true → Fits DEPTH true t → length (w t) ≤ LENGTH → Spells (w t) t
spells t ok fits short =
    let r = written t 0 (length (w t)) [] [] ok (record { digit = refl; name = refl }) (omega arith) refl in
    record {
      short = short;
      tokens = r.0;
      are = subst (λ x. TokensFrom 0 x r.0) (append-nil (w t)) (subst (TokensFrom 0 (w t ++ [])) (append-nil r.0) r.1);
      derives = r.2;
      fits = fits;
    }
