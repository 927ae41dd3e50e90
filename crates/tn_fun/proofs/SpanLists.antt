-- The spans of a text, from one offset to the next.
use Rattle.std.proofs.Common.{◌≡◌, ℕ, zero, suc, ◌+◌, ◌-◌, ◌<◌, List, [], ◌∷◌, length, take, drop, false, Option, Some, None, refl, ap, sym, ◌∙◌, arith, length-take, length-drop, inl}
use Rattle.std.specs.Option.{unwrap_or}
use Rattle.std.proofs.lemmas.List.{drop-drop}
use Rattle.def_text.specs.Tokens.{gap_len}
use Rattle.def_fun.specs.Tokens.{FunToken, FunSpan, bad}
use Rattle.def_fun.specs.Scan.{fun_token_at, front_token, fun_span, with_front, spans_within}
use Rattle.def_fun.proofs.TokenSound.{some_stand, found_there}
use Rattle.tn_fun.specs.declared.token.Kind.{Kind}
use Rattle.tn_fun.specs.declared.token.Token.{Token}
use Rattle.tn_fun.specs.Tokens.{fun_token_seen, front_seen, span_seen, spans_from}

-- a token at the front has a byte
some_by : (b : ℕ) (bs : List ℕ) (o : Option (FunToken × ℕ)) → fun_token_at (b ∷ bs) ≡ o → 0 < (unwrap_or o (bad, length (b ∷ bs))).1
some_by b bs None is = omega arith
some_by b bs (Some p) is =
    let some = some_stand (take p.1 (b ∷ bs)) (drop p.1 (b ∷ bs)) p.0 (inl (found_there (b ∷ bs) p.0 p.1 is)) in
    omega (arith, some, length-take p.1 (b ∷ bs))

front_some : (b : ℕ) (bs : List ℕ) → 0 < (front_token (b ∷ bs)).1
front_some b bs = some_by b bs (fun_token_at (b ∷ bs)) refl

pub some_there : (there : List ℕ) (t : FunToken) (n : ℕ) → 0 < length there → front_token there ≡ (t, n) → 0 < n
some_there [] t n h e = absurd (omega (arith, h))
some_there (b ∷ bs) t n h e = let some = front_some b bs in let same = ap (λ p. p.1) e in omega (arith, some, same)

-- the rest of the spans
abbrev Go : Type 0
Go = ℕ → List ℕ → List FunSpan

same_front : (from : ℕ) (there : List ℕ) (go other : Go) → ((next : ℕ) (rest : List ℕ) → length rest < length there → go next rest ≡ other next rest) → with_front from there go ≡ with_front from there other
same_front from [] go other h = refl
same_front from (b ∷ bs) go other h =
    let n = (front_token (b ∷ bs)).1 in
    let some = front_some b bs in
    let fewer : length (drop n (b ∷ bs)) < length (b ∷ bs) = omega (arith, some, length-drop n (b ∷ bs)) in
    ap (λ xs. fun_span (front_token (b ∷ bs)).0 from (from + n) ∷ xs) (h (from + n) (drop n (b ∷ bs)) fewer)

-- the spans are the same within any number that is enough
same_spans_within : (n m at : ℕ) (bytes : List ℕ) → length bytes < n → length bytes < m → spans_within n at bytes ≡ spans_within m at bytes
same_spans_within zero m at bytes h k = absurd (omega (arith, h))
same_spans_within (suc n) zero at bytes h k = absurd (omega (arith, k))
same_spans_within (suc n) (suc m) at bytes h k =
    let gap = gap_len false bytes in
    same_front (at + gap) (drop gap bytes) (λ next rest. spans_within n next rest) (λ next rest. spans_within m next rest)
    (λ next rest fewer. same_spans_within n m next rest (omega (arith, h, fewer, length-drop gap bytes)) (omega (arith, k, fewer, length-drop gap bytes)))

front_step : (from : ℕ) (there : List ℕ) (go : Go) (t : FunToken) (n : ℕ) → 0 < length there → front_token there ≡ (t, n) → with_front from there go ≡ fun_span t from (from + n) ∷ go (from + n) (drop n there)
front_step from [] go t n h e = absurd (omega (arith, h))
front_step from (b ∷ bs) go t n h e = ap (λ p. fun_span p.0 from (from + p.1) ∷ go (from + p.1) (drop p.1 (b ∷ bs))) e

-- the spans after an offset are those of the token there and those after it
opened : (text : List ℕ) (at : ℕ) → spans_from text at ≡ with_front (at + gap_len false (drop at text)) (drop (gap_len false (drop at text)) (drop at text)) (λ next rest. spans_within (length text + 1) next rest)
opened text at = same_spans_within (length text + 1) (suc (length text + 1)) at (drop at text) (omega (arith, length-drop at text)) (omega (arith, length-drop at text))

pub spans_ended : (text : List ℕ) (at : ℕ) → drop (at + gap_len false (drop at text)) text ≡ [] → spans_from text at ≡ []
spans_ended text at is =
    let gap = gap_len false (drop at text) in
    opened text at ∙ ap (λ there. with_front (at + gap) there (λ next rest. spans_within (length text + 1) next rest)) (drop-drop gap at text ∙ is)

pub spans_found : (text : List ℕ) (at : ℕ) (v : Token) (t : FunToken) (n : ℕ) → v.from ≡ at + gap_len false (drop at text) → v.to ≡ v.from + n → 0 < length (drop v.from text)
    → front_token (drop v.from text) ≡ (t, n) → t ≡ fun_token_seen v.kind (take (v.to - v.from) (drop v.from text)) (drop v.from text) → spans_from text at ≡ span_seen text v ∷ spans_from text v.to
spans_found text at v t n from to some front is =
    let gap = gap_len false (drop at text) in
    let go : Go = λ next rest. spans_within (length text + 1) next rest in
    let there : drop gap (drop at text) ≡ drop v.from text = drop-drop gap at text ∙ ap (λ k. drop k text) (sym from) in
    opened text at
    ∙ ap (λ k. with_front k (drop gap (drop at text)) go) (sym from)
    ∙ ap (λ bs. with_front v.from bs go) there
    ∙ front_step v.from (drop v.from text) go t n some front
    ∙ ap (λ bs. fun_span t v.from (v.from + n) ∷ go (v.from + n) bs) (drop-drop n v.from text)
    ∙ ap (λ k. fun_span t v.from k ∷ go k (drop k text)) (sym to)
    ∙ ap (λ x. fun_span x v.from v.to ∷ go v.to (drop v.to text)) is

-- what the code finds at the front
pub found_front : (there : List ℕ) (kind : Kind) (n : ℕ) → front_seen there (Some (kind, n)) ≡ fun_token_at there → front_token there ≡ (fun_token_seen kind (take n there) there, n)
found_front there kind n is = ap (λ o. unwrap_or o (bad, length there)) (sym is)

pub bad_front : (there : List ℕ) → None ≡ fun_token_at there → front_token there ≡ (bad, length there)
bad_front there is = ap (λ o. unwrap_or o (bad, length there)) (sym is)
