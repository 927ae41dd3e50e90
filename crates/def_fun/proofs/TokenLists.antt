-- The tokens that are listed are those of the text.
use Rattle.std.proofs.Common.{◌≡◌, ℕ, zero, suc, ◌+◌, ◌<◌, List, [], ◌∷◌, ◌++◌, length, drop, false, Option, Some, None, refl, ap, sym, ◌∙◌, subst, arith, append-nil, length-append, length-drop, inl, inr}
use Rattle.std.proofs.lemmas.List.{drop_at}
use Rattle.std.specs.Option.{unwrap_or}
use Rattle.def_text.specs.Tokens.{gap_len}
use Rattle.def_fun.specs.Spans.{SpansFrom, IsNextOf}
use Rattle.def_fun.specs.Tokens.{FunToken, bad, FunStands, FunSpan, FunTokens}
use Rattle.def_fun.specs.Scan.{fun_token_at, front_token, fun_span, with_front, spans_within, fun_spans}
use Rattle.def_fun.proofs.TokenSeen.{no_token}
use Rattle.def_fun.proofs.TokenSound.{FunSoundAt, fun_sound, some_stand}

-- the token in front, its bytes and the rest
record Front (bytes : List ℕ) (t : FunToken) (n : ℕ) : Type 0 where
  pub text : List ℕ
  pub rest : List ℕ
  pub split : bytes ≡ text ++ rest
  pub len : n ≡ length text
  pub stands : FunStands text rest t

front_by : (b : ℕ) (bs : List ℕ) (o : Option (FunToken × ℕ)) → fun_token_at (b ∷ bs) ≡ o → FunSoundAt (b ∷ bs) o → Front (b ∷ bs) (unwrap_or o (bad, length (b ∷ bs))).0 (unwrap_or o (bad, length (b ∷ bs))).1
front_by b bs None is h = record { text = b ∷ bs; rest = []; split = sym (append-nil (b ∷ bs)); len = refl; stands = inr (record { last = refl; some = omega arith; none_there = no_token (b ∷ bs) is; token = refl }) }
front_by b bs (Some p) is h = record { text = h.text; rest = h.rest; split = h.split; len = h.len; stands = inl h.found }

-- the rest of the tokens
abbrev Go : Type 0
Go = ℕ → List ℕ → List FunSpan

listed_there : (at : ℕ) (bytes there : List ℕ) (go : Go) → drop (gap_len false bytes) bytes ≡ there → ((next : ℕ) (rest : List ℕ) → length rest < length there → SpansFrom FunToken FunStands next rest (go next rest)) → SpansFrom FunToken FunStands at bytes (with_front (at + gap_len false bytes) there go)
listed_there at bytes [] go is later = is
listed_there at bytes (b ∷ bs) go is later =
    let f = front_by b bs (fun_token_at (b ∷ bs)) refl (fun_sound (b ∷ bs)) in
    let n = (front_token (b ∷ bs)).1 in
    let from = at + gap_len false bytes in
    let size = ap length f.split in
    let some = some_stand f.text f.rest (front_token (b ∷ bs)).0 f.stands in
    let rest : f.rest ≡ drop n (b ∷ bs) = sym (ap (drop n) f.split ∙ drop_at f.text f.rest n (sym f.len)) in
    let len = f.len in
    let next : IsNextOf FunToken FunStands at bytes f.text f.rest (fun_span (front_token (b ∷ bs)).0 from (from + n)) = record { split = is ∙ f.split; from = refl; to = omega (arith, len); stands = f.stands } in
    let less : length f.rest < length (b ∷ bs) = omega (arith, size, some, length-append f.text f.rest) in
    (f.text, f.rest, next, subst (λ r. SpansFrom FunToken FunStands (from + n) f.rest (go (from + n) r)) rest (later (from + n) f.rest less))

listed_within : (size at : ℕ) (bytes : List ℕ) → length bytes < size → SpansFrom FunToken FunStands at bytes (spans_within size at bytes)
listed_within zero at bytes h = absurd (omega (arith, h))
listed_within (suc size) at bytes h =
    let n = gap_len false bytes in
    listed_there at bytes (drop n bytes) (λ next rest. spans_within size next rest) refl (λ next rest fewer. listed_within size next rest (omega (arith, h, fewer, length-drop n bytes)))

pub listed_are : (bytes : List ℕ) → FunTokens bytes (fun_spans bytes)
listed_are bytes = listed_within (length bytes + 1) 0 bytes (omega arith)
