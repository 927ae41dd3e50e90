-- The tokens after full stops.
use Rattle.std.proofs.Common.{◌≡◌, ℕ, zero, suc, ◌+◌, ◌-◌, ◌≤◌, cond, Bool, true, false, List, [], ◌∷◌, length, inl, inr, refl, ap, sym, ◌∙◌, arith}
use Rattle.def_text.specs.Tokens.{TokenSpan}
use Rattle.def_text.specs.Spelling.{offset_of}
use Rattle.def_text.proofs.Unique.{same_tokens}
use Rattle.def_text.specs.Forms.{is_stop, full_stops, after_stops, EndsForm, IsAfterStops}
use Rattle.def_text.specs.PlaceLaws.{FormIsAfterStops, FormOffsetIsOne}

pub offset_is_one : FormOffsetIsOne
offset_is_one bytes n a b f g =
    f.offset ∙ ap (λ xs. offset_of (length bytes) (after_stops (n - 1) xs)) (same_tokens 0 bytes f.tokens g.tokens f.are g.are) ∙ sym g.offset

-- a token before others, which ends a form or is of the first of them
ends-more : (x : TokenSpan) (front : List TokenSpan) → EndsForm front → is_stop x.token ≡ true → EndsForm (x ∷ front)
ends-more x front (inl e) is = inr ([], x, ap (λ l. x ∷ l) e, is)
ends-more x front (inr w) is = inr (x ∷ w.0, w.1, ap (λ l. x ∷ l) w.2, w.3)

ends-within : (x : TokenSpan) (front : List TokenSpan) (n : ℕ) → EndsForm front → full_stops front ≡ suc n → EndsForm (x ∷ front)
ends-within x front n (inl e) is = absurd (let none : full_stops front ≡ 0 = ap full_stops e in omega arith)
ends-within x front n (inr w) is = inr (x ∷ w.0, w.1, ap (λ l. x ∷ l) w.2, w.3)

with-stop : (n : ℕ) (x : TokenSpan) (xs rest : List TokenSpan) → is_stop x.token ≡ true → IsAfterStops n xs rest → IsAfterStops (suc n) (x ∷ xs) rest
with-stop n x xs rest is b = record {
  front = x ∷ b.front;
  split = ap (λ l. x ∷ l) b.split;
  count = ap (λ t. cond t (full_stops b.front + 1) (full_stops b.front)) is ∙ (let e = b.count in omega arith);
  ends = ends-more x b.front b.ends is;
}

with-other : (n : ℕ) (x : TokenSpan) (xs rest : List TokenSpan) → is_stop x.token ≡ false → IsAfterStops (suc n) xs rest → IsAfterStops (suc n) (x ∷ xs) rest
with-other n x xs rest is b = record {
  front = x ∷ b.front;
  split = ap (λ l. x ∷ l) b.split;
  count = ap (λ t. cond t (full_stops b.front + 1) (full_stops b.front)) is ∙ b.count;
  ends = ends-within x b.front n b.ends b.count;
}

by-token : (n : ℕ) (x : TokenSpan) (xs : List TokenSpan) (t : Bool) → is_stop x.token ≡ t → suc n ≤ cond t (full_stops xs + 1) (full_stops xs)
    → (n ≤ full_stops xs → IsAfterStops n xs (after_stops n xs)) → (suc n ≤ full_stops xs → IsAfterStops (suc n) xs (after_stops (suc n) xs))
    → IsAfterStops (suc n) (x ∷ xs) (cond t (after_stops n xs) (after_stops (suc n) xs))
by-token n x xs true is most here later = with-stop n x xs (after_stops n xs) is (here (omega arith))
by-token n x xs false is most here later = with-other n x xs (after_stops (suc n) xs) is (later most)

pub after_are : FormIsAfterStops
after_are zero xs most = record { front = []; split = refl; count = refl; ends = inl refl }
after_are (suc n) [] most = absurd (omega arith)
after_are (suc n) (x ∷ xs) most = by-token n x xs (is_stop x.token) refl most (λ h. after_are n xs h) (λ h. after_are (suc n) xs h)
