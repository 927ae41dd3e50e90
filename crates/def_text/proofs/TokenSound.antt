-- What the scanner finds is a token.
use Rattle.std.proofs.Common.{◌≡◌, ℕ, pos, neg_ℤ, ◌+◌, List, [], ◌∷◌, ◌++◌, length, take, drop, true, false, ◌&&◌, ◌==◌, Option, Some, None, flat_map, codes, refl, ap, sym, ◌∙◌, subst, arith, append_assoc, length-append, inl, inr}
use Rattle.std.proofs.lemmas.Bool.{and_parts, and_from, cond_both, eqb-true, eqb-false}
use Rattle.std.proofs.lemmas.List.{take_at, drop_at}
use Rattle.def_term.specs.Text.{is_digit, is_lower, is_name_byte, are_name_bytes, is_among, reserved_words}
use Rattle.def_text.specs.Tokens.{open_brace, close_brace, open_bracket, close_bracket, comma, stop, integer, atom, characters, pid, all_are, ends_form, number, in_quotes, escaped_in, IsDigits, IsBare, IsQuoted}
use Rattle.def_text.specs.Scan.{TokenKind, left_brace, right_brace, left_bracket, right_bracket, separator, full_stop, numeral, bare_atom, quoted_atom, string, process_identifier}
use Rattle.def_text.specs.Scan.{run_len, quoted_end, pid_end, pid_number_end, of_kind, token_at, IsFound}
use Rattle.def_text.proofs.ByteRuns.{run_parts}
use Rattle.def_text.proofs.Quotes.{IsQuote, Closes, ClosesAt, closed}
use Rattle.def_text.proofs.Pids.{PidEnds, PidAt, pid_sound}

pub record Cut (bytes : List ℕ) (k : TokenKind) (n : ℕ) : Type 0 where
  pub token : List ℕ
  pub rest : List ℕ
  pub split : bytes ≡ token ++ rest
  pub len : n ≡ length token
  pub found : IsFound k token rest

abbrev pub SoundAt : List ℕ → Option (TokenKind × ℕ) → Type 0
SoundAt bytes None = Unit {0}
SoundAt bytes (Some p) = Cut bytes p.0 p.1

pub single_quote : IsQuote 39
single_quote = record { other = refl; printable = refl }

pub double_quote : IsQuote 34
double_quote = record { other = refl; printable = refl }

literal : (b x : ℕ) (bs : List ℕ) (k : TokenKind) → (b == x) ≡ true → IsFound k (x ∷ []) bs → SoundAt (b ∷ bs) (Some (k, 1))
literal b x bs k h f = record { token = x ∷ []; rest = bs; split = ap (λ y. y ∷ bs) (eqb-true b x h); len = refl; found = f }

sound_digits : (b : ℕ) (bs : List ℕ) → is_digit b ≡ true → SoundAt (b ∷ bs) (Some (numeral, run_len is_digit bs + 1))
sound_digits b bs h =
    let r = run_parts is_digit bs in
    let len = r.len in
    let ds = b ∷ r.front in
    let ok : IsDigits ds = record { some = omega arith; all = and_from (is_digit b) (all_are is_digit r.front) h r.all } in
    record { token = ds; rest = r.rest; split = ap (λ xs. b ∷ xs) r.split; len = omega (arith, len); found = (integer (pos (number ds)), (r.over, inl (ok, refl)), (pos (number ds), refl)) }

sound_minus : (b : ℕ) (bs : List ℕ) → (b == 45) ≡ true → (run_len is_digit bs == 0) ≡ false → SoundAt (b ∷ bs) (Some (numeral, run_len is_digit bs + 1))
sound_minus b bs is h =
    let r = run_parts is_digit bs in
    let len = r.len in
    let ds = r.front in
    let other = eqb-false (run_len is_digit bs) 0 h in
    let ok : IsDigits ds = record { some = omega (arith, len, other); all = r.all } in
    let n = neg_ℤ (pos (number ds)) in
    record { token = 45 ∷ ds; rest = r.rest; split = ap (λ xs. b ∷ xs) r.split ∙ ap (λ x. x ∷ (ds ++ r.rest)) (eqb-true b 45 is); len = omega (arith, len); found = (integer n, (r.over, inr (ds, refl, ok, refl)), (n, refl)) }

pub same_names : (bs : List ℕ) → are_name_bytes bs ≡ all_are is_name_byte bs
same_names [] = refl
same_names (b ∷ bs) = ap (λ c. is_name_byte b && c) (same_names bs)

sound_bare : (b : ℕ) (bs : List ℕ) → is_lower b ≡ true → is_among reserved_words (take (run_len is_name_byte bs + 1) (b ∷ bs)) ≡ false → SoundAt (b ∷ bs) (Some (bare_atom, run_len is_name_byte bs + 1))
sound_bare b bs low free =
    let r = run_parts is_name_byte bs in
    let len = r.len in
    let s = b ∷ r.front in
    let split : b ∷ bs ≡ s ++ r.rest = ap (λ xs. b ∷ xs) r.split in
    let n = run_len is_name_byte bs + 1 in
    let long : length s ≡ n = omega (arith, len) in
    let word : take n (b ∷ bs) ≡ s = ap (take n) split ∙ take_at s r.rest n long in
    let is_bare : IsBare s r.rest s = record { text = refl; name = and_from (is_lower b) (are_name_bytes r.front) low (same_names r.front ∙ r.all); whole = r.over; free = subst (λ x. is_among reserved_words x ≡ false) word free } in
    record { token = s; rest = r.rest; split = split; len = sym long; found = (atom s, inl is_bare, (s, refl, is_bare)) }

quote_cut : (q b : ℕ) (bs : List ℕ) (n : ℕ) → (b == q) ≡ true → Closes q 0 bs n → (s : List ℕ) × (u : List ℕ) × (rest : List ℕ) × (b ∷ bs ≡ u ++ rest) × (n + 1 ≡ length u) × IsQuoted q u s
quote_cut q b bs n is h =
    let body = flat_map (escaped_in q) h.body in
    let len = h.len in (
      h.body,
      in_quotes q h.body,
      h.rest,
      ap (λ x. x ∷ bs) (eqb-true b q is) ∙ ap (λ xs. q ∷ xs) (h.split ∙ sym (append_assoc body (q ∷ []) h.rest)),
      omega (arith, len, length-append body (q ∷ [])),
      record { text = refl; printable = h.printable },
    )

sound_atom : (b : ℕ) (bs : List ℕ) (o : Option ℕ) → (b == 39) ≡ true → ClosesAt 39 0 bs o → SoundAt (b ∷ bs) (of_kind quoted_atom o)
sound_atom b bs None is h = tt
sound_atom b bs (Some n) is h = let c = quote_cut 39 b bs n is h in record { token = c.1; rest = c.2; split = c.3; len = c.4; found = (atom c.0, inr c.5, (c.0, refl, c.5)) }

sound_characters : (b : ℕ) (bs : List ℕ) (o : Option ℕ) → (b == 34) ≡ true → ClosesAt 34 0 bs o → SoundAt (b ∷ bs) (of_kind string o)
sound_characters b bs None is h = tt
sound_characters b bs (Some n) is h = let c = quote_cut 34 b bs n is h in record { token = c.1; rest = c.2; split = c.3; len = c.4; found = (characters c.0, c.5, (c.0, refl)) }

abbrev PidAfter : List ℕ → Option ℕ → Type 0
PidAfter bs None = Unit {0}
PidAfter bs (Some m) = (xs : List ℕ) × (bs ≡ 48 ∷ 46 ∷ xs) × PidEnds xs m

pid_after : (bs : List ℕ) (o : Option ℕ) (a b : ℕ) → (a == 48) ≡ true → (b == 46) ≡ true → PidAt bs o → PidAfter (a ∷ b ∷ bs) o
pid_after bs None a b ah bh h = tt
pid_after bs (Some m) a b ah bh h = let a_is = eqb-true a 48 ah in let b_is = eqb-true b 46 bh in (bs, cc, h)

pid_end_sound : (bs : List ℕ) → PidAfter bs (pid_end bs)
pid_end_sound [] = tt
pid_end_sound (a ∷ []) = tt
pid_end_sound (a ∷ b ∷ bs) =
    cond_both ((a == 48) && (b == 46)) (pid_number_end bs) None (PidAfter (a ∷ b ∷ bs)) (λ h. let parts = and_parts (a == 48) (b == 46) h in pid_after bs (pid_number_end bs) a b parts.0 parts.1 (pid_sound bs)) (λ _. tt)

sound_pid : (b : ℕ) (bs : List ℕ) (o : Option ℕ) → (b == 60) ≡ true → PidAfter bs o → SoundAt (b ∷ bs) (of_kind process_identifier o)
sound_pid b bs None is h = tt
sound_pid b bs (Some m) is (xs, behind, e) =
    let ds = e.digits in
    let len = e.len in
    let u = codes "<0." ++ ds ++ codes ".0>" in
    record {
      token = u;
      rest = e.rest;
      split = ap (λ x. x ∷ bs) (eqb-true b 60 is) ∙ ap (λ ys. 60 ∷ ys) (behind ∙ ap (λ ys. 48 ∷ 46 ∷ ys) (e.split ∙ sym (append_assoc ds (codes ".0>") e.rest)));
      len = omega (arith, len, length-append ds (codes ".0>"));
      found = (pid (number ds), (ds, record { text = refl; digits = e.all; plain = e.plain; value = refl }), (number ds, refl));
    }

pub sound : (bytes : List ℕ) → SoundAt bytes (token_at bytes)
sound [] = tt
sound (b ∷ bs) =
    let P = SoundAt (b ∷ bs) in
    cond_both (b == 123) _ _ P (λ h. literal b 123 bs left_brace h (open_brace, refl, refl))
    (λ _. cond_both (b == 125) _ _ P (λ h. literal b 125 bs right_brace h (close_brace, refl, refl))
    (λ _. cond_both (b == 91) _ _ P (λ h. literal b 91 bs left_bracket h (open_bracket, refl, refl))
    (λ _. cond_both (b == 93) _ _ P (λ h. literal b 93 bs right_bracket h (close_bracket, refl, refl))
    (λ _. cond_both (b == 44) _ _ P (λ h. literal b 44 bs separator h (comma, refl, refl))
    (λ _. cond_both (b == 46) _ _ P (λ h. cond_both (ends_form bs) _ _ P (λ e. literal b 46 bs full_stop h (stop, (refl, e), refl)) (λ _. tt))
    (λ _. cond_both (b == 45) _ _ P (λ h. cond_both (run_len is_digit bs == 0) _ _ P (λ _. tt) (λ e. sound_minus b bs h e))
    (λ _. cond_both (is_digit b) _ _ P (λ h. sound_digits b bs h)
    (λ _. cond_both (is_lower b) _ _ P (λ h. cond_both (is_among reserved_words (take (run_len is_name_byte bs + 1) (b ∷ bs))) _ _ P (λ _. tt) (λ e. sound_bare b bs h e))
    (λ _. cond_both (b == 39) _ _ P (λ h. sound_atom b bs (quoted_end 39 false 0 bs) h (closed 39 0 bs single_quote))
    (λ _. cond_both (b == 34) _ _ P (λ h. sound_characters b bs (quoted_end 34 false 0 bs) h (closed 34 0 bs double_quote))
    (λ _. cond_both (b == 60) _ _ P (λ h. sound_pid b bs (pid_end bs) h (pid_end_sound bs))
    (λ _. tt))))))))))))

-- in terms of the length
pub found_at : (bytes : List ℕ) (k : TokenKind) (n : ℕ) → Cut bytes k n → IsFound k (take n bytes) (drop n bytes)
found_at bytes k n c =
    let front : take n bytes ≡ c.token = ap (take n) c.split ∙ take_at c.token c.rest n (sym c.len) in
    let back : drop n bytes ≡ c.rest = ap (drop n) c.split ∙ drop_at c.token c.rest n (sym c.len) in
    subst (λ u. IsFound k u (drop n bytes)) (sym front) (subst (λ r. IsFound k c.token r) (sym back) c.found)
