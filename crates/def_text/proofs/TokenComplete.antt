-- Each token is found.
use Rattle.std.proofs.Common.{◌≡◌, ℕ, ◌+◌, List, [], ◌∷◌, ◌++◌, length, take, Bool, true, false, ◌==◌, Some, None, flat_map, codes, refl, ap, sym, ◌∙◌, subst, arith, append_assoc, length-append, inl, inr}
use Rattle.std.proofs.lemmas.Bool.{and_parts, cond-true, cond-false, ne_eqb, both_ways}
use Rattle.std.proofs.lemmas.Bool.Decides.{nat_tests}
use Rattle.std.proofs.lemmas.List.{take_at}
use Rattle.def_term.specs.Text.{is_digit, is_lower, is_name, is_name_byte, are_name_bytes, is_among, reserved_words}
use Rattle.def_text.specs.Tokens.{open_brace, close_brace, open_bracket, close_bracket, comma, stop, integer, atom, characters, pid, bad, all_are, stops, ends_form, number, in_quotes, escaped_in, is_printable, IsDigits, Token, IsToken, IsPid, HasNoToken}
use Rattle.def_text.specs.Scan.{TokenKind, left_brace, right_brace, left_bracket, right_bracket, separator, full_stop, numeral, bare_atom, quoted_atom, string, process_identifier}
use Rattle.def_text.specs.Scan.{run_len, quoted_end, pid_number_end, of_kind, token_at, IsTokenOf}
use Rattle.def_text.proofs.ByteRuns.{run_all}
use Rattle.def_text.proofs.Quotes.{IsQuote, closes_at}
use Rattle.def_text.proofs.Pids.{pid_closes}
use Rattle.def_text.proofs.TokenSound.{single_quote, double_quote, same_names}

-- the bytes of a token, as the scanner sees them
abbrev pub Seen : List ℕ → List ℕ → Token → Type 0
Seen u rest t = (k : TokenKind) × IsTokenOf k u rest t × (token_at (u ++ rest) ≡ Some (k, length u))

starts_digit : (b : ℕ) (bs : List ℕ) → is_digit b ≡ true → token_at (b ∷ bs) ≡ Some (numeral, run_len is_digit bs + 1)
starts_digit b bs h = grind (arith, nat_tests)

apart : (p : ℕ → Bool) (b x : ℕ) → p b ≡ true → p x ≡ false → (b == x) ≡ false
apart p b x h o = ne_eqb b x (λ e. both_ways (p b) (ap p e ∙ o) h)

no_digit : (b : ℕ) → is_lower b ≡ true → is_digit b ≡ false
no_digit b h = grind (arith, nat_tests)

starts_lower : (b : ℕ) (bs : List ℕ) → is_lower b ≡ true → is_among reserved_words (take (run_len is_name_byte bs + 1) (b ∷ bs)) ≡ false → token_at (b ∷ bs) ≡ Some (bare_atom, run_len is_name_byte bs + 1)
starts_lower b bs h free =
    cond-false (b == 123) _ _ (apart is_lower b 123 h refl)
    ∙ cond-false (b == 125) _ _ (apart is_lower b 125 h refl)
    ∙ cond-false (b == 91) _ _ (apart is_lower b 91 h refl)
    ∙ cond-false (b == 93) _ _ (apart is_lower b 93 h refl)
    ∙ cond-false (b == 44) _ _ (apart is_lower b 44 h refl)
    ∙ cond-false (b == 46) _ _ (apart is_lower b 46 h refl)
    ∙ cond-false (b == 45) _ _ (apart is_lower b 45 h refl)
    ∙ cond-false (is_digit b) _ _ (no_digit b h)
    ∙ cond-true (is_lower b) _ _ h
    ∙ cond-false (is_among reserved_words (take (run_len is_name_byte bs + 1) (b ∷ bs))) None (Some (bare_atom, run_len is_name_byte bs + 1)) free

seen_digits : (ds rest : List ℕ) → IsDigits ds → stops is_digit rest ≡ true → token_at (ds ++ rest) ≡ Some (numeral, length ds)
seen_digits [] rest ok over = let s = ok.some in absurd (omega (arith, s))
seen_digits (d ∷ ds) rest ok over =
    let parts = and_parts (is_digit d) (all_are is_digit ds) ok.all in
    let same = run_all is_digit ds rest parts.1 over in
    starts_digit d (ds ++ rest) parts.0 ∙ ap (λ n. Some (numeral, n)) (let e : run_len is_digit (ds ++ rest) + 1 ≡ length (d ∷ ds) = omega (arith, same) in e)

seen_minus : (ds rest : List ℕ) → IsDigits ds → stops is_digit rest ≡ true → token_at (45 ∷ (ds ++ rest)) ≡ Some (numeral, length (45 ∷ ds))
seen_minus ds rest ok over =
    let same = run_all is_digit ds rest ok.all over in
    let some = ok.some in
    cond-false (run_len is_digit (ds ++ rest) == 0) None (Some (numeral, run_len is_digit (ds ++ rest) + 1)) (ne_eqb _ 0 (λ e. omega (arith, same, some, e)))
    ∙ ap (λ n. Some (numeral, n)) (let e : run_len is_digit (ds ++ rest) + 1 ≡ length (45 ∷ ds) = omega (arith, same) in e)

seen_bare : (s rest : List ℕ) → is_name s ≡ true → stops is_name_byte rest ≡ true → is_among reserved_words s ≡ false → token_at (s ++ rest) ≡ Some (bare_atom, length s)
seen_bare [] rest name over free = absurd (cc)
seen_bare (b ∷ s) rest name over free =
    let parts = and_parts (is_lower b) (are_name_bytes s) name in
    let same = run_all is_name_byte s rest (sym (same_names s) ∙ parts.1) over in
    let n = run_len is_name_byte (s ++ rest) + 1 in
    let long : length (b ∷ s) ≡ n = omega (arith, same) in
    starts_lower b (s ++ rest) parts.0 (subst (λ x. is_among reserved_words x ≡ false) (sym (take_at (b ∷ s) rest n long)) free) ∙ ap (λ m. Some (bare_atom, m)) (sym long)

quote_end : (q : ℕ) (s rest : List ℕ) → IsQuote q → all_are is_printable s ≡ true → quoted_end q false 0 ((flat_map (escaped_in q) s ++ q ∷ []) ++ rest) ≡ Some (length (flat_map (escaped_in q) s ++ q ∷ []))
quote_end q s rest ok pr =
    let body = flat_map (escaped_in q) s in
    ap (quoted_end q false 0) (append_assoc body (q ∷ []) rest) ∙ closes_at q 0 s rest ok pr ∙ ap (λ n. Some n) (omega (arith, length-append body (q ∷ [])))

seen_atom : (s rest : List ℕ) → all_are is_printable s ≡ true → token_at (in_quotes 39 s ++ rest) ≡ Some (quoted_atom, length (in_quotes 39 s))
seen_atom s rest pr = ap (of_kind quoted_atom) (quote_end 39 s rest single_quote pr) ∙ ap (λ n. Some (quoted_atom, n)) (omega arith)

seen_characters : (s rest : List ℕ) → all_are is_printable s ≡ true → token_at (in_quotes 34 s ++ rest) ≡ Some (string, length (in_quotes 34 s))
seen_characters s rest pr = ap (of_kind string) (quote_end 34 s rest double_quote pr) ∙ ap (λ n. Some (string, n)) (omega arith)

seen_pid : (ds rest : List ℕ) → IsPid (codes "<0." ++ ds ++ codes ".0>") ds (number ds) → token_at ((codes "<0." ++ ds ++ codes ".0>") ++ rest) ≡ Some (process_identifier, length (codes "<0." ++ ds ++ codes ".0>"))
seen_pid ds rest h =
    ap (λ xs. of_kind process_identifier (pid_number_end xs)) (append_assoc ds (codes ".0>") rest)
    ∙ ap (of_kind process_identifier) (pid_closes ds rest h.digits h.plain)
    ∙ ap (λ n. Some (process_identifier, n)) (omega (arith, length-append ds (codes ".0>")))

at_text : (u v rest : List ℕ) (k : TokenKind) → u ≡ v → token_at (v ++ rest) ≡ Some (k, length v) → token_at (u ++ rest) ≡ Some (k, length u)
at_text u v rest k e h = subst (λ x. token_at (x ++ rest) ≡ Some (k, length x)) (sym e) h

pub seen : (u rest : List ℕ) (t : Token) → IsToken u rest t → Seen u rest t
seen u rest open_brace h = (left_brace, refl, at_text u _ rest left_brace h refl)
seen u rest close_brace h = (right_brace, refl, at_text u _ rest right_brace h refl)
seen u rest open_bracket h = (left_bracket, refl, at_text u _ rest left_bracket h refl)
seen u rest close_bracket h = (right_bracket, refl, at_text u _ rest right_bracket h refl)
seen u rest comma h = (separator, refl, at_text u _ rest separator h refl)
seen u rest stop h = (full_stop, refl, at_text u _ rest full_stop h.0 (cond-true (ends_form rest) (Some (full_stop, 1)) None h.1))
seen u rest (integer n) (over, inl h) = (numeral, (n, refl), seen_digits u rest h.0 over)
seen u rest (integer n) (over, inr h) = (numeral, (n, refl), at_text u _ rest numeral h.1 (seen_minus h.0 rest h.2 over))
seen u rest (atom s) (inl h) = (bare_atom, (s, refl, h), at_text u s rest bare_atom h.text (seen_bare s rest h.name h.whole h.free))
seen u rest (atom s) (inr h) = (quoted_atom, (s, refl, h), at_text u _ rest quoted_atom h.text (seen_atom s rest h.printable))
seen u rest (characters s) h = (string, (s, refl), at_text u _ rest string h.text (seen_characters s rest h.printable))
seen u rest (pid n) (ds, h) = (process_identifier, (n, refl), at_text u _ rest process_identifier h.text (seen_pid ds rest (record { text = refl; digits = h.digits; plain = h.plain; value = refl })))
seen u rest bad h = absurd h

pub none_there : (bytes : List ℕ) → token_at bytes ≡ None → HasNoToken bytes
none_there bytes h = λ u rest t split is. let s = seen u rest t is in let e = ap token_at split in let f = s.2 in cc
