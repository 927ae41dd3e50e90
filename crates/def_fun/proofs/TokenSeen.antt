-- Each token is found.
use Rattle.std.proofs.Common.{◌≡◌, ℕ, ◌+◌, List, [], ◌∷◌, ◌++◌, length, take, drop, Bool, true, false, not, ◌||◌, ◌&&◌, ◌==◌, cond, Some, None, refl, ap, sym, ◌∙◌, arith, append_assoc, length-append, inl, inr}
use Rattle.std.proofs.lemmas.Bool.{and_parts, or_cases, cond-true, cond-false, ne_eqb, both_ways, not-true, and_left, and_right, eqb-true}
use Rattle.std.proofs.lemmas.Bool.Decides.{nat_tests}
use Rattle.std.proofs.lemmas.List.{take_at, drop_at}
use Rattle.def_term.specs.Text.{is_digit, is_lower, is_upper, is_name_byte, are_name_bytes}
use Rattle.def_text.specs.Tokens.{all_are, stops, ends_form, number, is_printable, IsDigits}
use Rattle.def_text.specs.Scan.{run_len}
use Rattle.def_text.proofs.ByteRuns.{run_all}
use Rattle.def_text.proofs.TokenSound.{same_names}
use Rattle.def_fun.specs.Tokens.{FunToken, full_stop, whole, atom, characters, variable, left_out, after_digits, is_plain_in, is_escape, escape_code, IsWordToken, IsVariable, IsWhole, IsOtherNumber, IsCharacterOf, IsCharacterToken, IsQuotedAtom, IsString, IsFullStop, FunTokenKind, a_symbol, a_word, a_variable, a_number, another_number, a_character, a_quoted_atom, a_string, a_full_stop, IsOfKind, IsFunToken, HasNoFunToken}
use Rattle.def_fun.specs.Scan.{fun_token_at, symbol_at, word_token, number_token, in_quotes_at, quoted_atom, string_token, character_at}
use Rattle.def_fun.proofs.Symbols.{symbol_seen, symbol_text, is_symbol_text, is_no_stop}
use Rattle.def_fun.proofs.Characters.{closes_seen}

apart : (p : ℕ → Bool) (b x : ℕ) → p b ≡ true → p x ≡ false → (b == x) ≡ false
apart p b x h o = ne_eqb b x (λ e. both_ways (p b) (ap p e ∙ o) h)

-- ---- what a first byte leads to

at_lower : (b : ℕ) (bs : List ℕ) → is_lower b ≡ true → fun_token_at (b ∷ bs) ≡ Some (word_token (take (run_len is_name_byte bs + 1) (b ∷ bs)), run_len is_name_byte bs + 1)
at_lower b bs h = cond-true (is_lower b) _ _ h

upper_no_lower : (b : ℕ) → (is_upper b || (b == 95)) ≡ true → is_lower b ≡ false
upper_no_lower b h = grind (arith, nat_tests)

at_upper : (b : ℕ) (bs : List ℕ) → (is_upper b || (b == 95)) ≡ true → fun_token_at (b ∷ bs) ≡ Some (variable (take (run_len is_name_byte bs + 1) (b ∷ bs)), run_len is_name_byte bs + 1)
at_upper b bs h = cond-false (is_lower b) _ _ (upper_no_lower b h) ∙ cond-true (is_upper b || (b == 95)) _ _ h

digit_no_lower : (b : ℕ) → is_digit b ≡ true → is_lower b ≡ false
digit_no_lower b h = grind (arith, nat_tests)

digit_no_upper : (b : ℕ) → is_digit b ≡ true → (is_upper b || (b == 95)) ≡ false
digit_no_upper b h = grind (arith, nat_tests)

at_digit : (b : ℕ) (bs : List ℕ) → is_digit b ≡ true → fun_token_at (b ∷ bs) ≡ number_token (b ∷ bs) (run_len is_digit bs + 1) (after_digits (drop (run_len is_digit bs + 1) (b ∷ bs)))
at_digit b bs h = cond-false (is_lower b) _ _ (digit_no_lower b h) ∙ cond-false (is_upper b || (b == 95)) _ _ (digit_no_upper b h) ∙ cond-true (is_digit b) _ _ h

-- ---- words and variables

-- a run of name bytes, and its length
name_run : (b : ℕ) (s rest : List ℕ) → are_name_bytes s ≡ true → stops is_name_byte rest ≡ true → run_len is_name_byte (s ++ rest) + 1 ≡ length (b ∷ s)
name_run b s rest name over = let same = run_all is_name_byte s rest (sym (same_names s) ∙ name) over in omega (arith, same)

word_seen : (u rest : List ℕ) (t : FunToken) → IsWordToken u rest t → fun_token_at (u ++ rest) ≡ Some (t, length u)
word_seen [] rest t h = absurd (let n = h.name in cc)
word_seen (b ∷ s) rest t h =
    let p = and_parts (is_lower b) (are_name_bytes s) h.name in
    let n = name_run b s rest p.1 h.over in
    at_lower b (s ++ rest) p.0
    ∙ ap (λ k. Some (word_token (take k (b ∷ (s ++ rest))), k)) n
    ∙ ap (λ x. Some (word_token x, length (b ∷ s))) (take_at (b ∷ s) rest (length (b ∷ s)) refl)
    ∙ ap (λ x. Some (x, length (b ∷ s))) (sym h.token)

variable_seen : (u rest : List ℕ) (t : FunToken) → IsVariable u rest t → fun_token_at (u ++ rest) ≡ Some (t, length u)
variable_seen [] rest t h = absurd (let n = h.name in cc)
variable_seen (b ∷ s) rest t h =
    let p = and_parts (is_upper b || (b == 95)) (are_name_bytes s) h.name in
    let n = name_run b s rest p.1 h.over in
    at_upper b (s ++ rest) p.0
    ∙ ap (λ k. Some (variable (take k (b ∷ (s ++ rest))), k)) n
    ∙ ap (λ x. Some (variable x, length (b ∷ s))) (take_at (b ∷ s) rest (length (b ∷ s)) refl)
    ∙ ap (λ x. Some (x, length (b ∷ s))) (sym h.token)

-- ---- numbers

digits_seen : (ds rest : List ℕ) → IsDigits ds → stops is_digit rest ≡ true → fun_token_at (ds ++ rest) ≡ number_token (ds ++ rest) (length ds) (after_digits rest)
digits_seen [] rest ok over = let s = ok.some in absurd (omega (arith, s))
digits_seen (d ∷ ds) rest ok over =
    let p = and_parts (is_digit d) (all_are is_digit ds) ok.all in
    let same = run_all is_digit ds rest p.1 over in
    let n : run_len is_digit (ds ++ rest) + 1 ≡ length (d ∷ ds) = omega (arith, same) in
    at_digit d (ds ++ rest) p.0
    ∙ ap (λ k. number_token (d ∷ (ds ++ rest)) k (after_digits (drop k (d ∷ (ds ++ rest))))) n
    ∙ ap (λ x. number_token (d ∷ (ds ++ rest)) (length (d ∷ ds)) (after_digits x)) (drop_at (d ∷ ds) rest (length (d ∷ ds)) refl)

whole_seen : (u rest : List ℕ) (t : FunToken) → IsWhole u rest t → fun_token_at (u ++ rest) ≡ Some (t, length u)
whole_seen u rest t h =
    digits_seen u rest h.digits h.over
    ∙ ap (number_token (u ++ rest) (length u)) h.alone
    ∙ ap (λ x. Some (whole (number x), length u)) (take_at u rest (length u) refl)
    ∙ ap (λ x. Some (x, length u)) (sym h.token)

other_seen : (u rest : List ℕ) (t : FunToken) → IsOtherNumber u rest t → fun_token_at (u ++ rest) ≡ Some (t, length u)
other_seen u rest t h =
    let ds = h.digits in
    let bs = ds ++ (h.more ++ rest) in
    let split : u ++ rest ≡ bs = ap (λ x. x ++ rest) h.text ∙ append_assoc ds h.more rest in
    ap fun_token_at split
    ∙ digits_seen ds (h.more ++ rest) h.are h.over
    ∙ ap (number_token bs (length ds)) h.named
    ∙ ap (λ n. Some (left_out h.name, n)) (let e = ap length h.text in omega (arith, e, length-append ds h.more))
    ∙ ap (λ x. Some (x, length u)) (sym h.token)

-- ---- characters and quoted texts

plain_at : (c : ℕ) (rest : List ℕ) → is_plain_in 92 c ≡ true → character_at (c ∷ rest) ≡ Some (whole c, 2)
plain_at c [] h = cond-true (is_plain_in 92 c) _ _ h
plain_at c (e ∷ bs) h = cond-true (is_plain_in 92 c) _ _ h

escape_at : (e : ℕ) (rest : List ℕ) → is_escape e ≡ true → character_at (92 ∷ e ∷ rest) ≡ Some (whole (escape_code e), 3)
escape_at e rest h = cond-true (is_escape e) _ _ h

character_is : (body rest : List ℕ) (c : ℕ) → IsCharacterOf 92 body c → character_at (body ++ rest) ≡ Some (whole c, length body + 1)
character_is body rest c (inl h) = ap (λ x. character_at (x ++ rest)) h.0 ∙ plain_at c rest h.1 ∙ ap (λ n. Some (whole c, n)) (let s = ap length h.0 in omega (arith, s))
character_is body rest c (inr h) = ap (λ x. character_at (x ++ rest)) h.1 ∙ escape_at h.0 rest h.2 ∙ ap (λ k. Some (whole k, 3)) (sym h.3) ∙ ap (λ n. Some (whole c, n)) (let s = ap length h.1 in omega (arith, s))

character_seen : (u rest : List ℕ) (t : FunToken) → IsCharacterToken u rest t → fun_token_at (u ++ rest) ≡ Some (t, length u)
character_seen u rest t h =
    ap (λ x. fun_token_at (x ++ rest)) h.text
    ∙ character_is h.body rest h.code h.one
    ∙ ap (λ n. Some (whole h.code, n)) (let s = ap length h.text in omega (arith, s))
    ∙ ap (λ x. Some (x, length u)) (sym h.token)

quoted_seen : (u rest : List ℕ) (t : FunToken) → IsQuotedAtom u rest t → fun_token_at (u ++ rest) ≡ Some (t, length u)
quoted_seen u rest t h =
    let q = h.quoted in
    ap (λ x. fun_token_at (x ++ rest)) q.text
    ∙ ap (λ x. quoted_atom (in_quotes_at 39 false x)) (append_assoc q.body (39 ∷ []) rest)
    ∙ ap quoted_atom (closes_seen 39 h.name q.body rest refl q.are)
    ∙ cond-true (all_are is_printable h.name) (Some (atom h.name, length q.body + 1 + 1)) None h.printable
    ∙ ap (λ n. Some (atom h.name, n)) (let s = ap length q.text in omega (arith, s, length-append q.body (39 ∷ [])))
    ∙ ap (λ x. Some (x, length u)) (sym h.token)

string_seen : (u rest : List ℕ) (t : FunToken) → IsString u rest t → fun_token_at (u ++ rest) ≡ Some (t, length u)
string_seen u rest t h =
    let q = h.quoted in
    let body = q.body in
    let bs = (body ++ 34 ∷ []) ++ rest in
    let n = length body + 1 in
    ap (λ x. fun_token_at (x ++ rest)) q.text
    ∙ ap (λ x. string_token bs (in_quotes_at 34 false x)) (append_assoc body (34 ∷ []) rest)
    ∙ ap (string_token bs) (closes_seen 34 h.codes_of body rest refl q.are)
    ∙ ap (λ x. cond (stops (λ b. b == 34) x) (Some (characters h.codes_of, n + 1)) None) (drop_at (body ++ 34 ∷ []) rest n (length-append body (34 ∷ [])))
    ∙ cond-true (stops (λ b. b == 34) rest) (Some (characters h.codes_of, n + 1)) None h.alone
    ∙ ap (λ m. Some (characters h.codes_of, m)) (let s = ap length q.text in omega (arith, s, length-append body (34 ∷ [])))
    ∙ ap (λ x. Some (x, length u)) (sym h.token)

stop_seen : (u rest : List ℕ) (t : FunToken) → IsFullStop u rest t → fun_token_at (u ++ rest) ≡ Some (t, length u)
stop_seen u rest t h =
    ap (λ x. fun_token_at (x ++ rest)) h.text
    ∙ cond-true (ends_form rest) _ _ h.over
    ∙ ap (λ n. Some (full_stop, n)) (sym (ap length h.text))
    ∙ ap (λ x. Some (x, length u)) (sym h.token)

-- ---- symbols

no_form : (b : ℕ) (bs rest : List ℕ) → is_no_stop b bs ≡ true → ((b == 46) && ends_form (bs ++ rest)) ≡ false
no_form b [] rest h = and_left (b == 46) _ (not-true (b == 46) h)
no_form b (c ∷ bs) rest h =
    elim (or_cases (not (b == 46)) (c == 46) h) [
      | inl e ↦ and_left (b == 46) _ (not-true (b == 46) e)
      | inr e ↦ ap (λ x. (b == 46) && ends_form (x ∷ (bs ++ rest))) (eqb-true c 46 e) ∙ and_right (b == 46) false refl
    ]

at_symbol : (u rest : List ℕ) → is_symbol_text u ≡ true → fun_token_at (u ++ rest) ≡ symbol_at (u ++ rest)
at_symbol [] rest h = absurd (cc)
at_symbol (b ∷ bs) rest h =
    let a = and_parts (not (is_lower b)) _ h in
    let c = and_parts (not (is_upper b || (b == 95))) _ a.1 in
    let d = and_parts (not (is_digit b)) _ c.1 in
    let e = and_parts (not (b == 36)) _ d.1 in
    let f = and_parts (not (b == 39)) _ e.1 in
    let g = and_parts (not (b == 34)) _ f.1 in
    let k = and_parts (is_no_stop b bs) _ g.1 in
    cond-false (is_lower b) _ _ (not-true _ a.0)
    ∙ cond-false (is_upper b || (b == 95)) _ _ (not-true _ c.0)
    ∙ cond-false (is_digit b) _ _ (not-true _ d.0)
    ∙ cond-false (b == 36) _ _ (not-true _ e.0)
    ∙ cond-false (b == 39) _ _ (not-true _ f.0)
    ∙ cond-false (b == 34) _ _ (not-true _ g.0)
    ∙ cond-false ((b == 46) && ends_form (bs ++ rest)) _ _ (no_form b bs rest k.0)

-- ---- all kinds

pub kind_seen : (k : FunTokenKind) (u rest : List ℕ) (t : FunToken) → IsOfKind k u rest t → fun_token_at (u ++ rest) ≡ Some (t, length u)
kind_seen a_symbol u rest t h = at_symbol u rest (symbol_text u t h.row) ∙ symbol_seen u rest t h
kind_seen a_word u rest t h = word_seen u rest t h
kind_seen a_variable u rest t h = variable_seen u rest t h
kind_seen a_number u rest t h = whole_seen u rest t h
kind_seen another_number u rest t h = other_seen u rest t h
kind_seen a_character u rest t h = character_seen u rest t h
kind_seen a_quoted_atom u rest t h = quoted_seen u rest t h
kind_seen a_string u rest t h = string_seen u rest t h
kind_seen a_full_stop u rest t h = stop_seen u rest t h

pub token_seen : (u rest : List ℕ) (t : FunToken) → IsFunToken u rest t → fun_token_at (u ++ rest) ≡ Some (t, length u)
token_seen u rest t h = kind_seen h.0 u rest t h.1

pub no_token : (bytes : List ℕ) → fun_token_at bytes ≡ None → HasNoFunToken bytes
no_token bytes h = λ u rest t split is. let e = ap fun_token_at split in let f = token_seen u rest t is in absurd (cc)
