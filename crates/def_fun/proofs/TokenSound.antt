-- What is found is a token; so a text has one list of tokens.
use Rattle.std.proofs.Common.{◌≡◌, ℕ, ◌+◌, ◌<◌, ◌≤◌, List, [], ◌∷◌, ◌++◌, length, take, drop, true, false, ◌||◌, ◌&&◌, ◌==◌, Option, Some, None, refl, ap, sym, ◌∙◌, subst, arith, append_assoc, append-nil, length-append, inl, inr}
use Rattle.std.proofs.lemmas.Bool.{and_parts, and_from, cond_both, eqb-true}
use Rattle.std.proofs.lemmas.List.{take_at, drop_at, take-append-drop, length-take-le}
use Rattle.def_term.specs.Names.{Name}
use Rattle.def_term.specs.Text.{is_digit, is_lower, is_upper, is_name_byte, are_name_bytes}
use Rattle.def_text.specs.Tokens.{all_are, stops, ends_form, number, is_printable, IsDigits}
use Rattle.def_text.specs.Scan.{run_len}
use Rattle.def_text.proofs.ByteRuns.{run_parts}
use Rattle.def_text.proofs.TokenSound.{same_names}
use Rattle.def_fun.proofs.Spans.{AreDetermined, same_spans, spans_exist}
use Rattle.def_fun.specs.Tokens.{FunToken, full_stop, whole, variable, bad, after_digits, is_plain_in, is_escape, escape_code, IsInQuotes, a_symbol, a_word, a_variable, a_number, another_number, a_character, a_quoted_atom, a_string, a_full_stop, IsFunToken, FunStands, FunSpan, FunTokens}
use Rattle.def_fun.specs.Scan.{fun_token_at, symbol_at, word_token, number_token, in_quotes_at, quoted_atom, string_token, character_at}
use Rattle.def_fun.proofs.Symbols.{SymbolAt, symbol_sound, symbol_length}
use Rattle.def_fun.proofs.Characters.{QuoteCloses, QuoteAt, quote_sound}
use Rattle.def_fun.proofs.TokenSeen.{token_seen, no_token}

pub record FunCut (bytes : List ℕ) (t : FunToken) (n : ℕ) : Type 0 where
  pub text : List ℕ
  pub rest : List ℕ
  pub split : bytes ≡ text ++ rest
  pub len : n ≡ length text
  pub found : IsFunToken text rest t

abbrev pub FunSoundAt : List ℕ → Option (FunToken × ℕ) → Type 0
FunSoundAt bytes None = Unit {0}
FunSoundAt bytes (Some p) = FunCut bytes p.0 p.1

-- ---- words and variables

word_sound : (b : ℕ) (bs : List ℕ) → is_lower b ≡ true → FunSoundAt (b ∷ bs) (Some (word_token (take (run_len is_name_byte bs + 1) (b ∷ bs)), run_len is_name_byte bs + 1))
word_sound b bs low =
    let r = run_parts is_name_byte bs in
    let len = r.len in
    let s = b ∷ r.front in
    let n = run_len is_name_byte bs + 1 in
    let split : b ∷ bs ≡ s ++ r.rest = ap (λ xs. b ∷ xs) r.split in
    let long : length s ≡ n = omega (arith, len) in
    let word : take n (b ∷ bs) ≡ s = ap (take n) split ∙ take_at s r.rest n long in
    record { text = s; rest = r.rest; split = split; len = sym long; found = (a_word, record { name = and_from (is_lower b) (are_name_bytes r.front) low (same_names r.front ∙ r.all); over = r.over; token = ap word_token word }) }

variable_sound : (b : ℕ) (bs : List ℕ) → (is_upper b || (b == 95)) ≡ true → FunSoundAt (b ∷ bs) (Some (variable (take (run_len is_name_byte bs + 1) (b ∷ bs)), run_len is_name_byte bs + 1))
variable_sound b bs high =
    let r = run_parts is_name_byte bs in
    let len = r.len in
    let s = b ∷ r.front in
    let n = run_len is_name_byte bs + 1 in
    let split : b ∷ bs ≡ s ++ r.rest = ap (λ xs. b ∷ xs) r.split in
    let long : length s ≡ n = omega (arith, len) in
    let word : take n (b ∷ bs) ≡ s = ap (take n) split ∙ take_at s r.rest n long in
    record { text = s; rest = r.rest; split = split; len = sym long; found = (a_variable, record { name = and_from (is_upper b || (b == 95)) (are_name_bytes r.front) high (same_names r.front ∙ r.all); over = r.over; token = ap variable word }) }

-- ---- numbers

-- what goes on with digits is there
abbrev GoesOn : List ℕ → Option (Name × ℕ) → Type 0
GoesOn bs None = Unit {0}
GoesOn bs (Some m) = m.1 ≤ length bs

goes_on : (bs : List ℕ) → GoesOn bs (after_digits bs)
goes_on [] = tt
goes_on (b ∷ []) = cond_both (b == 35) _ _ (GoesOn (b ∷ [])) (λ _. omega arith) (λ _. tt)
goes_on (b ∷ d ∷ bs) =
    cond_both (b == 35) _ _ (GoesOn (b ∷ d ∷ bs)) (λ _. omega arith)
    (λ _. cond_both ((b == 46) && is_digit d) _ _ (GoesOn (b ∷ d ∷ bs)) (λ _. omega arith)
    (λ _. cond_both ((b == 95) && is_digit d) _ _ (GoesOn (b ∷ d ∷ bs)) (λ _. omega arith) (λ _. tt)))

number_by : (ds rest bytes : List ℕ) (n : ℕ) (o : Option (Name × ℕ)) → bytes ≡ ds ++ rest → n ≡ length ds → IsDigits ds → stops is_digit rest ≡ true → after_digits rest ≡ o → GoesOn rest o → FunSoundAt bytes (number_token bytes n o)
number_by ds rest bytes n None split len ok over e h =
    let front : take n bytes ≡ ds = ap (take n) split ∙ take_at ds rest n (sym len) in
    record { text = ds; rest = rest; split = split; len = len; found = (a_number, record { digits = ok; over = over; alone = e; token = ap (λ x. whole (number x)) front }) }
number_by ds rest bytes n (Some m) split len ok over e h =
    let more = take m.1 rest in
    let later = drop m.1 rest in
    let whole_rest : more ++ later ≡ rest = take-append-drop m.1 rest in
    let long : length more ≡ m.1 = length-take-le m.1 rest h in
    record {
      text = ds ++ more;
      rest = later;
      split = split ∙ ap (λ x. ds ++ x) (sym whole_rest) ∙ sym (append_assoc ds more later);
      len = omega (arith, len, long, length-append ds more);
      found = (
        another_number,
        record {
          digits = ds;
          more = more;
          text = refl;
          are = ok;
          over = ap (stops is_digit) whole_rest ∙ over;
          name = m.0;
          named = ap after_digits whole_rest ∙ e ∙ ap (λ k. Some (m.0, k)) (sym long);
          token = refl;
        },
      );
    }

number_sound : (b : ℕ) (bs : List ℕ) → is_digit b ≡ true → FunSoundAt (b ∷ bs) (number_token (b ∷ bs) (run_len is_digit bs + 1) (after_digits (drop (run_len is_digit bs + 1) (b ∷ bs))))
number_sound b bs h =
    let r = run_parts is_digit bs in
    let len = r.len in
    let ds = b ∷ r.front in
    let n = run_len is_digit bs + 1 in
    let split : b ∷ bs ≡ ds ++ r.rest = ap (λ xs. b ∷ xs) r.split in
    let long : n ≡ length ds = omega (arith, len) in
    let ok : IsDigits ds = record { some = omega arith; all = and_from (is_digit b) (all_are is_digit r.front) h r.all } in
    let later : drop n (b ∷ bs) ≡ r.rest = ap (drop n) split ∙ drop_at ds r.rest n (sym long) in
    subst (λ x. FunSoundAt (b ∷ bs) (number_token (b ∷ bs) n (after_digits x))) (sym later) (number_by ds r.rest (b ∷ bs) n (after_digits r.rest) split long ok r.over refl (goes_on r.rest))

-- ---- characters and quoted texts

character_sound : (b : ℕ) (bs : List ℕ) → (b == 36) ≡ true → FunSoundAt (b ∷ bs) (character_at bs)
character_sound b [] is = tt
character_sound b (c ∷ []) is =
    cond_both (is_plain_in 92 c) _ _ (FunSoundAt (b ∷ c ∷ []))
    (λ h. record { text = 36 ∷ c ∷ []; rest = []; split = ap (λ x. x ∷ c ∷ []) (eqb-true b 36 is); len = refl; found = (a_character, record { body = c ∷ []; code = c; text = refl; one = inl (refl, h); token = refl }) })
    (λ _. tt)
character_sound b (c ∷ e ∷ bs) is =
    cond_both (is_plain_in 92 c) _ _ (FunSoundAt (b ∷ c ∷ e ∷ bs))
    (λ h. record { text = 36 ∷ c ∷ []; rest = e ∷ bs; split = ap (λ x. x ∷ c ∷ e ∷ bs) (eqb-true b 36 is); len = refl; found = (a_character, record { body = c ∷ []; code = c; text = refl; one = inl (refl, h); token = refl }) })
    (λ _. cond_both ((c == 92) && is_escape e) _ _ (FunSoundAt (b ∷ c ∷ e ∷ bs))
    (λ h.
    let p = and_parts (c == 92) (is_escape e) h in
    record { text = 36 ∷ 92 ∷ e ∷ []; rest = bs; split = ap (λ x. x ∷ c ∷ e ∷ bs) (eqb-true b 36 is) ∙ ap (λ x. 36 ∷ x ∷ e ∷ bs) (eqb-true c 92 p.0); len = refl; found = (a_character, record { body = 92 ∷ e ∷ []; code = escape_code e; text = refl; one = inr (e, refl, p.1, refl); token = refl }) })
    (λ _. tt))

-- the quote in front of what closes
abbrev InQuotesAt : ℕ → ℕ → List ℕ → List ℕ → ℕ → Type 0
InQuotesAt q b bs cs n = (u : List ℕ) × (rest : List ℕ) × (b ∷ bs ≡ u ++ rest) × (n + 1 ≡ length u) × IsInQuotes q u cs × (drop n bs ≡ rest)

in_quotes : (q b : ℕ) (bs cs : List ℕ) (n : ℕ) → (b == q) ≡ true → QuoteCloses q bs cs n → InQuotesAt q b bs cs n
in_quotes q b bs cs n is h =
    let body = h.body in
    let len = h.len in
    let size = length-append body (q ∷ []) in
    let split : bs ≡ (body ++ q ∷ []) ++ h.rest = h.split ∙ sym (append_assoc body (q ∷ []) h.rest) in (
      q ∷ (body ++ q ∷ []),
      h.rest,
      ap (λ x. x ∷ bs) (eqb-true b q is) ∙ ap (λ xs. q ∷ xs) split,
      omega (arith, len, size),
      record { body = body; text = refl; are = h.are },
      ap (drop n) split ∙ drop_at (body ++ q ∷ []) h.rest n (omega (arith, len, size)),
    )

quoted_sound : (b : ℕ) (bs : List ℕ) (o : Option (List ℕ × ℕ)) → (b == 39) ≡ true → QuoteAt 39 bs o → FunSoundAt (b ∷ bs) (quoted_atom o)
quoted_sound b bs None is h = tt
quoted_sound b bs (Some r) is h =
    cond_both (all_are is_printable r.0) _ _ (FunSoundAt (b ∷ bs))
    (λ p. let q = in_quotes 39 b bs r.0 r.1 is h in record { text = q.0; rest = q.1; split = q.2; len = q.3; found = (a_quoted_atom, record { name = r.0; quoted = q.4; printable = p; token = refl }) })
    (λ _. tt)

string_sound : (b : ℕ) (bs : List ℕ) (o : Option (List ℕ × ℕ)) → (b == 34) ≡ true → QuoteAt 34 bs o → FunSoundAt (b ∷ bs) (string_token bs o)
string_sound b bs None is h = tt
string_sound b bs (Some r) is h =
    cond_both (stops (λ x. x == 34) (drop r.1 bs)) _ _ (FunSoundAt (b ∷ bs))
    (λ p.
    let q = in_quotes 34 b bs r.0 r.1 is h in
    record { text = q.0; rest = q.1; split = q.2; len = q.3; found = (a_string, record { codes_of = r.0; quoted = q.4; alone = ap (stops (λ x. x == 34)) (sym q.5) ∙ p; token = refl }) })
    (λ _. tt)

-- ---- all of them

stop_sound : (b : ℕ) (bs : List ℕ) → ((b == 46) && ends_form bs) ≡ true → FunSoundAt (b ∷ bs) (Some (full_stop, 1))
stop_sound b bs h =
    let p = and_parts (b == 46) (ends_form bs) h in
    record { text = 46 ∷ []; rest = bs; split = ap (λ x. x ∷ bs) (eqb-true b 46 p.0); len = refl; found = (a_full_stop, record { text = refl; over = p.1; token = refl }) }

symbol_cut : (bytes : List ℕ) (o : Option (FunToken × ℕ)) → SymbolAt bytes o → FunSoundAt bytes o
symbol_cut bytes None h = tt
symbol_cut bytes (Some p) h = record { text = h.text; rest = h.rest; split = h.split; len = h.len; found = (a_symbol, h.is) }

pub fun_sound : (bytes : List ℕ) → FunSoundAt bytes (fun_token_at bytes)
fun_sound [] = tt
fun_sound (b ∷ bs) =
    let P = FunSoundAt (b ∷ bs) in
    cond_both (is_lower b) _ _ P (λ h. word_sound b bs h)
    (λ _. cond_both (is_upper b || (b == 95)) _ _ P (λ h. variable_sound b bs h)
    (λ _. cond_both (is_digit b) _ _ P (λ h. number_sound b bs h)
    (λ _. cond_both (b == 36) _ _ P (λ h. character_sound b bs h)
    (λ _. cond_both (b == 39) _ _ P (λ h. quoted_sound b bs (in_quotes_at 39 false bs) h (quote_sound 39 bs))
    (λ _. cond_both (b == 34) _ _ P (λ h. string_sound b bs (in_quotes_at 34 false bs) h (quote_sound 34 bs))
    (λ _. cond_both ((b == 46) && ends_form bs) _ _ P (λ h. stop_sound b bs h)
    (λ _. symbol_cut (b ∷ bs) (symbol_at (b ∷ bs)) (symbol_sound (b ∷ bs)))))))))

-- ---- one list

same_some : (p q : FunToken × ℕ) → Some p ≡ Some q → p ≡ q
same_some p q h = cc

same_tokens_there : (u v rest more : List ℕ) (s t : FunToken) → u ++ rest ≡ v ++ more → IsFunToken u rest s → IsFunToken v more t → (s ≡ t) × (u ≡ v) × (rest ≡ more)
same_tokens_there u v rest more s t e h i =
    let both = same_some (s, length u) (t, length v) (sym (token_seen u rest s h) ∙ ap fun_token_at e ∙ token_seen v more t i) in
    let size : length u ≡ length v = ap (λ (p : FunToken × ℕ). p.1) both in (
      ap (λ (p : FunToken × ℕ). p.0) both,
      sym (take_at u rest (length u) refl) ∙ ap (take (length u)) e ∙ take_at v more (length u) (sym size),
      sym (drop_at u rest (length u) refl) ∙ ap (drop (length u)) e ∙ drop_at v more (length u) (sym size),
    )

whole_text : (u v rest more : List ℕ) → u ++ rest ≡ v ++ more → rest ≡ [] → u ≡ v ++ more
whole_text u v rest more e last = sym (append-nil u) ∙ ap (λ x. u ++ x) (sym last) ∙ e

one_stands : (u v rest more : List ℕ) (s t : FunToken) → u ++ rest ≡ v ++ more → FunStands u rest s → FunStands v more t → (s ≡ t) × (u ≡ v) × (rest ≡ more)
one_stands u v rest more s t e (inl a) (inl b) = same_tokens_there u v rest more s t e a b
one_stands u v rest more s t e (inl a) (inr b) = absurd (b.none_there u rest s (whole_text v u more rest (sym e) b.last) a)
one_stands u v rest more s t e (inr a) (inl b) = absurd (a.none_there v more t (whole_text u v rest more e a.last) b)
one_stands u v rest more s t e (inr a) (inr b) = (a.token ∙ sym b.token, whole_text u v rest more e a.last ∙ ap (λ x. v ++ x) b.last ∙ append-nil v, a.last ∙ sym b.last)

-- a token has bytes
has_bytes : (u rest : List ℕ) (t : FunToken) → IsFunToken u rest t → 0 < length u
has_bytes u rest t (a_symbol, h) = (symbol_length u t h.row).0
has_bytes [] rest t (a_word, h) = absurd (let n = h.name in cc)
has_bytes (b ∷ u) rest t (a_word, h) = omega arith
has_bytes [] rest t (a_variable, h) = absurd (let n = h.name in cc)
has_bytes (b ∷ u) rest t (a_variable, h) = omega arith
has_bytes u rest t (a_number, h) = h.digits.some
has_bytes u rest t (another_number, h) = let s = h.are.some in let e = ap length h.text in omega (arith, s, e, length-append h.digits h.more)
has_bytes u rest t (a_character, h) = let e = ap length h.text in omega (arith, e)
has_bytes u rest t (a_quoted_atom, h) = let e = ap length h.quoted.text in omega (arith, e)
has_bytes u rest t (a_string, h) = let e = ap length h.quoted.text in omega (arith, e)
has_bytes u rest t (a_full_stop, h) = let e = ap length h.text in omega (arith, e)

pub some_stand : (u rest : List ℕ) (t : FunToken) → FunStands u rest t → 0 < length u
some_stand u rest t (inl h) = has_bytes u rest t h
some_stand u rest t (inr h) = h.some

stands_there : (b : ℕ) (bs : List ℕ) (o : Option (FunToken × ℕ)) → fun_token_at (b ∷ bs) ≡ o → FunSoundAt (b ∷ bs) o → (u : List ℕ) × (rest : List ℕ) × (t : FunToken) × (b ∷ bs ≡ u ++ rest) × FunStands u rest t
stands_there b bs None is h = (b ∷ bs, [], bad, sym (append-nil (b ∷ bs)), inr (record { last = refl; some = omega arith; none_there = no_token (b ∷ bs) is; token = refl }))
stands_there b bs (Some p) is c = (c.text, c.rest, p.0, c.split, inl c.found)

determined : AreDetermined FunToken FunStands
determined = record {
  one = λ u v rest more s t e h i. one_stands u v rest more s t e h i;
  some = λ u rest t h. some_stand u rest t h;
  there = λ b bs. stands_there b bs (fun_token_at (b ∷ bs)) refl (fun_sound (b ∷ bs));
}

pub same_fun_tokens : (bytes : List ℕ) (xs ys : List FunSpan) → FunTokens bytes xs → FunTokens bytes ys → xs ≡ ys
same_fun_tokens bytes xs ys h i = same_spans FunToken FunStands determined 0 bytes xs ys h i

pub fun_tokens_exist : (bytes : List ℕ) → (xs : List FunSpan) × FunTokens bytes xs
fun_tokens_exist bytes = spans_exist FunToken FunStands determined bytes

found_cut : (bytes : List ℕ) (t : FunToken) (n : ℕ) → FunCut bytes t n → IsFunToken (take n bytes) (drop n bytes) t
found_cut bytes t n c =
    let front : take n bytes ≡ c.text = ap (take n) c.split ∙ take_at c.text c.rest n (sym c.len) in
    let back : drop n bytes ≡ c.rest = ap (drop n) c.split ∙ drop_at c.text c.rest n (sym c.len) in
    subst (λ u. IsFunToken u (drop n bytes) t) (sym front) (subst (λ r. IsFunToken c.text r t) (sym back) c.found)

pub found_there : (bytes : List ℕ) (t : FunToken) (n : ℕ) → fun_token_at bytes ≡ Some (t, n) → IsFunToken (take n bytes) (drop n bytes) t
found_there bytes t n e = found_cut bytes t n (subst (FunSoundAt bytes) e (fun_sound bytes))
