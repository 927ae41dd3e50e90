-- A written term has no number sign but between quotes.
use Rattle.std.proofs.Common.{◌≡◌, ◌∙◌, ℕ, ℤ, suc, pos, negsuc, ◌<◌, ◌^◌, ◌==◌, Bool, true, false, not, ◌&&◌, ◌||◌, List, [], ◌∷◌, ◌++◌, decimal, flat_map, Option, None, Some, refl, ap, sym, subst, rules, arith, append_assoc}
use Rattle.std.specs.Prelude.{if◌then◌else◌}
use Rattle.std.specs.Option.{is_none}
use Rattle.std.proofs.lemmas.Bool.{and_parts, or_parts, cond_both, ltb-true}
use Rattle.def_term.specs.Tree.{Tree, int, atom, pid, tuple, list, Trees, none, more}
use Rattle.def_term.specs.Text.{is_digit, is_lower, is_name, is_name_byte, are_name_bytes, is_written_bare, escape, w, comma_list, each_after_comma}
use Rattle.def_text.specs.Tokens.{all_are}
use Rattle.def_text.specs.Writable.{is_writable, are_writable}
use Rattle.def_text.proofs.TokenSound.{same_names}
use Rattle.def_trace_text.specs.DbgFormats.{quote_after, escapes_next, with_term_texts}
use Rattle.def_trace_text.specs.ErrorMaps.{has_sign}
use Rattle.def_trace_text.proofs.WrittenParts.{is_plain, name_plain, all_plain, digits_plain, lower_name, bare_is_name}

-- the text has no sign, and ends outside of quotes
abbrev pub IsQuiet : List ℕ → Type 0
IsQuiet u = (rest : List ℕ) → has_sign None false (u ++ rest) ≡ has_sign None false rest

plain_step : (b : ℕ) (bs : List ℕ) → is_plain 35 b ≡ true → has_sign None false (b ∷ bs) ≡ has_sign None false bs
plain_step b bs h = search rules

plain_quiet : (u : List ℕ) → all_are (is_plain 35) u ≡ true → IsQuiet u
plain_quiet [] h rest = refl
plain_quiet (b ∷ u) h rest = let p = and_parts (is_plain 35 b) (all_are (is_plain 35) u) h in plain_step b (u ++ rest) p.0 ∙ plain_quiet u p.1 rest

both_quiet : (u v : List ℕ) → IsQuiet u → IsQuiet v → IsQuiet (u ++ v)
both_quiet u v h k rest = ap (has_sign None false) (append_assoc u v rest) ∙ h (v ++ rest) ∙ k rest

-- ---- atoms

unescaped : (b : ℕ) (bs : List ℕ) → (b == 39) ≡ false → (b == 92) ≡ false → has_sign (Some 39) false (b ∷ bs) ≡ has_sign (Some 39) false bs
unescaped b bs q k = rw (q, k) refl

between_quotes : (s rest : List ℕ) → has_sign (Some 39) false (flat_map escape s ++ 39 ∷ rest) ≡ has_sign None false rest
between_quotes [] rest = refl
between_quotes (b ∷ s) rest = by_escape ((b == 39) || (b == 92)) refl (between_quotes s rest)
  where
    by_escape : (c : Bool) → (b == 39) || (b == 92) ≡ c → has_sign (Some 39) false (flat_map escape s ++ 39 ∷ rest) ≡ has_sign None false rest → has_sign (Some 39) false (flat_map escape (b ∷ s) ++ 39 ∷ rest) ≡ has_sign None false rest
    by_escape true is h = rw is h
    by_escape false is h =
        let p = or_parts (b == 39) (b == 92) is in
        rw is (unescaped b (flat_map escape s ++ 39 ∷ rest) p.0 p.1 ∙ h)

quoted_quiet : (s : List ℕ) → IsQuiet (39 ∷ flat_map escape s ++ 39 ∷ [])
quoted_quiet s rest = ap (has_sign (Some 39) false) (append_assoc (flat_map escape s) (39 ∷ []) rest) ∙ between_quotes s rest

name_quiet : (s : List ℕ) → is_name s ≡ true → IsQuiet s
name_quiet [] n = absurd (cc)
name_quiet (b ∷ s) n =
    let p = and_parts (is_lower b) (are_name_bytes s) n in
    let first = name_plain 35 b refl (lower_name b p.0) in
    let others = all_plain is_name_byte 35 s (λ c. name_plain 35 c refl) (sym (same_names s) ∙ p.1) in
    plain_quiet (b ∷ s) (rw (first, others) refl)

atom_quiet : (s : List ℕ) → IsQuiet (w (atom s))
atom_quiet s = cond_both (is_written_bare s) s (39 ∷ flat_map escape s ++ 39 ∷ []) IsQuiet (λ b. name_quiet s (bare_is_name s b)) (λ b. quoted_quiet s)

-- ---- numbers and pids

digits_quiet : (n : ℕ) → n < 2 ^ 64 → IsQuiet (decimal n)
digits_quiet n below = plain_quiet (decimal n) (digits_plain 35 n refl below)

int_quiet : (n : ℤ) → is_writable (int n) ≡ true → IsQuiet (w (int n))
int_quiet (pos n) ok = let below = ltb-true n 9223372036854775808 ok in digits_quiet n (omega (arith, below))
int_quiet (negsuc n) ok = let below = ltb-true n 9223372036854775808 ok in both_quiet (45 ∷ []) (decimal (suc n)) (plain_quiet (45 ∷ []) refl) (digits_quiet (suc n) (omega (arith, below)))

pid_quiet : (n : ℕ) → is_writable (pid n) ≡ true → IsQuiet (w (pid n))
pid_quiet n ok =
    let below = ltb-true n 4294967296 ok in
    both_quiet (60 ∷ 48 ∷ 46 ∷ []) (decimal n ++ 46 ∷ 48 ∷ 62 ∷ []) (plain_quiet (60 ∷ 48 ∷ 46 ∷ []) refl)
    (both_quiet (decimal n) (46 ∷ 48 ∷ 62 ∷ []) (digits_quiet n (omega (arith, below))) (plain_quiet (46 ∷ 48 ∷ 62 ∷ []) refl))

-- ---- terms

mutual
  written_quiet : (t : Tree) → is_writable t ≡ true → IsQuiet (w t)
  written_quiet (int n) ok = int_quiet n ok
  written_quiet (atom s) ok = atom_quiet s
  written_quiet (pid n) ok = pid_quiet n ok
  written_quiet (tuple us) ok = λ rest. ap (has_sign None false) (append_assoc (comma_list us) (125 ∷ []) rest) ∙ terms_quiet us ok (125 ∷ rest)
  written_quiet (list us) ok = λ rest. ap (has_sign None false) (append_assoc (comma_list us) (93 ∷ []) rest) ∙ terms_quiet us ok (93 ∷ rest)

  pub terms_quiet : (us : Trees) → are_writable us ≡ true → IsQuiet (comma_list us)
  terms_quiet none ok = λ rest. refl
  terms_quiet (more t us) ok = let p = and_parts (is_writable t) (are_writable us) ok in both_quiet (w t) (each_after_comma us) (written_quiet t p.0) (further_quiet us p.1)

  further_quiet : (us : Trees) → are_writable us ≡ true → IsQuiet (each_after_comma us)
  further_quiet none ok = λ rest. refl
  further_quiet (more t us) ok =
      let p = and_parts (is_writable t) (are_writable us) ok in
      both_quiet (44 ∷ []) (w t ++ each_after_comma us) (plain_quiet (44 ∷ []) refl) (both_quiet (w t) (each_after_comma us) (written_quiet t p.0) (further_quiet us p.1))

-- ---- formats

-- the format has no sign but between quotes, and a term in it is not between quotes
abbrev pub is_quiet_format : Option ℕ → Bool → List ℕ → Bool
is_quiet_format quote escaped [] = true
is_quiet_format quote escaped (b ∷ bs) =
    if is_digit b then is_none quote && (not escaped && is_quiet_format None false bs)
    else not (is_none quote && (b == 35)) && is_quiet_format (quote_after quote escaped b) (escapes_next quote escaped b) bs

terms_first : (quote : Option ℕ) (escaped : Bool) (us : Trees) (rest : List ℕ) → is_none quote ≡ true → not escaped ≡ true → are_writable us ≡ true → has_sign None false rest ≡ false → has_sign quote escaped (comma_list us ++ rest) ≡ false
terms_first None false us rest h k ok e = terms_quiet us ok rest ∙ e
terms_first None true us rest h k ok e = absurd (cc)
terms_first (Some q) escaped us rest h k ok e = absurd (cc)

not_true : (a : Bool) → not a ≡ true → a ≡ false
not_true true h = absurd (cc)
not_true false h = refl

pub format_is_quiet : (quote : Option ℕ) (escaped : Bool) (format : List ℕ) (terms : ℕ → Trees) → is_quiet_format quote escaped format ≡ true → ((digit : ℕ) → are_writable (terms digit) ≡ true) → has_sign quote escaped (with_term_texts format terms) ≡ false
format_is_quiet quote escaped [] terms h ok = refl
format_is_quiet quote escaped (b ∷ bs) terms h ok = by_digit (is_digit b) refl (λ q e g. format_is_quiet q e bs terms g ok)
  where
    by_digit : (c : Bool) → is_digit b ≡ c → ((q : Option ℕ) (e : Bool) → is_quiet_format q e bs ≡ true → has_sign q e (with_term_texts bs terms) ≡ false) → has_sign quote escaped (with_term_texts (b ∷ bs) terms) ≡ false
    by_digit true e others =
        let g : is_none quote && (not escaped && is_quiet_format None false bs) ≡ true = subst (λ d. (if d then is_none quote && (not escaped && is_quiet_format None false bs) else not (is_none quote && (b == 35)) && is_quiet_format (quote_after quote escaped b) (escapes_next quote escaped b) bs) ≡ true) e h in
        let p = and_parts (is_none quote) (not escaped && is_quiet_format None false bs) g in
        let q = and_parts (not escaped) (is_quiet_format None false bs) p.1 in
        rw e (terms_first quote escaped (terms b) (with_term_texts bs terms) p.0 q.0 (ok b) (others None false q.1))
    by_digit false e others =
        let g : not (is_none quote && (b == 35)) && is_quiet_format (quote_after quote escaped b) (escapes_next quote escaped b) bs ≡ true = subst (λ d. (if d then is_none quote && (not escaped && is_quiet_format None false bs) else not (is_none quote && (b == 35)) && is_quiet_format (quote_after quote escaped b) (escapes_next quote escaped b) bs) ≡ true) e h in
        let p = and_parts (not (is_none quote && (b == 35))) (is_quiet_format (quote_after quote escaped b) (escapes_next quote escaped b) bs) g in
        let none = not_true (is_none quote && (b == 35)) p.0 in
        rw (e, none) (others (quote_after quote escaped b) (escapes_next quote escaped b) p.1)
