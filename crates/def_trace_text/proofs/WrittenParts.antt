-- A written term is a whole part of a line of `dbg`.
use Rattle.std.proofs.Common.{◌≡◌, ◌∙◌, ◌⊎◌, inl, inr, ℕ, ℤ, suc, pos, negsuc, ◌+◌, ◌-◌, ◌<◌, ◌^◌, ◌==◌, Bool, true, false, not, ◌&&◌, ◌||◌, List, [], ◌∷◌, ◌++◌, length, decimal, flat_map, None, Some, refl, ap, sym, rules, arith, append_assoc, length-append}
use Rattle.std.proofs.lemmas.Bool.{and_parts, or_parts, cond_both, ltb-true, ne_eqb, both_ways}
use Rattle.std.proofs.lemmas.Fmt.{decimal_is_IsNumeral}
use Rattle.def_term.specs.Tree.{Tree, int, atom, pid, tuple, list, Trees, none, more}
use Rattle.def_term.specs.Text.{is_digit, is_lower, is_name, is_name_byte, are_name_bytes, is_written_bare, escape, w, comma_list, each_after_comma}
use Rattle.def_text.specs.Tokens.{all_are}
use Rattle.def_text.specs.Writable.{is_writable, are_writable}
use Rattle.def_text.proofs.Numbers.{own}
use Rattle.def_text.proofs.TokenSound.{same_names}
use Rattle.def_trace_text.specs.DbgFormats.{part_length}

-- a byte that ends parts, and is in no term outside of quotes
abbrev pub ends_part : ℕ → Bool
ends_part e = not (is_name_byte e) && not ((e == 45) || (e == 46) || (e == 60) || (e == 62) || (e == 44) || (e == 39) || (e == 34) || (e == 123) || (e == 91) || (e == 125) || (e == 93))

-- a byte that is a part's, and neither a quote nor a bracket
abbrev pub is_plain : ℕ → ℕ → Bool
is_plain end b = not (b == end) && not ((b == 39) || (b == 34) || (b == 123) || (b == 91) || (b == 125) || (b == 93))

plain_step : (end d b : ℕ) (bs : List ℕ) → is_plain end b ≡ true → part_length end None false d (b ∷ bs) ≡ part_length end None false d bs + 1
plain_step end d b bs h = search rules

-- ---- bytes

apart : (p : ℕ → Bool) (b x : ℕ) → p b ≡ true → p x ≡ false → (b == x) ≡ false
apart p b x h o = ne_eqb b x (λ e. both_ways (p b) (ap p e ∙ o) h)

pub no_name : (e : ℕ) → ends_part e ≡ true → is_name_byte e ≡ false
no_name e h = search rules

pub name_plain : (e b : ℕ) → ends_part e ≡ true → is_name_byte b ≡ true → is_plain e b ≡ true
name_plain e b h n =
    rw (apart is_name_byte b e n (no_name e h), apart is_name_byte b 39 n refl, apart is_name_byte b 34 n refl, apart is_name_byte b 123 n refl, apart is_name_byte b 91 n refl, apart is_name_byte b 125 n refl, apart is_name_byte b 93 n refl) refl

pub digit_name : (b : ℕ) → is_digit b ≡ true → is_name_byte b ≡ true
digit_name b h = search rules

pub lower_name : (b : ℕ) → is_lower b ≡ true → is_name_byte b ≡ true
lower_name b h = search rules

pub minus_plain : (e : ℕ) → ends_part e ≡ true → is_plain e 45 ≡ true
minus_plain e h = search rules

pub comma_plain : (e : ℕ) → ends_part e ≡ true → is_plain e 44 ≡ true
comma_plain e h = search rules

pub all_plain : (p : ℕ → Bool) (e : ℕ) (u : List ℕ) → ((b : ℕ) → p b ≡ true → is_plain e b ≡ true) → all_are p u ≡ true → all_are (is_plain e) u ≡ true
all_plain p e [] f h = refl
all_plain p e (b ∷ u) f h = let q = and_parts (p b) (all_are p u) h in rw (f b q.0, all_plain p e u f q.1) refl

-- ---- parts

-- the text is a part, or the beginning of one
abbrev pub IsPart : ℕ → ℕ → List ℕ → Type 0
IsPart e d u = (rest : List ℕ) → part_length e None false d (u ++ rest) ≡ length u + part_length e None false d rest

pub plain_part : (e d : ℕ) (u : List ℕ) → all_are (is_plain e) u ≡ true → IsPart e d u
plain_part e d [] h rest = omega arith
plain_part e d (b ∷ u) h rest =
    let p = and_parts (is_plain e b) (all_are (is_plain e) u) h in
    let first = plain_step e d b (u ++ rest) p.0 in
    let others = plain_part e d u p.1 rest in
    omega (arith, first, others)

pub joined_parts : (e d : ℕ) (u v : List ℕ) → IsPart e d u → IsPart e d v → IsPart e d (u ++ v)
joined_parts e d u v h k rest =
    let whole = ap (part_length e None false d) (append_assoc u v rest) in
    let first = h (v ++ rest) in
    let second = k rest in
    omega (arith, whole, first, second, length-append u v)

-- ---- atoms

unescaped : (e d b : ℕ) (bs : List ℕ) → (b == 39) ≡ false → (b == 92) ≡ false → part_length e (Some 39) false d (b ∷ bs) ≡ part_length e (Some 39) false d bs + 1
unescaped e d b bs q k = rw (q, k) refl

between_quotes : (e d : ℕ) (s rest : List ℕ) → part_length e (Some 39) false d (flat_map escape s ++ 39 ∷ rest) ≡ length (flat_map escape s) + 1 + part_length e None false d rest
between_quotes e d [] rest = omega arith
between_quotes e d (b ∷ s) rest = by_escape ((b == 39) || (b == 92)) refl (between_quotes e d s rest)
  where
    by_escape : (c : Bool) → (b == 39) || (b == 92) ≡ c → part_length e (Some 39) false d (flat_map escape s ++ 39 ∷ rest) ≡ length (flat_map escape s) + 1 + part_length e None false d rest
        → part_length e (Some 39) false d (flat_map escape (b ∷ s) ++ 39 ∷ rest) ≡ length (flat_map escape (b ∷ s)) + 1 + part_length e None false d rest
    by_escape true is h = rw is (omega (arith, h))
    by_escape false is h =
        let p = or_parts (b == 39) (b == 92) is in
        let step = unescaped e d b (flat_map escape s ++ 39 ∷ rest) p.0 p.1 in
        rw is (omega (arith, h, step))

quoted_part : (e d : ℕ) (s : List ℕ) → ends_part e ≡ true → IsPart e d (39 ∷ flat_map escape s ++ 39 ∷ [])
quoted_part e d s h rest =
    let other : (39 == e) ≡ false = search rules in
    let whole = ap (part_length e (Some 39) false d) (append_assoc (flat_map escape s) (39 ∷ []) rest) in
    let inner = between_quotes e d s rest in
    rw (other, and_false (d == 0)) (omega (arith, whole, inner, length-append (flat_map escape s) (39 ∷ [])))
  where
    and_false : (c : Bool) → c && false ≡ false
    and_false true = refl
    and_false false = refl

pub bare_is_name : (s : List ℕ) → is_written_bare s ≡ true → is_name s ≡ true
unfolding is_written_bare
bare_is_name s h = (and_parts (is_name s) _ h).0

name_part : (e d : ℕ) (s : List ℕ) → ends_part e ≡ true → is_name s ≡ true → IsPart e d s
name_part e d [] h n = absurd (cc)
name_part e d (b ∷ s) h n =
    let p = and_parts (is_lower b) (are_name_bytes s) n in
    let first = name_plain e b h (lower_name b p.0) in
    let others = all_plain is_name_byte e s (λ c. name_plain e c h) (sym (same_names s) ∙ p.1) in
    plain_part e d (b ∷ s) (rw (first, others) refl)

atom_part : (e d : ℕ) (s : List ℕ) → ends_part e ≡ true → IsPart e d (w (atom s))
atom_part e d s h = cond_both (is_written_bare s) s (39 ∷ flat_map escape s ++ 39 ∷ []) (IsPart e d) (λ b. name_part e d s h (bare_is_name s b)) (λ b. quoted_part e d s h)

-- ---- numbers

pub digits_plain : (e n : ℕ) → ends_part e ≡ true → n < 2 ^ 64 → all_are (is_plain e) (decimal n) ≡ true
digits_plain e n h below =
    let digits = own.from (decimal n) (decimal_is_IsNumeral n below).0.1 in
    all_plain is_digit e (decimal n) (λ b k. name_plain e b h (digit_name b k)) digits

digits_part : (e d n : ℕ) → ends_part e ≡ true → n < 2 ^ 64 → IsPart e d (decimal n)
digits_part e d n h below = plain_part e d (decimal n) (digits_plain e n h below)

int_part : (e d : ℕ) (n : ℤ) → ends_part e ≡ true → is_writable (int n) ≡ true → IsPart e d (w (int n))
int_part e d (pos n) h ok = let below = ltb-true n 9223372036854775808 ok in digits_part e d n h (omega (arith, below))
int_part e d (negsuc n) h ok =
    let below = ltb-true n 9223372036854775808 ok in
    plain_part e d (45 ∷ decimal (suc n)) (rw (minus_plain e h, digits_plain e (suc n) h (omega (arith, below))) refl)

pub pid_begins : (e : ℕ) → ends_part e ≡ true → all_are (is_plain e) (60 ∷ 48 ∷ 46 ∷ []) ≡ true
pid_begins e h = search rules

pub pid_ends : (e : ℕ) → ends_part e ≡ true → all_are (is_plain e) (46 ∷ 48 ∷ 62 ∷ []) ≡ true
pid_ends e h = search rules

pid_part : (e d n : ℕ) → ends_part e ≡ true → is_writable (pid n) ≡ true → IsPart e d (w (pid n))
pid_part e d n h ok =
    let below = ltb-true n 4294967296 ok in
    joined_parts e d (60 ∷ 48 ∷ 46 ∷ []) (decimal n ++ 46 ∷ 48 ∷ 62 ∷ []) (plain_part e d (60 ∷ 48 ∷ 46 ∷ []) (pid_begins e h))
    (joined_parts e d (decimal n) (46 ∷ 48 ∷ 62 ∷ []) (digits_part e d n h (omega (arith, below))) (plain_part e d (46 ∷ 48 ∷ 62 ∷ []) (pid_ends e h)))

-- ---- tuples and lists

and_false : (c : Bool) → c && false ≡ false
and_false true = refl
and_false false = refl

-- one more is open after a bracket, and one less after one that closes
opens : (e d b : ℕ) (bs : List ℕ) → (b == e) ≡ false → (b ≡ 123) ⊎ (b ≡ 91) → part_length e None false d (b ∷ bs) ≡ part_length e None false (d + 1) bs + 1
opens e d b bs first_is_other (inl is) = rw (first_is_other, and_false (d == 0), is) refl
opens e d b bs first_is_other (inr is) = rw (first_is_other, and_false (d == 0), is) refl

closes : (e d b : ℕ) (bs : List ℕ) → (b == e) ≡ false → (b ≡ 125) ⊎ (b ≡ 93) → part_length e None false (d + 1) (b ∷ bs) ≡ part_length e None false d bs + 1
closes e d b bs first_is_other (inl is) = let n : d + 1 - 1 ≡ d = omega arith in rw (first_is_other, and_false (d + 1 == 0), is, n) refl
closes e d b bs first_is_other (inr is) = let n : d + 1 - 1 ≡ d = omega arith in rw (first_is_other, and_false (d + 1 == 0), is, n) refl

in_brackets : (e d a b : ℕ) (u : List ℕ) → (a == e) ≡ false → (b == e) ≡ false → (a ≡ 123) ⊎ (a ≡ 91) → (b ≡ 125) ⊎ (b ≡ 93) → IsPart e (d + 1) u → IsPart e d (a ∷ (u ++ b ∷ []))
in_brackets e d a b u first_is_other last_is_other left right h rest =
    let whole = ap (part_length e None false (d + 1)) (append_assoc u (b ∷ []) rest) in
    let first = opens e d a ((u ++ b ∷ []) ++ rest) first_is_other left in
    let inner = h (b ∷ rest) in
    let last = closes e d b rest last_is_other right in
    omega (arith, whole, first, inner, last, length-append u (b ∷ []))

abbrev no_bracket : ℕ → Type 0
no_bracket e = ((123 == e) ≡ false) × ((91 == e) ≡ false) × ((125 == e) ≡ false) × ((93 == e) ≡ false)

brackets : (e : ℕ) → ends_part e ≡ true → no_bracket e
brackets e h = (search rules, search rules, search rules, search rules)

mutual
  pub written_part : (t : Tree) (e d : ℕ) → ends_part e ≡ true → is_writable t ≡ true → IsPart e d (w t)
  written_part (int n) e d h ok = int_part e d n h ok
  written_part (atom s) e d h ok = atom_part e d s h
  written_part (pid n) e d h ok = pid_part e d n h ok
  written_part (tuple us) e d h ok = let b = brackets e h in in_brackets e d 123 125 (comma_list us) b.0 b.2 (inl refl) (inl refl) (written_parts us e (d + 1) h ok)
  written_part (list us) e d h ok = let b = brackets e h in in_brackets e d 91 93 (comma_list us) b.1 b.3 (inr refl) (inr refl) (written_parts us e (d + 1) h ok)

  pub written_parts : (us : Trees) (e d : ℕ) → ends_part e ≡ true → are_writable us ≡ true → IsPart e d (comma_list us)
  written_parts none e d h ok = plain_part e d [] refl
  written_parts (more t us) e d h ok = let p = and_parts (is_writable t) (are_writable us) ok in joined_parts e d (w t) (each_after_comma us) (written_part t e d h p.0) (further_parts us e d h p.1)

  further_parts : (us : Trees) (e d : ℕ) → ends_part e ≡ true → are_writable us ≡ true → IsPart e d (each_after_comma us)
  further_parts none e d h ok = plain_part e d [] refl
  further_parts (more t us) e d h ok =
      let p = and_parts (is_writable t) (are_writable us) ok in
      joined_parts e d (44 ∷ []) (w t ++ each_after_comma us) (plain_part e d (44 ∷ []) (rw (comma_plain e h) refl))
      (joined_parts e d (w t) (each_after_comma us) (written_part t e d h p.0) (further_parts us e d h p.1))
