-- Over the tokens of a term no command begins, no full stop stands and no comma counts, and within its brackets neither.
use Rattle.std.proofs.Common.{◌≡◌, ℕ, ℤ, suc, ◌-◌, ◌≤◌, cond, false, List, [], ◌∷◌, ◌++◌, inl, inr, refl, ap, ap₂, ◌∙◌, append_assoc, arith}
use Rattle.std.proofs.lemmas.Bool.{ne_eqb}
use Rattle.def_term.specs.Tree.{Tree, int, atom, pid, tuple, list, Trees, none, more}
use Rattle.def_text.specs.Tokens as text
use Rattle.def_text.specs.Tokens.{Token, TokenSpan}
use Rattle.def_text.specs.Grammar.{Derives, DerivesAll, DerivesRest}
use Rattle.def_text.specs.Spelling.{tokens_of}
use Rattle.def_text.specs.Forms.{is_stop, after_stops}
use Rattle.def_refusal.specs.ItemStarts.{role_of, depth_after, commas_after, tokens_past_commas}
use Rattle.def_explain.specs.CommandPlaces.{TokenPlace, in_other_form, in_control, place_after_token, begins_command, command_starts}

-- the tokens of which the first is this one
pub record BeginsBy (t : Token) (ts : List Token) (xs : List TokenSpan) : Type 0 where
  pub first : TokenSpan
  pub others : List TokenSpan
  pub whole : xs ≡ first ∷ others
  pub is : first.token ≡ t
  pub tokens : tokens_of others ≡ ts

pub begins_by : (t : Token) (ts : List Token) (xs : List TokenSpan) → tokens_of xs ≡ t ∷ ts → BeginsBy t ts xs
begins_by t ts [] e = absurd (let no_token : [] ≡ t ∷ ts = e in cc)
begins_by t ts (x ∷ xs) e = record {
  first = x;
  others = xs;
  whole = refl;
  is = (let same : x.token ∷ tokens_of xs ≡ t ∷ ts = e in cc);
  tokens = (let same : x.token ∷ tokens_of xs ≡ t ∷ ts = e in cc);
}

-- ---- one token

-- a command that begins at the token, and those after it
pub starts_by : (p : TokenPlace) (t : Token) (x : TokenSpan) (xs : List TokenSpan) → x.token ≡ t → command_starts p (x ∷ xs) ≡ cond (begins_command p t) (x.from ∷ []) [] ++ command_starts (place_after_token p t) xs
starts_by p t x xs is = ap (λ u. cond (begins_command p u) (x.from ∷ []) [] ++ command_starts (place_after_token p u) xs) is

pub quiet : (p : TokenPlace) (t : Token) (x : TokenSpan) (xs : List TokenSpan) → x.token ≡ t → begins_command p t ≡ false → command_starts p (x ∷ xs) ≡ command_starts (place_after_token p t) xs
quiet p t x xs is e = starts_by p t x xs is ∙ ap (λ b. cond b (x.from ∷ []) [] ++ command_starts (place_after_token p t) xs) e

pub commas_by : (d m : ℕ) (t : Token) (x : TokenSpan) (xs : List TokenSpan) → x.token ≡ t → tokens_past_commas d (suc m) (x ∷ xs) ≡ tokens_past_commas (depth_after d (role_of t)) (commas_after d (suc m) (role_of t)) xs
commas_by d m t x xs is =
    ap (λ b. cond b (x ∷ xs) (tokens_past_commas (depth_after d (role_of x.token)) (commas_after d (suc m) (role_of x.token)) xs)) (ne_eqb (suc m) 0 (λ z. omega (arith, z)))
    ∙ ap (λ u. tokens_past_commas (depth_after d (role_of u)) (commas_after d (suc m) (role_of u)) xs) is

pub stops_by : (k : ℕ) (t : Token) (x : TokenSpan) (xs : List TokenSpan) → x.token ≡ t → after_stops (suc k) (x ∷ xs) ≡ cond (is_stop t) (after_stops k xs) (after_stops (suc k) xs)
stops_by k t x xs is = ap (λ u. cond (is_stop u) (after_stops k xs) (after_stops (suc k) xs)) is

-- the token begins no command, ends no form and counts as no comma, where the brackets that are open become b n of a n
pub record IsQuiet (a b : ℕ → ℕ) (t : Token) : Type 0 where
  pub begins : (n : ℕ) → 3 ≤ a n → begins_command (in_control (a n)) t ≡ false
  pub after : (n : ℕ) → place_after_token (in_control (a n)) t ≡ in_control (b n)
  pub depth : (d : ℕ) → depth_after (a d) (role_of t) ≡ b d
  pub commas : (d m : ℕ) → commas_after (a d) (suc m) (role_of t) ≡ suc m
  pub other : place_after_token in_other_form t ≡ in_other_form
  pub unstopped : is_stop t ≡ false

-- of one such token
leaf_quiet : (t : Token) → ((n : ℕ) → begins_command (in_control n) t ≡ false) → ((n : ℕ) → place_after_token (in_control n) t ≡ in_control n) → ((d : ℕ) → depth_after d (role_of t) ≡ d) → ((d m : ℕ) → commas_after d (suc m) (role_of t) ≡ suc m)
    → place_after_token in_other_form t ≡ in_other_form → is_stop t ≡ false → IsQuiet (λ n. n) (λ n. n) t
leaf_quiet t begins after depth commas other unstopped = record { begins = λ n h. begins n; after = after; depth = depth; commas = commas; other = other; unstopped = unstopped }

integer_quiet : (k : ℤ) → IsQuiet (λ n. n) (λ n. n) (text.integer k)
integer_quiet k = leaf_quiet (text.integer k) (λ n. refl) (λ n. refl) (λ d. refl) (λ d m. refl) refl refl

atom_quiet : (s : List ℕ) → IsQuiet (λ n. n) (λ n. n) (text.atom s)
atom_quiet s = leaf_quiet (text.atom s) (λ n. refl) (λ n. refl) (λ d. refl) (λ d m. refl) refl refl

pid_quiet : (k : ℕ) → IsQuiet (λ n. n) (λ n. n) (text.pid k)
pid_quiet k = leaf_quiet (text.pid k) (λ n. refl) (λ n. refl) (λ d. refl) (λ d m. refl) refl refl

characters_quiet : (s : List ℕ) → IsQuiet (λ n. n) (λ n. n) (text.characters s)
characters_quiet s = leaf_quiet (text.characters s) (λ n. refl) (λ n. refl) (λ d. refl) (λ d m. refl) refl refl

open_brace_quiet : IsQuiet (λ n. n) suc text.open_brace
open_brace_quiet = record { begins = λ n h. ne_eqb n 2 (λ e. omega (arith, e, h)); after = λ n. refl; depth = λ d. refl; commas = λ d m. refl; other = refl; unstopped = refl }

open_bracket_quiet : IsQuiet (λ n. n) suc text.open_bracket
open_bracket_quiet = record { begins = λ n h. refl; after = λ n. refl; depth = λ d. refl; commas = λ d m. refl; other = refl; unstopped = refl }

one_less : (n : ℕ) → suc n - 1 ≡ n
one_less n = omega arith

pub close_brace_quiet : IsQuiet suc (λ n. n) text.close_brace
close_brace_quiet = record { begins = λ n h. refl; after = λ n. ap in_control (one_less n); depth = one_less; commas = λ d m. refl; other = refl; unstopped = refl }

pub close_bracket_quiet : IsQuiet suc (λ n. n) text.close_bracket
close_bracket_quiet = record { begins = λ n h. refl; after = λ n. ap in_control (one_less n); depth = one_less; commas = λ d m. refl; other = refl; unstopped = refl }

-- within brackets
comma_quiet : IsQuiet suc suc text.comma
comma_quiet = record { begins = λ n h. refl; after = λ n. refl; depth = λ d. refl; commas = λ d m. ap (λ b. cond b (suc m - 1) (suc m)) (ne_eqb (suc d) 0 (λ e. omega (arith, e))); other = refl; unstopped = refl }

-- ---- several tokens

-- from these tokens on, the walks come to tokens that are those, where the brackets that are open become b n of a n
pub record Over (a b : ℕ → ℕ) (ts : List Token) (xs : List TokenSpan) : Type 0 where
  pub left : List TokenSpan
  pub tokens : tokens_of left ≡ ts
  pub starts : (n : ℕ) → 3 ≤ a n → command_starts (in_control (a n)) xs ≡ command_starts (in_control (b n)) left
  pub commas : (d m : ℕ) → tokens_past_commas (a d) (suc m) xs ≡ tokens_past_commas (b d) (suc m) left
  pub others : command_starts in_other_form xs ≡ command_starts in_other_form left
  pub stops : (k : ℕ) → after_stops (suc k) xs ≡ after_stops (suc k) left

over_by : (a b : ℕ → ℕ) (t : Token) (ts : List Token) (xs : List TokenSpan) → IsQuiet a b t → BeginsBy t ts xs → Over a b ts xs
over_by a b t ts xs q w = record {
  left = w.others;
  tokens = w.tokens;
  starts = λ n h. ap (command_starts (in_control (a n))) w.whole ∙ quiet (in_control (a n)) t w.first w.others w.is (q.begins n h) ∙ ap (λ p. command_starts p w.others) (q.after n);
  commas = λ d m. ap (tokens_past_commas (a d) (suc m)) w.whole ∙ commas_by (a d) m t w.first w.others w.is
      ∙ ap₂ (λ e k. tokens_past_commas e k w.others) (q.depth d) (q.commas d m);
  others = ap (command_starts in_other_form) w.whole ∙ quiet in_other_form t w.first w.others w.is refl ∙ ap (λ p. command_starts p w.others) q.other;
  stops = λ k. ap (after_stops (suc k)) w.whole ∙ stops_by k t w.first w.others w.is ∙ ap (λ c. cond c (after_stops k w.others) (after_stops (suc k) w.others)) q.unstopped;
}

pub over_one : (a b : ℕ → ℕ) (t : Token) (ts : List Token) (xs : List TokenSpan) → IsQuiet a b t → tokens_of xs ≡ t ∷ ts → Over a b ts xs
over_one a b t ts xs q e = over_by a b t ts xs q (begins_by t ts xs e)

-- one way after another
both_over : (a b c : ℕ → ℕ) (ts us : List Token) (xs : List TokenSpan) → ((n : ℕ) → 3 ≤ a n → 3 ≤ b n) → (p : Over a b ts xs) → Over b c us p.left → Over a c us xs
both_over a b c ts us xs wide p q = record {
  left = q.left;
  tokens = q.tokens;
  starts = λ n h. p.starts n h ∙ q.starts n (wide n h);
  commas = λ d m. p.commas d m ∙ q.commas d m;
  others = p.others ∙ q.others;
  stops = λ k. p.stops k ∙ q.stops k;
}

-- the same within a bracket
within : (ts : List Token) (xs : List TokenSpan) → Over (λ n. n) (λ n. n) ts xs → Over suc suc ts xs
within ts xs p = record { left = p.left; tokens = p.tokens; starts = λ n h. p.starts (suc n) h; commas = λ d m. p.commas (suc d) m; others = p.others; stops = p.stops }

mutual
  pub term_over : (ts : List Token) (u : Tree) → Derives ts u → (us : List Token) (xs : List TokenSpan) → tokens_of xs ≡ ts ++ us → Over (λ n. n) (λ n. n) us xs
  term_over ts (int k) h us xs e = over_one (λ n. n) (λ n. n) (text.integer k) us xs (integer_quiet k) (e ∙ ap (λ l. l ++ us) h)
  term_over ts (atom s) h us xs e = over_one (λ n. n) (λ n. n) (text.atom s) us xs (atom_quiet s) (e ∙ ap (λ l. l ++ us) h)
  term_over ts (pid k) h us xs e = over_one (λ n. n) (λ n. n) (text.pid k) us xs (pid_quiet k) (e ∙ ap (λ l. l ++ us) h)
  term_over ts (tuple vs) h us xs e =
      let p = over_one (λ n. n) suc text.open_brace (h.0 ++ us) xs open_brace_quiet (e ∙ ap (λ l. l ++ us) h.1) in
      both_over (λ n. n) suc (λ n. n) (h.0 ++ us) us xs (λ n g. omega (arith, g)) p (all_over text.close_brace close_brace_quiet h.0 vs h.2 us p.left p.tokens)
  term_over ts (list vs) (inl h) us xs e =
      let p = over_one (λ n. n) suc text.open_bracket (h.0 ++ us) xs open_bracket_quiet (e ∙ ap (λ l. l ++ us) h.1) in
      both_over (λ n. n) suc (λ n. n) (h.0 ++ us) us xs (λ n g. omega (arith, g)) p (all_over text.close_bracket close_bracket_quiet h.0 vs h.2 us p.left p.tokens)
  term_over ts (list vs) (inr h) us xs e = over_one (λ n. n) (λ n. n) (text.characters h.0) us xs (characters_quiet h.0) (e ∙ ap (λ l. l ++ us) h.1)

  pub all_over : (close : Token) → IsQuiet suc (λ n. n) close → (ts : List Token) (vs : Trees) → DerivesAll close ts vs → (us : List Token) (xs : List TokenSpan) → tokens_of xs ≡ ts ++ us → Over suc (λ n. n) us xs
  all_over close q ts none h us xs e = over_one suc (λ n. n) close us xs q (e ∙ ap (λ l. l ++ us) h)
  all_over close q ts (more v vs) h us xs e =
      let p = within (h.1 ++ us) xs (term_over h.0 v h.3 (h.1 ++ us) xs (e ∙ ap (λ l. l ++ us) h.2 ∙ append_assoc h.0 h.1 us)) in
      both_over suc suc (λ n. n) (h.1 ++ us) us xs (λ n g. g) p (rest_over close q h.1 vs h.4 us p.left p.tokens)

  pub rest_over : (close : Token) → IsQuiet suc (λ n. n) close → (ts : List Token) (vs : Trees) → DerivesRest close ts vs → (us : List Token) (xs : List TokenSpan) → tokens_of xs ≡ ts ++ us → Over suc (λ n. n) us xs
  rest_over close q ts none h us xs e = over_one suc (λ n. n) close us xs q (e ∙ ap (λ l. l ++ us) h)
  rest_over close q ts (more v vs) h us xs e =
      let c = over_one suc suc text.comma ((h.0 ++ h.1) ++ us) xs comma_quiet (e ∙ ap (λ l. l ++ us) h.2) in
      let p = within (h.1 ++ us) c.left (term_over h.0 v h.3 (h.1 ++ us) c.left (c.tokens ∙ append_assoc h.0 h.1 us)) in
      both_over suc suc (λ n. n) ((h.0 ++ h.1) ++ us) us xs (λ n g. g) c
      (both_over suc suc (λ n. n) (h.1 ++ us) us c.left (λ n g. g) p (rest_over close q h.1 vs h.4 us p.left p.tokens))
