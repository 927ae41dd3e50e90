-- A form's own text spells its term, where the whole text spells terms.
use Rattle.std.proofs.Common.{◌≡◌, ℕ, zero, suc, ◌+◌, ◌-◌, ◌<◌, ◌≤◌, ◌==◌, ◌&&◌, cond, Bool, true, false, not, List, [], ◌∷◌, ◌++◌, length, take, drop, inl, inr, refl, ap, sym, ◌∙◌, subst, arith, append_assoc, length-append, length-drop}
use Rattle.std.proofs.lemmas.Bool.{cond-false, cond-true, cond_both, and_parts, and_from}
use Rattle.std.proofs.lemmas.List.{take_at, drop_at}
use Rattle.def_term.specs.Tree.{Tree, int, atom as name, pid as process, tuple, list, Trees, none, more}
use Rattle.def_text.specs.Tokens.{Token, open_brace, close_brace, open_bracket, close_bracket, comma, stop, integer, atom, characters, pid, bad, is_blank, gap_len, IsToken, TokenSpan, IsNextToken, TokensFrom}
use Rattle.def_text.specs.Grammar.{Derives, DerivesAll, DerivesRest, DerivesScript}
use Rattle.def_text.specs.Limits.{DEPTH, Fits}
use Rattle.def_text.specs.Forms.{is_stop, after_stops}
use Rattle.def_text.specs.Scripts.{EachFits, SpellsTerms}
use Rattle.def_text.specs.Spelling.{LENGTH, tokens_of}
use Rattle.def_text.proofs.TokenSteps.{nonempty, stands_of}
use Rattle.def_refusal.specs.ItemStarts.{depth_after}
use Rattle.tn_text.specs.Lexer.{AllGood}
use Rattle.tn_refusal.specs.declared.skim.Zone.TheVariants.{Code}
use Rattle.tn_refusal.specs.declared.skim.Aim.TheVariants.{Stops}
use Rattle.tn_refusal.specs.Skims.{role_of_sign, left_after, offset_past, AreAhead}
use Rattle.tn_refusal.specs.Pieces.{SpellsFirst}
use Rattle.tn_refusal.proofs.Refusals.{spelled_good}
use Rattle.tn_refusal.proofs.Skims.{sign_of, stop_sign, none_left, token_there, after_first, past_first}

-- ---- tokens of a front of a text

-- which token it is depends on one byte after it
same_first : (t : Token) (u : List ℕ) (b : ℕ) (bs cs : List ℕ) → IsToken u (b ∷ bs) t → IsToken u (b ∷ cs) t
same_first open_brace u b bs cs h = h
same_first close_brace u b bs cs h = h
same_first open_bracket u b bs cs h = h
same_first close_bracket u b bs cs h = h
same_first comma u b bs cs h = h
same_first stop u b bs cs h = h
same_first (integer n) u b bs cs h = h
same_first (atom s) u b bs cs (inl h) = inl (record { text = h.text; name = h.name; whole = h.whole; free = h.free })
same_first (atom s) u b bs cs (inr h) = inr h
same_first (characters s) u b bs cs h = h
same_first (pid n) u b bs cs h = h
same_first bad u b bs cs h = h

token_cut : (t : Token) (u rest w later : List ℕ) → rest ≡ w ++ later → 0 < length w → IsToken u rest t → IsToken u w t
token_cut t u rest [] later e some h = absurd (omega (arith, some))
token_cut t u rest (c ∷ cs) later e some h = same_first t u c (cs ++ later) cs (subst (λ r. IsToken u r t) e h)

-- blanks and comments before a byte that is of neither, whatever follows it
record Gap (inside : Bool) (n : ℕ) (bytes : List ℕ) (b : ℕ) (bs : List ℕ) : Type 0 where
  pub front : List ℕ
  pub split : bytes ≡ front ++ b ∷ bs
  pub size : length front ≡ n
  pub same : (cs : List ℕ) → gap_len inside (front ++ b ∷ cs) ≡ length front

next_one : (n : ℕ) (x : ℕ) (xs : List ℕ) (b : ℕ) (bs : List ℕ) → drop (n + 1) (x ∷ xs) ≡ b ∷ bs → drop n xs ≡ b ∷ bs
next_one n x xs b bs h = let e : suc n ≡ n + 1 = omega arith in ap (λ k. drop k (x ∷ xs)) e ∙ h

longer : (inside next : Bool) (n x : ℕ) (xs : List ℕ) (b : ℕ) (bs : List ℕ) → ((l : List ℕ) → gap_len inside (x ∷ l) ≡ gap_len next l + 1) → Gap next n xs b bs → Gap inside (n + 1) (x ∷ xs) b bs
longer inside next n x xs b bs step g = record {
  front = x ∷ g.front;
  split = ap (λ l. x ∷ l) g.split;
  size = let e = g.size in omega (arith, e);
  same = λ cs. step (g.front ++ b ∷ cs) ∙ (let e = g.same cs in omega (arith, e));
}

gap_at : (inside : Bool) (bytes : List ℕ) (b : ℕ) (bs : List ℕ) → drop (gap_len inside bytes) bytes ≡ b ∷ bs → Gap inside (gap_len inside bytes) bytes b bs
gap_at inside [] b bs h = absurd (cc)
gap_at true (x ∷ xs) b bs h =
    let n = gap_len (not (x == 10)) xs in
    longer true (not (x == 10)) n x xs b bs (λ l. refl) (gap_at (not (x == 10)) xs b bs (next_one n x xs b bs h))
gap_at false (x ∷ xs) b bs h =
    cond_both (x == 37) (gap_len true xs + 1) (cond (is_blank x) (gap_len false xs + 1) 0) (λ n. drop n (x ∷ xs) ≡ b ∷ bs → Gap false n (x ∷ xs) b bs)
    (λ is there. longer false true (gap_len true xs) x xs b bs (λ l. cond-true (x == 37) (gap_len true l + 1) (cond (is_blank x) (gap_len false l + 1) 0) is) (gap_at true xs b bs (next_one (gap_len true xs) x xs b bs there)))
    (λ other. cond_both (is_blank x) (gap_len false xs + 1) 0 (λ n. drop n (x ∷ xs) ≡ b ∷ bs → Gap false n (x ∷ xs) b bs)
    (λ is there. longer false false (gap_len false xs) x xs b bs
    (λ l. cond-false (x == 37) (gap_len true l + 1) (cond (is_blank x) (gap_len false l + 1) 0) other ∙ cond-true (is_blank x) (gap_len false l + 1) 0 is)
    (gap_at false xs b bs (next_one (gap_len false xs) x xs b bs there)))
    (λ last there.
    let first : x ≡ b = cc in
    record {
      front = [];
      split = there;
      size = refl;
      same = λ cs. ap (λ c. gap_len false (c ∷ cs)) (sym first) ∙ cond-false (x == 37) (gap_len true cs + 1) (cond (is_blank x) (gap_len false cs + 1) 0) other ∙ cond-false (is_blank x) (gap_len false cs + 1) 0 last;
    }))
    h

-- the front of the bytes that has these tokens and no others, and ends at that offset
record Cut (at : ℕ) (bytes : List ℕ) (xs : List TokenSpan) (end : ℕ) : Type 0 where
  pub piece : List ℕ
  pub later : List ℕ
  pub split : bytes ≡ piece ++ later
  pub some : 0 < length piece
  pub size : at + length piece ≡ end
  pub are : TokensFrom at piece xs

one_cut : (at : ℕ) (bytes u rest : List ℕ) (x : TokenSpan) → IsNextToken at bytes u rest x → (w later : List ℕ) → rest ≡ w ++ later → IsToken u w x.token → (xs : List TokenSpan) → TokensFrom x.to w xs → (end : ℕ) → x.to + length w ≡ end → Cut at bytes (x ∷ xs) end
one_cut at bytes [] rest x next w later e is xs are end size = absurd (let some = nonempty x.token [] w is in omega (arith, some))
one_cut at bytes (b ∷ us) rest x next w later e is xs are end size =
    let g = gap_at false bytes b (us ++ rest) next.split in
    let piece = g.front ++ b ∷ (us ++ w) in
    let gap = g.same (us ++ w) in
    let long = g.size in
    let from = next.from in
    let to = next.to in
    record {
      piece = piece;
      later = later;
      split =
          g.split ∙ ap (λ r. g.front ++ b ∷ (us ++ r)) e
          ∙ ap (λ l. g.front ++ b ∷ l) (sym (append_assoc us w later))
          ∙ sym (append_assoc g.front (b ∷ (us ++ w)) later);
      some = omega (arith, length-append g.front (b ∷ (us ++ w)));
      size = omega (arith, long, from, to, size, length-append g.front (b ∷ (us ++ w)), length-append us w);
      are = (
        b ∷ us,
        w,
        record {
          split = ap (λ n. drop n piece) gap ∙ drop_at g.front (b ∷ (us ++ w)) (length g.front) refl;
          from = from ∙ ap (λ n. at + n) (sym long ∙ sym gap);
          to = to;
          stands = stands_of x.token (b ∷ us) w is;
        },
        are,
      );
    }

last_stop : (t : Token) (u rest : List ℕ) → t ≡ stop → IsToken u rest t → IsToken u [] t
last_stop t u rest e h = let s : IsToken u rest stop = subst (IsToken u rest) e h in subst (IsToken u []) (sym e) (s.0, refl)

-- the front up to a full stop
cut : (at : ℕ) (bytes : List ℕ) (front : List TokenSpan) (x : TokenSpan) (later : List TokenSpan) → AllGood (front ++ x ∷ later) → x.token ≡ stop → TokensFrom at bytes (front ++ x ∷ later) → Cut at bytes (front ++ x ∷ []) x.to
cut at bytes [] x later good is h =
    one_cut at bytes h.0 h.1 x h.2 [] h.1 refl (last_stop x.token h.0 h.1 is (token_there x.token h.0 h.1 good.0 h.2.stands)) [] refl x.to (omega arith)
cut at bytes (y ∷ front) x later good is h =
    let r = cut y.to h.1 front x later good.1 is h.3 in
    one_cut at bytes h.0 h.1 y h.2 r.piece r.later r.split (token_cut y.token h.0 h.1 r.piece r.later r.split r.some (token_there y.token h.0 h.1 good.0 h.2.stands)) (front ++ x ∷ []) r.are x.to r.size

-- the same tokens, where the first byte has another offset
with_offset : (at off : ℕ) (bytes : List ℕ) (xs : List TokenSpan) → TokensFrom at bytes xs → (ys : List TokenSpan) × TokensFrom off bytes ys × (tokens_of ys ≡ tokens_of xs)
with_offset at off bytes [] h = ([], h, refl)
with_offset at off bytes (x ∷ xs) h =
    let from = off + gap_len false bytes in
    let to = from + length h.0 in
    let r = with_offset x.to to h.1 xs h.3 in
    (record { token = x.token; from = from; to = to } ∷ r.0, (h.0, h.1, record { split = h.2.split; from = refl; to = refl; stands = h.2.stands }, r.1), ap (λ ts. x.token ∷ ts) r.2)

-- ---- the tokens of one term of a script

-- a token, and no full stop
abbrev is_inner : Token → Bool
is_inner stop = false
is_inner t = true

abbrev are_inner : List Token → Bool
are_inner [] = true
are_inner (t ∷ ts) = is_inner t && are_inner ts

inner_append : (xs ys : List Token) → are_inner xs ≡ true → are_inner ys ≡ true → are_inner (xs ++ ys) ≡ true
inner_append [] ys e f = f
inner_append (x ∷ xs) ys e f = let p = and_parts (is_inner x) (are_inner xs) e in and_from (is_inner x) (are_inner (xs ++ ys)) p.0 (inner_append xs ys p.1 f)

mutual
  derives_inner : (ts : List Token) (u : Tree) → Derives ts u → are_inner ts ≡ true
  derives_inner ts (int n) h = ap are_inner h
  derives_inner ts (name s) h = ap are_inner h
  derives_inner ts (process n) h = ap are_inner h
  derives_inner ts (tuple us) h = ap are_inner h.1 ∙ all_inner close_brace h.0 us refl h.2
  derives_inner ts (list us) (inl h) = ap are_inner h.1 ∙ all_inner close_bracket h.0 us refl h.2
  derives_inner ts (list us) (inr h) = ap are_inner h.1

  all_inner : (close : Token) (ts : List Token) (us : Trees) → is_inner close ≡ true → DerivesAll close ts us → are_inner ts ≡ true
  all_inner close ts none c h = ap are_inner h ∙ and_from (is_inner close) true c refl
  all_inner close ts (more u us) c h = ap are_inner h.2 ∙ inner_append h.0 h.1 (derives_inner h.0 u h.3) (rest_inner close h.1 us c h.4)

  rest_inner : (close : Token) (ts : List Token) (us : Trees) → is_inner close ≡ true → DerivesRest close ts us → are_inner ts ≡ true
  rest_inner close ts none c h = ap are_inner h ∙ and_from (is_inner close) true c refl
  rest_inner close ts (more u us) c h = ap are_inner h.2 ∙ inner_append h.0 h.1 (derives_inner h.0 u h.3) (rest_inner close h.1 us c h.4)

-- the spans of tokens in two parts
record Parts (xs : List TokenSpan) (front rest : List Token) : Type 0 where
  pub before : List TokenSpan
  pub after : List TokenSpan
  pub split : xs ≡ before ++ after
  pub fronts : tokens_of before ≡ front
  pub rests : tokens_of after ≡ rest

parts_at : (xs : List TokenSpan) (front rest : List Token) → tokens_of xs ≡ front ++ rest → Parts xs front rest
parts_at xs [] rest e = record { before = []; after = xs; split = refl; fronts = refl; rests = e }
parts_at [] (t ∷ front) rest e = absurd (cc)
parts_at (x ∷ xs) (t ∷ front) rest e =
    let same : x.token ≡ t = cc in
    let others : tokens_of xs ≡ front ++ rest = cc in
    let p = parts_at xs front rest others in
    record { before = x ∷ p.before; after = p.after; split = ap (λ l. x ∷ l) p.split; fronts = ap (λ l. x.token ∷ l) p.fronts ∙ ap (λ y. y ∷ front) same; rests = p.rests }

stop_is : (t : Token) → t ≡ stop → is_stop t ≡ true
stop_is t e = ap is_stop e

inner_not : (t : Token) → is_inner t ≡ true → is_stop t ≡ false
inner_not stop e = absurd (cc)
inner_not open_brace e = refl
inner_not close_brace e = refl
inner_not open_bracket e = refl
inner_not close_bracket e = refl
inner_not comma e = refl
inner_not (integer n) e = refl
inner_not (atom s) e = refl
inner_not (characters s) e = refl
inner_not (pid n) e = refl
inner_not bad e = refl

past_one : (n : ℕ) (front : List TokenSpan) (x : TokenSpan) (later : List TokenSpan) → are_inner (tokens_of front) ≡ true → x.token ≡ stop → after_stops (suc n) (front ++ x ∷ later) ≡ after_stops n later
past_one n [] x later inner is = cond-true (is_stop x.token) (after_stops n later) (after_stops (suc n) later) (stop_is x.token is)
past_one n (y ∷ front) x later inner is =
    let p = and_parts (is_inner y.token) (are_inner (tokens_of front)) inner in
    cond-false (is_stop y.token) (after_stops n (front ++ x ∷ later)) (after_stops (suc n) (front ++ x ∷ later)) (inner_not y.token p.0) ∙ past_one n front x later p.1 is

-- the tokens of a term, with the full stop after it
record TermAt (xs : List TokenSpan) (t : Tree) : Type 0 where
  pub front : List TokenSpan
  pub last : TokenSpan
  pub later : List TokenSpan
  pub whole : xs ≡ front ++ last ∷ later
  pub is : last.token ≡ stop
  pub inner : are_inner (tokens_of front) ≡ true
  pub derives : Derives (tokens_of front) t

-- the first of the terms, and the others
record FirstTerm (xs : List TokenSpan) (t : Tree) (ts : List Tree) : Type 0 where
  pub first : TermAt xs t
  pub others : DerivesScript (tokens_of first.later) ts

with_stop : (xs before after : List TokenSpan) (t : Tree) (ts : List Tree) (front rest : List Token) → xs ≡ before ++ after → tokens_of before ≡ front → tokens_of after ≡ stop ∷ rest → Derives front t → DerivesScript rest ts → FirstTerm xs t ts
with_stop xs before [] t ts front rest split e f d others = absurd (cc)
with_stop xs before (x ∷ later) t ts front rest split e f d others =
    let derives = subst (λ l. Derives l t) (sym e) d in
    let left : rest ≡ tokens_of later = cc in
    record {
      first = record { front = before; last = x; later = later; whole = split; is = cc; inner = derives_inner (tokens_of before) t derives; derives = derives };
      others = subst (λ l. DerivesScript l ts) left others;
    }

first_term : (xs : List TokenSpan) (t : Tree) (ts : List Tree) → DerivesScript (tokens_of xs) (t ∷ ts) → FirstTerm xs t ts
first_term xs t ts h =
    let p = parts_at xs h.0 (stop ∷ h.1) h.2 in
    with_stop xs p.before p.after t ts h.0 h.1 p.split p.fronts p.rests h.3 h.4

-- the tokens after so many full stops are those of the terms after so many
derives_after : (n : ℕ) (ts : List Tree) (xs : List TokenSpan) → DerivesScript (tokens_of xs) ts → n < suc (length ts) → DerivesScript (tokens_of (after_stops n xs)) (drop n ts)
derives_after zero ts xs h below = h
derives_after (suc n) [] xs h below = absurd (omega (arith, below))
derives_after (suc n) (t ∷ ts) xs h below =
    let f = first_term xs t ts h in
    let k = f.first in
    let same : after_stops n k.later ≡ after_stops (suc n) xs = sym (past_one n k.front k.last k.later k.inner k.is) ∙ ap (after_stops (suc n)) (sym k.whole) in
    subst (λ l. DerivesScript (tokens_of l) (drop n ts)) same (derives_after n ts k.later f.others (omega (arith, below)))

fits_after : (n : ℕ) (ts : List Tree) → EachFits DEPTH true ts → EachFits DEPTH true (drop n ts)
fits_after zero ts h = h
fits_after (suc n) [] h = h
fits_after (suc n) (t ∷ ts) h = fits_after n ts h.1

-- ---- the piece of a form

tokens_with : (front : List TokenSpan) (x : TokenSpan) → x.token ≡ stop → tokens_of (front ++ x ∷ []) ≡ tokens_of front ++ stop ∷ []
tokens_with [] x is = ap (λ t. t ∷ []) is
tokens_with (y ∷ front) x is = ap (λ ts. y.token ∷ ts) (tokens_with front x is)

-- the offset after the next full stop
stop_end : (bytes : List ℕ) (d at : ℕ) (front : List TokenSpan) (x : TokenSpan) (later : List TokenSpan) → are_inner (tokens_of front) ≡ true → x.token ≡ stop → AreAhead bytes at (front ++ x ∷ later)
    → offset_past Stops Code d 1 at (drop at bytes) ≡ x.to
stop_end bytes d at [] x later inner is h =
    past_first bytes Stops d 0 at x later (after_first bytes at x later h)
    ∙ ap (λ t. offset_past Stops Code (depth_after d (role_of_sign (sign_of t))) (left_after Stops d 1 (sign_of t)) x.to (drop x.to bytes)) is
    ∙ none_left Stops Code d x.to (drop x.to bytes)
stop_end bytes d at (y ∷ front) x later inner is h =
    let f = after_first bytes at y (front ++ x ∷ later) h in
    let p = and_parts (is_inner y.token) (are_inner (tokens_of front)) inner in
    let e = depth_after d (role_of_sign (sign_of y.token)) in
    past_first bytes Stops d 0 at y (front ++ x ∷ later) f
    ∙ ap (λ c. offset_past Stops Code e (cond c 0 1) y.to (drop y.to bytes)) (sym (stop_sign y.token) ∙ inner_not y.token p.0)
    ∙ stop_end bytes e y.to front x later p.1 is f.ahead

-- the piece that ends with the full stop of a term spells it
of_term : (bytes : List ℕ) (from to : ℕ) (t : Tree) (xs : List TokenSpan) → length bytes ≤ LENGTH → Fits DEPTH true t → AreAhead bytes from xs → TermAt xs t → to ≡ offset_past Stops Code 0 1 from (drop from bytes)
    → SpellsTerms (take (to - from) (drop from bytes)) (t ∷ [])
of_term bytes from to t xs short fits ahead k is =
    let h = subst (AreAhead bytes from) k.whole ahead in
    let end = is ∙ stop_end bytes 0 from k.front k.last k.later k.inner k.is h in
    let c = cut from (drop from bytes) k.front k.last k.later h.good k.is h.are in
    let size = c.size in
    let piece : take (to - from) (drop from bytes) ≡ c.piece = ap (take (to - from)) c.split ∙ take_at c.piece c.later (to - from) (omega (arith, end, size)) in
    let m = with_offset from 0 c.piece (k.front ++ k.last ∷ []) c.are in
    subst (λ l. SpellsTerms l (t ∷ [])) (sym piece) (record {
      short = let all = ap length c.split in omega (arith, all, short, length-append c.piece c.later, length-drop from bytes);
      tokens = m.0;
      are = m.1;
      derives = (tokens_of k.front, [], m.2 ∙ tokens_with k.front k.last k.is, k.derives, refl);
      fits = (fits, tt);
    })

of_terms : (bytes : List ℕ) (ts : List Tree) (n from to : ℕ) → SpellsTerms bytes ts → ((xs : List TokenSpan) → AreAhead bytes 0 xs → AreAhead bytes from (after_stops n xs)) → to ≡ offset_past Stops Code 0 1 from (drop from bytes)
    → (us : List Tree) → drop n ts ≡ us → SpellsFirst (take (to - from) (drop from bytes)) us
of_terms bytes ts n from to s ahead is [] e = tt
of_terms bytes ts n from to s ahead is (t ∷ us) e =
    let some = ap length e in
    let derives = derives_after n ts s.tokens s.derives (omega (arith, some, length-drop n ts)) in
    let f = first_term (after_stops n s.tokens) t us (subst (DerivesScript (tokens_of (after_stops n s.tokens))) e derives) in
    let fits = subst (EachFits DEPTH true) e (fits_after n ts s.fits) in
    of_term bytes from to t (after_stops n s.tokens) s.short fits.0 (ahead s.tokens (record { are = s.are; good = spelled_good bytes ts s })) f.first is

-- from after n full stops to after the next, where the text spells terms
pub piece_spells : (bytes : List ℕ) (ts : List Tree) (n from to : ℕ) → SpellsTerms bytes ts → ((xs : List TokenSpan) → AreAhead bytes 0 xs → AreAhead bytes from (after_stops n xs)) → to ≡ offset_past Stops Code 0 1 from (drop from bytes)
    → SpellsFirst (take (to - from) (drop from bytes)) (drop n ts)
piece_spells bytes ts n from to s ahead is = of_terms bytes ts n from to s ahead is (drop n ts) refl
