-- Bytes are passed as the tokens that they are.
use Rattle.std.proofs.Common.{not, get_or, ◌<◌, ◌≤◌, ◌≡◌, ◌≢◌, ℕ, zero, suc, ◌+◌, ◌-◌, ◌==◌, ◌&&◌, ◌||◌, cond, Bool, true, false, List, [], ◌∷◌, ◌++◌, length, drop, flat_map, codes, refl, ap, sym, ◌∙◌, subst, arith, append_assoc, length-append, length-drop, inl, inr}
use Rattle.std.proofs.lemmas.Bool.{and_parts, and_from, ne_eqb, cond-false, cond-true, cond_both, or_parts}
use Rattle.std.proofs.lemmas.Bool.Decides.{nat_tests}
use Rattle.std.proofs.lemmas.List.{drop-drop, drop_at, drop_more, drop_all}
use Rattle.def_term.specs.Text.{is_name, is_digit, is_lower, is_name_byte, are_name_bytes}
use Rattle.def_text.specs.Tokens.{Token, open_brace, close_brace, open_bracket, close_bracket, comma, stop, integer, atom, characters, pid, bad, is_blank, gap_len, all_are, ends_form, in_quotes, escaped_in, IsToken, Stands, TokenSpan, TokensFrom}
use Rattle.def_text.specs.Spelling.{offset_of}
use Rattle.def_text.proofs.TokenSteps.{nonempty}
use Rattle.def_text.proofs.TokenSound.{same_names}
use Rattle.def_text.specs.Forms.{is_stop, after_stops}
use Rattle.def_refusal.specs.ItemStarts.{role_of, depth_after, commas_after, tokens_past_commas, is_opener, in_bracket}
use Rattle.tn_refusal.specs.declared.skim.Zone.{Zone}
use Rattle.tn_refusal.specs.declared.skim.Zone.TheVariants.{Code, Comment, Quoted, Escaped}
use Rattle.tn_refusal.specs.declared.skim.Sign.{Sign}
use Rattle.tn_refusal.specs.declared.skim.Sign.TheVariants.{Opener, Closer, Separator, Stop, Plain}
use Rattle.tn_refusal.specs.declared.skim.Aim.{Aim}
use Rattle.tn_refusal.specs.declared.skim.Aim.TheVariants.{Stops, Commas}
use Rattle.tn_refusal.specs.Skims.{zone_after, sign_of_byte, sign_in, role_of_sign, is_stop_sign, left_after, offset_past, AreAhead}

-- what a token does
abbrev pub sign_of : Token → Sign
sign_of open_brace = Opener
sign_of close_brace = Closer
sign_of open_bracket = Opener
sign_of close_bracket = Closer
sign_of comma = Separator
sign_of stop = Stop
sign_of t = Plain

-- ---- bytes

-- one byte, where something is left
one_byte : (a : Aim) (z : Zone) (d n at b : ℕ) (bs : List ℕ) → offset_past a z d (suc n) at (b ∷ bs) ≡ offset_past a (zone_after z b) (depth_after d (role_of_sign (sign_in z b bs))) (left_after a d (suc n) (sign_in z b bs)) (at + 1) bs
one_byte a z d n at b bs =
    cond-false (suc n == 0) at (offset_past a (zone_after z b) (depth_after d (role_of_sign (sign_in z b bs))) (left_after a d (suc n) (sign_in z b bs)) (at + 1) bs) (ne_eqb (suc n) 0 (λ e. omega (arith, e)))

plain_left : (a : Aim) (d n : ℕ) → left_after a d n Plain ≡ n
plain_left Stops d n = refl
plain_left Commas d n = refl

-- a byte that does nothing
plain_byte : (a : Aim) (z y : Zone) (d n at b : ℕ) (bs : List ℕ) → sign_in z b bs ≡ Plain → zone_after z b ≡ y → offset_past a z d (suc n) at (b ∷ bs) ≡ offset_past a y d (suc n) (at + 1) bs
plain_byte a z y d n at b bs s e =
    one_byte a z d n at b bs
    ∙ ap (λ k. offset_past a (zone_after z b) (depth_after d (role_of_sign k)) (left_after a d (suc n) k) (at + 1) bs) s
    ∙ ap (λ m. offset_past a (zone_after z b) d m (at + 1) bs) (plain_left a d (suc n))
    ∙ ap (λ w. offset_past a w d (suc n) (at + 1) bs) e

-- a byte outside of quotes and comments that does nothing and opens none
abbrev is_plain : ℕ → Bool
is_plain b = not ((b == 123) || (b == 91) || (b == 125) || (b == 93) || (b == 44) || (b == 46) || (b == 37) || (b == 39) || (b == 34))

plain_sign : (b : ℕ) (bs : List ℕ) → is_plain b ≡ true → sign_of_byte b bs ≡ Plain
plain_sign b bs h =
    cond-false ((b == 123) || (b == 91)) Opener _ (grind (arith, nat_tests, h))
    ∙ cond-false ((b == 125) || (b == 93)) Closer _ (grind (arith, nat_tests, h))
    ∙ cond-false (b == 44) Separator _ (grind (arith, nat_tests, h))
    ∙ ap (λ t. cond (t && ends_form bs) Stop Plain) (let e : (b == 46) ≡ false = grind (arith, nat_tests, h) in e)

plain_zone : (b : ℕ) → is_plain b ≡ true → zone_after Code b ≡ Code
plain_zone b h = cond-false (b == 37) Comment _ (grind (arith, nat_tests, h)) ∙ cond-false ((b == 39) || (b == 34)) (Quoted b) Code (grind (arith, nat_tests, h))

digit_plain : (b : ℕ) → is_digit b ≡ true → is_plain b ≡ true
digit_plain b h = grind (arith, nat_tests)

name_plain : (b : ℕ) → is_name_byte b ≡ true → is_plain b ≡ true
name_plain b h = grind (arith, nat_tests)

blank_plain : (b : ℕ) → is_blank b ≡ true → is_plain b ≡ true
blank_plain b h = grind (arith, nat_tests)

all_plain : (p : ℕ → Bool) (bs : List ℕ) → ((b : ℕ) → p b ≡ true → is_plain b ≡ true) → all_are p bs ≡ true → all_are is_plain bs ≡ true
all_plain p [] f h = refl
all_plain p (b ∷ bs) f h = let q = and_parts (p b) (all_are p bs) h in and_from (is_plain b) (all_are is_plain bs) (f b q.0) (all_plain p bs f q.1)

name_bytes : (s : List ℕ) → is_name s ≡ true → all_are is_plain s ≡ true
name_bytes [] h = absurd (cc)
name_bytes (b ∷ s) h =
    let p = and_parts (is_lower b) (are_name_bytes s) h in
    and_from (is_plain b) (all_are is_plain s) (name_plain b (let low = p.0 in grind (arith, nat_tests, low))) (all_plain is_name_byte s name_plain (sym (same_names s) ∙ p.1))

code_byte : (a : Aim) (d n at b : ℕ) (bs : List ℕ) → is_plain b ≡ true → offset_past a Code d (suc n) at (b ∷ bs) ≡ offset_past a Code d (suc n) (at + 1) bs
code_byte a d n at b bs h = plain_byte a Code Code d n at b bs (plain_sign b bs h) (plain_zone b h)

pub none_left : (a : Aim) (z : Zone) (d at : ℕ) (bs : List ℕ) → offset_past a z d 0 at bs ≡ at
none_left a z d at [] = refl
none_left a z d at (b ∷ bs) = refl

pub depth_le : (d : ℕ) (s : Sign) → depth_after d (role_of_sign s) ≤ d + 1
depth_le d Opener = omega arith
depth_le d Closer = omega arith
depth_le d Separator = omega arith
depth_le d Stop = omega arith
depth_le d Plain = omega arith

pub one_on : (a : Aim) (z : Zone) (d n i : ℕ) (text : List ℕ) → (n ≡ 0 → ⊥) → i < length text
    → offset_past a (zone_after z (get_or text i 0)) (depth_after d (role_of_sign (sign_in z (get_or text i 0) (drop (i + 1) text)))) (left_after a d n (sign_in z (get_or text i 0) (drop (i + 1) text))) (i + 1) (drop (i + 1) text)
    ≡ offset_past a z d n i (drop i text)
one_on a z d n i text some below =
    sym (ap (offset_past a z d n i) (drop_more text i 0 below)
    ∙ cond-false (n == 0) i _ (ne_eqb n 0 some))

-- ---- blanks and comments

-- the zone of a gap, in a comment or not
abbrev gap_zone : Bool → Zone
gap_zone true = Comment
gap_zone false = Code

by_feed : (c : Bool) → cond c Code Comment ≡ gap_zone (not c)
by_feed true = refl
by_feed false = refl

comment_zone : (b : ℕ) → zone_after Comment b ≡ gap_zone (not (b == 10))
comment_zone b = by_feed (b == 10)

comment_byte : (a : Aim) (d n at b : ℕ) (bs : List ℕ) → (b == 37) ≡ true → offset_past a Code d (suc n) at (b ∷ bs) ≡ offset_past a Comment d (suc n) (at + 1) bs
comment_byte a d n at b bs h =
    let is : b ≡ 37 = grind (arith, nat_tests, h) in
    plain_byte a Code Comment d n at b bs (ap (λ c. sign_of_byte c bs) is) (ap (zone_after Code) is)

one_more : (a : Aim) (d n at b : ℕ) (bs : List ℕ) (g : ℕ) → offset_past a Code d (suc n) (at + 1 + g) (drop g bs) ≡ offset_past a Code d (suc n) (at + (g + 1)) (drop (g + 1) (b ∷ bs))
one_more a d n at b bs g =
    let e : at + 1 + g ≡ at + (g + 1) = omega arith in
    let f : suc g ≡ g + 1 = omega arith in
    ap (λ m. offset_past a Code d (suc n) m (drop g bs)) e ∙ ap (λ k. offset_past a Code d (suc n) (at + (g + 1)) (drop k (b ∷ bs))) f

past_gap : (a : Aim) (c : Bool) (d n at : ℕ) (bs : List ℕ) → offset_past a (gap_zone c) d (suc n) at bs ≡ offset_past a Code d (suc n) (at + gap_len c bs) (drop (gap_len c bs) bs)
past_gap a c d n at [] = omega arith
past_gap a true d n at (b ∷ bs) =
    plain_byte a Comment (gap_zone (not (b == 10))) d n at b bs refl (comment_zone b)
    ∙ past_gap a (not (b == 10)) d n (at + 1) bs
    ∙ one_more a d n at b bs (gap_len (not (b == 10)) bs)
past_gap a false d n at (b ∷ bs) =
    cond_both (b == 37) (gap_len true bs + 1) (cond (is_blank b) (gap_len false bs + 1) 0) (λ g. offset_past a Code d (suc n) at (b ∷ bs) ≡ offset_past a Code d (suc n) (at + g) (drop g (b ∷ bs)))
    (λ h. comment_byte a d n at b bs h ∙ past_gap a true d n (at + 1) bs ∙ one_more a d n at b bs (gap_len true bs))
    (λ h. cond_both (is_blank b) (gap_len false bs + 1) 0 (λ g. offset_past a Code d (suc n) at (b ∷ bs) ≡ offset_past a Code d (suc n) (at + g) (drop g (b ∷ bs)))
    (λ k. code_byte a d n at b bs (blank_plain b k) ∙ past_gap a false d n (at + 1) bs ∙ one_more a d n at b bs (gap_len false bs))
    (λ k. ap (λ m. offset_past a Code d (suc n) m (b ∷ bs)) (let e : at ≡ at + 0 = omega arith in e)))

-- ---- tokens

past_plain : (a : Aim) (d n at : ℕ) (us rest : List ℕ) → all_are is_plain us ≡ true → offset_past a Code d (suc n) at (us ++ rest) ≡ offset_past a Code d (suc n) (at + length us) rest
past_plain a d n at [] rest h = ap (λ m. offset_past a Code d (suc n) m rest) (let e : at ≡ at + 0 = omega arith in e)
past_plain a d n at (b ∷ us) rest h =
    let p = and_parts (is_plain b) (all_are is_plain us) h in
    code_byte a d n at b (us ++ rest) p.0 ∙ past_plain a d n (at + 1) us rest p.1
    ∙ ap (λ m. offset_past a Code d (suc n) m rest) (let e : at + 1 + length us ≡ at + suc (length us) = omega arith in e)

-- the same offset, by another sum
at_sum : (a : Aim) (z : Zone) (d n at b : ℕ) (bs : List ℕ) → at ≡ b → offset_past a z d n at bs ≡ offset_past a z d n b bs
at_sum a z d n at b bs e = ap (λ m. offset_past a z d n m bs) e

-- the characters between quotes, and the closing one
past_inside : (a : Aim) (q d n at : ℕ) (s rest : List ℕ) → (q == q) ≡ true → (92 == q) ≡ false
    → offset_past a (Quoted q) d (suc n) at (flat_map (escaped_in q) s ++ q ∷ rest) ≡ offset_past a Code d (suc n) (at + (length (flat_map (escaped_in q) s) + 1)) rest
past_inside a q d n at [] rest own other =
    plain_byte a (Quoted q) Code d n at q rest refl (cond-true (q == q) Code _ own) ∙ at_sum a Code d (suc n) (at + 1) (at + (0 + 1)) rest (omega arith)
past_inside a q d n at (b ∷ s) rest own other =
    cond_both ((b == q) || (b == 92)) (92 ∷ b ∷ []) (b ∷ [])
    (λ e. offset_past a (Quoted q) d (suc n) at ((e ++ flat_map (escaped_in q) s) ++ q ∷ rest) ≡ offset_past a Code d (suc n) (at + (length (e ++ flat_map (escaped_in q) s) + 1)) rest)
    (λ h.
    plain_byte a (Quoted q) (Escaped q) d n at 92 (b ∷ (flat_map (escaped_in q) s ++ q ∷ rest)) refl (cond-false (92 == q) Code _ other)
    ∙ plain_byte a (Escaped q) (Quoted q) d n (at + 1) b (flat_map (escaped_in q) s ++ q ∷ rest) refl refl
    ∙ past_inside a q d n (at + 1 + 1) s rest own other
    ∙ at_sum a Code d (suc n) (at + 1 + 1 + (length (flat_map (escaped_in q) s) + 1)) (at + (suc (suc (length (flat_map (escaped_in q) s))) + 1)) rest (omega arith))
    (λ h.
    let p = or_parts (b == q) (b == 92) h in
    plain_byte a (Quoted q) (Quoted q) d n at b (flat_map (escaped_in q) s ++ q ∷ rest) refl (cond-false (b == q) Code _ p.0 ∙ cond-false (b == 92) (Escaped q) (Quoted q) p.1)
    ∙ past_inside a q d n (at + 1) s rest own other
    ∙ at_sum a Code d (suc n) (at + 1 + (length (flat_map (escaped_in q) s) + 1)) (at + (suc (length (flat_map (escaped_in q) s)) + 1)) rest (omega arith))

past_quoted : (a : Aim) (q d n at : ℕ) (u s rest : List ℕ) → u ≡ in_quotes q s → (q == q) ≡ true → (92 == q) ≡ false → zone_after Code q ≡ Quoted q → ((bs : List ℕ) → sign_of_byte q bs ≡ Plain)
    → offset_past a Code d (suc n) at (u ++ rest) ≡ offset_past a Code d (suc n) (at + length u) rest
past_quoted a q d n at u s rest is own other opens plain =
    let inner = flat_map (escaped_in q) s in
    ap (λ x. offset_past a Code d (suc n) at (x ++ rest)) is
    ∙ plain_byte a Code (Quoted q) d n at q ((inner ++ q ∷ []) ++ rest) (plain ((inner ++ q ∷ []) ++ rest)) opens
    ∙ ap (offset_past a (Quoted q) d (suc n) (at + 1)) (append_assoc inner (q ∷ []) rest)
    ∙ past_inside a q d n (at + 1) s rest own other
    ∙ at_sum a Code d (suc n) (at + 1 + (length inner + 1)) (at + length u) rest (let size = ap length is in omega (arith, size, length-append inner (q ∷ [])))

-- a token that is one byte
past_byte : (a : Aim) (d n at b : ℕ) (k : Sign) (u rest : List ℕ) → u ≡ b ∷ [] → sign_of_byte b rest ≡ k → zone_after Code b ≡ Code
    → offset_past a Code d (suc n) at (u ++ rest) ≡ offset_past a Code (depth_after d (role_of_sign k)) (left_after a d (suc n) k) (at + length u) rest
past_byte a d n at b k u rest is sign zone =
    ap (λ x. offset_past a Code d (suc n) at (x ++ rest)) is
    ∙ one_byte a Code d n at b rest
    ∙ ap (λ z. offset_past a z (depth_after d (role_of_sign (sign_of_byte b rest))) (left_after a d (suc n) (sign_of_byte b rest)) (at + 1) rest) zone
    ∙ ap (λ s. offset_past a Code (depth_after d (role_of_sign s)) (left_after a d (suc n) s) (at + 1) rest) sign
    ∙ at_sum a Code (depth_after d (role_of_sign k)) (left_after a d (suc n) k) (at + 1) (at + length u) rest (let size = ap length is in omega (arith, size))

-- a dot within a pid
dot_plain : (b : ℕ) (bs : List ℕ) → is_blank b ≡ false → (b == 37) ≡ false → sign_of_byte 46 (b ∷ bs) ≡ Plain
dot_plain b bs h k = cond-false (is_blank b || (b == 37)) Stop Plain (grind (arith, nat_tests, h, k))

past_pid : (a : Aim) (d n at : ℕ) (ds rest : List ℕ) → 0 < length ds → all_are is_digit ds ≡ true
    → offset_past a Code d (suc n) at (codes "<0." ++ (ds ++ codes ".0>") ++ rest) ≡ offset_past a Code d (suc n) (at + (length ds + 6)) rest
past_pid a d n at [] rest some all = absurd (omega (arith, some))
past_pid a d n at (e ∷ ds) rest some all =
    let first = (and_parts (is_digit e) (all_are is_digit ds) all).0 in
    let ends = codes ".0>" ++ rest in
    let tail = ds ++ ends in
    let join : ((e ∷ ds) ++ codes ".0>") ++ rest ≡ (e ∷ ds) ++ ends = append_assoc (e ∷ ds) (codes ".0>") rest in
    code_byte a d n at 60 (48 ∷ 46 ∷ (((e ∷ ds) ++ codes ".0>") ++ rest)) refl
    ∙ code_byte a d n (at + 1) 48 (46 ∷ (((e ∷ ds) ++ codes ".0>") ++ rest)) refl
    ∙ plain_byte a Code Code d n (at + 1 + 1) 46 (((e ∷ ds) ++ codes ".0>") ++ rest) (dot_plain e ((ds ++ codes ".0>") ++ rest) (grind (arith, nat_tests, first)) (grind (arith, nat_tests, first))) refl
    ∙ ap (offset_past a Code d (suc n) (at + 1 + 1 + 1)) join
    ∙ past_plain a d n (at + 1 + 1 + 1) (e ∷ ds) ends (all_plain is_digit (e ∷ ds) digit_plain all)
    ∙ plain_byte a Code Code d n (at + 1 + 1 + 1 + length (e ∷ ds)) 46 (48 ∷ 62 ∷ rest) (dot_plain 48 (62 ∷ rest) refl refl) refl
    ∙ code_byte a d n (at + 1 + 1 + 1 + length (e ∷ ds) + 1) 48 (62 ∷ rest) refl
    ∙ code_byte a d n (at + 1 + 1 + 1 + length (e ∷ ds) + 1 + 1) 62 rest refl
    ∙ at_sum a Code d (suc n) (at + 1 + 1 + 1 + length (e ∷ ds) + 1 + 1 + 1) (at + (length (e ∷ ds) + 6)) rest (omega arith)

-- a token that does nothing
plain_token : (a : Aim) (d n at : ℕ) (rest : List ℕ) (m : ℕ) → m ≡ offset_past a Code d (suc n) at rest → m ≡ offset_past a Code d (left_after a d (suc n) Plain) at rest
plain_token a d n at rest m e = e ∙ ap (λ k. offset_past a Code d k at rest) (sym (plain_left a d (suc n)))

pub past_token : (a : Aim) (d n at : ℕ) (t : Token) (u rest : List ℕ) → IsToken u rest t
    → offset_past a Code d (suc n) at (u ++ rest) ≡ offset_past a Code (depth_after d (role_of_sign (sign_of t))) (left_after a d (suc n) (sign_of t)) (at + length u) rest
past_token a d n at open_brace u rest h = past_byte a d n at 123 Opener u rest h refl refl
past_token a d n at close_brace u rest h = past_byte a d n at 125 Closer u rest h refl refl
past_token a d n at open_bracket u rest h = past_byte a d n at 91 Opener u rest h refl refl
past_token a d n at close_bracket u rest h = past_byte a d n at 93 Closer u rest h refl refl
past_token a d n at comma u rest h = past_byte a d n at 44 Separator u rest h refl refl
past_token a d n at stop u rest h = past_byte a d n at 46 Stop u rest h.0 (ap (λ c. cond c Stop Plain) h.1) refl
past_token a d n at (integer k) u rest (over, inl h) =
    plain_token a d n (at + length u) rest _ (past_plain a d n at u rest (all_plain is_digit u digit_plain h.0.all))
past_token a d n at (integer k) u rest (over, inr h) =
    plain_token a d n (at + length u) rest _
    (past_plain a d n at u rest (subst (λ x. all_are is_plain x ≡ true) (sym h.1) (all_plain is_digit h.0 digit_plain h.2.all)))
past_token a d n at (atom s) u rest (inl h) =
    plain_token a d n (at + length u) rest _ (past_plain a d n at u rest (subst (λ x. all_are is_plain x ≡ true) (sym h.text) (name_bytes s h.name)))
past_token a d n at (atom s) u rest (inr h) =
    plain_token a d n (at + length u) rest _ (past_quoted a 39 d n at u s rest h.text refl refl refl (λ bs. refl))
past_token a d n at (characters s) u rest h =
    plain_token a d n (at + length u) rest _ (past_quoted a 34 d n at u s rest h.text refl refl refl (λ bs. refl))
past_token a d n at (pid k) u rest (ds, h) =
    let size : length u ≡ length ds + 6 = (let e = ap length h.text in omega (arith, e, length-append ds (codes ".0>"))) in
    plain_token a d n (at + length u) rest _
    (ap (λ x. offset_past a Code d (suc n) at (x ++ rest)) h.text ∙ past_pid a d n at ds rest h.digits.some h.digits.all ∙ at_sum a Code d (suc n) (at + (length ds + 6)) (at + length u) rest (let e = size in omega (arith, e)))
past_token a d n at bad u rest h = absurd h

-- ---- all tokens

pub token_there : (t : Token) (u rest : List ℕ) → (t ≢ bad) → Stands u rest t → IsToken u rest t
token_there open_brace u rest g h = h
token_there close_brace u rest g h = h
token_there open_bracket u rest g h = h
token_there close_bracket u rest g h = h
token_there comma u rest g h = h
token_there stop u rest g h = h
token_there (integer n) u rest g h = h
token_there (atom s) u rest g h = h
token_there (characters s) u rest g h = h
token_there (pid n) u rest g h = h
token_there bad u rest g h = absurd (g refl)

-- the tokens after so many full stops, or commas outside of brackets, where so many brackets are open
abbrev tokens_past : Aim → ℕ → ℕ → List TokenSpan → List TokenSpan
tokens_past a d n [] = []
tokens_past a d n (x ∷ xs) = cond (n == 0) (x ∷ xs) (tokens_past a (depth_after d (role_of_sign (sign_of x.token))) (left_after a d n (sign_of x.token)) xs)

none_past : (a : Aim) (d : ℕ) (xs : List TokenSpan) → tokens_past a d 0 xs ≡ xs
none_past a d [] = refl
none_past a d (x ∷ xs) = refl

some_past : (a : Aim) (d n : ℕ) (x : TokenSpan) (xs : List TokenSpan) → tokens_past a d (suc n) (x ∷ xs) ≡ tokens_past a (depth_after d (role_of_sign (sign_of x.token))) (left_after a d (suc n) (sign_of x.token)) xs
some_past a d n x xs = cond-false (suc n == 0) (x ∷ xs) _ (ne_eqb (suc n) 0 (λ e. omega (arith, e)))

-- what is after the first token
pub record AfterFirst (bytes : List ℕ) (at : ℕ) (x : TokenSpan) (xs : List TokenSpan) : Type 0 where
  pub token : List ℕ
  pub rest : List ℕ
  pub there : drop (at + gap_len false (drop at bytes)) bytes ≡ token ++ rest
  pub is : IsToken token rest x.token
  pub from : x.from ≡ at + gap_len false (drop at bytes)
  pub end : at + gap_len false (drop at bytes) + length token ≡ x.to
  pub left : rest ≡ drop x.to bytes
  pub ahead : AreAhead bytes x.to xs

pub after_first : (bytes : List ℕ) (at : ℕ) (x : TokenSpan) (xs : List TokenSpan) → AreAhead bytes at (x ∷ xs) → AfterFirst bytes at x xs
after_first bytes at x xs h =
    let gap = gap_len false (drop at bytes) in
    let u = h.are.0 in
    let rest = h.are.1 in
    let next = h.are.2 in
    let there : drop (at + gap) bytes ≡ u ++ rest = sym (drop-drop gap at bytes) ∙ next.split in
    let end : at + gap + length u ≡ x.to = sym (next.to ∙ ap (λ k. k + length u) next.from) in
    let left : rest ≡ drop x.to bytes = sym (drop_at u rest (length u) refl) ∙ ap (drop (length u)) (sym there) ∙ drop-drop (length u) (at + gap) bytes ∙ ap (λ k. drop k bytes) end in
    record {
      token = u;
      rest = rest;
      there = there;
      is = token_there x.token u rest h.good.0 next.stands;
      from = next.from;
      end = end;
      left = left;
      ahead = record { are = subst (λ r. TokensFrom x.to r xs) left h.are.3; good = h.good.1 };
    }

-- where no token is left, nothing is
pub no_token_left : (bytes : List ℕ) (at : ℕ) → AreAhead bytes at [] → drop (at + gap_len false (drop at bytes)) bytes ≡ []
no_token_left bytes at h = sym (drop-drop (gap_len false (drop at bytes)) at bytes) ∙ h.are

pub past_first : (bytes : List ℕ) (a : Aim) (d n at : ℕ) (x : TokenSpan) (xs : List TokenSpan) → AfterFirst bytes at x xs
    → offset_past a Code d (suc n) at (drop at bytes) ≡ offset_past a Code (depth_after d (role_of_sign (sign_of x.token))) (left_after a d (suc n) (sign_of x.token)) x.to (drop x.to bytes)
past_first bytes a d n at x xs f =
    let gap = gap_len false (drop at bytes) in
    let e = depth_after d (role_of_sign (sign_of x.token)) in
    let m = left_after a d (suc n) (sign_of x.token) in
    past_gap a false d n at (drop at bytes)
    ∙ ap (offset_past a Code d (suc n) (at + gap)) (drop-drop gap at bytes ∙ f.there)
    ∙ past_token a d n (at + gap) x.token f.token f.rest f.is
    ∙ at_sum a Code e m (at + gap + length f.token) x.to f.rest f.end
    ∙ ap (offset_past a Code e m x.to) f.left

tokens_ahead : (bytes : List ℕ) (a : Aim) (xs : List TokenSpan) (d n at : ℕ) → AreAhead bytes at xs → AreAhead bytes (offset_past a Code d n at (drop at bytes)) (tokens_past a d n xs)
tokens_ahead bytes a xs d zero at h =
    subst (λ m. AreAhead bytes m (tokens_past a d 0 xs)) (sym (none_left a Code d at (drop at bytes))) (subst (AreAhead bytes at) (sym (none_past a d xs)) h)
tokens_ahead bytes a [] d (suc n) at h =
    let gap = gap_len false (drop at bytes) in
    let none = no_token_left bytes at h in
    let is : offset_past a Code d (suc n) at (drop at bytes) ≡ at + gap =
    past_gap a false d n at (drop at bytes) ∙ ap (offset_past a Code d (suc n) (at + gap)) (drop-drop gap at bytes ∙ none) in
    subst (λ m. AreAhead bytes m []) (sym is) (record { are = ap (λ l. drop (gap_len false l) l) none; good = tt })
tokens_ahead bytes a (x ∷ xs) d (suc n) at h =
    let f = after_first bytes at x xs h in
    let e = depth_after d (role_of_sign (sign_of x.token)) in
    let m = left_after a d (suc n) (sign_of x.token) in
    subst (λ k. AreAhead bytes k (tokens_past a d (suc n) (x ∷ xs))) (sym (past_first bytes a d n at x xs f))
    (subst (AreAhead bytes (offset_past a Code e m x.to (drop x.to bytes))) (sym (some_past a d n x xs)) (tokens_ahead bytes a xs e m x.to f.ahead))

-- ---- full stops, and commas

pub stop_sign : (t : Token) → is_stop t ≡ is_stop_sign (sign_of t)
stop_sign open_brace = refl
stop_sign close_brace = refl
stop_sign open_bracket = refl
stop_sign close_bracket = refl
stop_sign comma = refl
stop_sign stop = refl
stop_sign (integer n) = refl
stop_sign (atom s) = refl
stop_sign (characters s) = refl
stop_sign (pid n) = refl
stop_sign bad = refl

pub role_sign : (t : Token) → role_of t ≡ role_of_sign (sign_of t)
role_sign open_brace = refl
role_sign close_brace = refl
role_sign open_bracket = refl
role_sign close_bracket = refl
role_sign comma = refl
role_sign stop = refl
role_sign (integer n) = refl
role_sign (atom s) = refl
role_sign (characters s) = refl
role_sign (pid n) = refl
role_sign bad = refl

by_stop : (c : Bool) (n : ℕ) (f : ℕ → List TokenSpan) → f (cond c (suc n - 1) (suc n)) ≡ cond c (f n) (f (suc n))
by_stop true n f = ap f (let e : suc n - 1 ≡ n = omega arith in e)
by_stop false n f = refl

stops_past : (d n : ℕ) (xs : List TokenSpan) → tokens_past Stops d n xs ≡ after_stops n xs
stops_past d zero xs = none_past Stops d xs
stops_past d (suc n) [] = refl
stops_past d (suc n) (x ∷ xs) =
    some_past Stops d n x xs
    ∙ stops_past (depth_after d (role_of_sign (sign_of x.token))) (left_after Stops d (suc n) (sign_of x.token)) xs
    ∙ by_stop (is_stop_sign (sign_of x.token)) n (λ m. after_stops m xs)
    ∙ ap (λ c. cond c (after_stops n xs) (after_stops (suc n) xs)) (sym (stop_sign x.token))

commas_past : (d n : ℕ) (xs : List TokenSpan) → tokens_past Commas d n xs ≡ tokens_past_commas d n xs
commas_past d n [] = refl
commas_past d n (x ∷ xs) =
    let r = role_of_sign (sign_of x.token) in
    ap (λ ys. cond (n == 0) (x ∷ xs) ys) (commas_past (depth_after d r) (commas_after d n r) xs)
    ∙ ap (λ q. cond (n == 0) (x ∷ xs) (tokens_past_commas (depth_after d q) (commas_after d n q) xs)) (sym (role_sign x.token))

pub past_stops : (bytes : List ℕ) (n at : ℕ) (xs : List TokenSpan) → AreAhead bytes at xs → AreAhead bytes (offset_past Stops Code 0 n at (drop at bytes)) (after_stops n xs)
past_stops bytes n at xs h = subst (AreAhead bytes (offset_past Stops Code 0 n at (drop at bytes))) (stops_past 0 n xs) (tokens_ahead bytes Stops xs 0 n at h)

pub past_commas : (bytes : List ℕ) (n at : ℕ) (xs : List TokenSpan) → AreAhead bytes at xs → AreAhead bytes (offset_past Commas Code 0 n at (drop at bytes)) (tokens_past_commas 0 n xs)
past_commas bytes n at xs h = subst (AreAhead bytes (offset_past Commas Code 0 n at (drop at bytes))) (commas_past 0 n xs) (tokens_ahead bytes Commas xs 0 n at h)

-- ---- the next token

gap_fits : (c : Bool) (bs : List ℕ) → gap_len c bs ≤ length bs
gap_fits c [] = omega arith
gap_fits true (b ∷ bs) = let h = gap_fits (not (b == 10)) bs in omega (arith, h)
gap_fits false (b ∷ bs) =
    cond_both (b == 37) (gap_len true bs + 1) (cond (is_blank b) (gap_len false bs + 1) 0) (λ g. g ≤ length (b ∷ bs))
    (λ e. let h = gap_fits true bs in omega (arith, h))
    (λ e. cond_both (is_blank b) (gap_len false bs + 1) 0 (λ g. g ≤ length (b ∷ bs)) (λ k. let h = gap_fits false bs in omega (arith, h)) (λ k. omega arith))

-- its offset, or the end
pub next_offset : (bytes : List ℕ) (at : ℕ) (xs : List TokenSpan) → at ≤ length bytes → AreAhead bytes at xs → at + gap_len false (drop at bytes) ≡ offset_of (length bytes) xs
next_offset bytes at [] within h =
    let none = ap length (no_token_left bytes at h) in
    let fits = gap_fits false (drop at bytes) in
    let size = length-drop (at + gap_len false (drop at bytes)) bytes in
    let left = length-drop at bytes in
    omega (arith, none, size, left, within, fits)
next_offset bytes at (x ∷ xs) within h = let f = after_first bytes at x xs h in sym f.from

-- the first byte of a token tells what it does
first_plain : (b : ℕ) (us rest : List ℕ) (c : ℕ) (bs : List ℕ) → is_plain b ≡ true → (b ∷ us) ++ rest ≡ c ∷ bs → Plain ≡ sign_of_byte c bs
first_plain b us rest c bs h e = let same : b ≡ c = cc in sym (plain_sign c bs (subst (λ x. is_plain x ≡ true) same h))

one_sign : (b : ℕ) (k : Sign) (u rest : List ℕ) (c : ℕ) (bs : List ℕ) → u ≡ b ∷ [] → sign_of_byte b rest ≡ k → u ++ rest ≡ c ∷ bs → k ≡ sign_of_byte c bs
one_sign b k u rest c bs is s e =
    let all : b ∷ rest ≡ c ∷ bs = ap (λ x. x ++ rest) (sym is) ∙ e in
    let same : b ≡ c = cc in
    let left : rest ≡ bs = cc in
    sym s ∙ ap (λ x. sign_of_byte x rest) same ∙ ap (sign_of_byte c) left

-- a first byte of a fixed token
fixed_sign : (b : ℕ) (us : List ℕ) (u rest : List ℕ) (c : ℕ) (bs : List ℕ) → u ≡ b ∷ us → ((l : List ℕ) → sign_of_byte b l ≡ Plain) → u ++ rest ≡ c ∷ bs → Plain ≡ sign_of_byte c bs
fixed_sign b us u rest c bs is s e =
    let all : b ∷ (us ++ rest) ≡ c ∷ bs = ap (λ x. x ++ rest) (sym is) ∙ e in
    let same : b ≡ c = cc in
    sym (s bs) ∙ ap (λ x. sign_of_byte x bs) same

first_sign : (t : Token) (u rest : List ℕ) (c : ℕ) (bs : List ℕ) → IsToken u rest t → u ++ rest ≡ c ∷ bs → sign_of t ≡ sign_of_byte c bs
first_sign open_brace u rest c bs h e = one_sign 123 Opener u rest c bs h refl e
first_sign close_brace u rest c bs h e = one_sign 125 Closer u rest c bs h refl e
first_sign open_bracket u rest c bs h e = one_sign 91 Opener u rest c bs h refl e
first_sign close_bracket u rest c bs h e = one_sign 93 Closer u rest c bs h refl e
first_sign comma u rest c bs h e = one_sign 44 Separator u rest c bs h refl e
first_sign stop u rest c bs h e = one_sign 46 Stop u rest c bs h.0 (ap (λ k. cond k Stop Plain) h.1) e
first_sign (integer k) [] rest c bs (over, inl h) e = let s = h.0.some in absurd (omega (arith, s))
first_sign (integer k) (d ∷ ds) rest c bs (over, inl h) e = first_plain d ds rest c bs (digit_plain d (and_parts (is_digit d) (all_are is_digit ds) h.0.all).0) e
first_sign (integer k) u rest c bs (over, inr h) e = fixed_sign 45 h.0 u rest c bs h.1 (λ l. refl) e
first_sign (atom []) u rest c bs (inl h) e = absurd (let n = h.name in cc)
first_sign (atom (b ∷ s)) u rest c bs (inl h) e =
    let low = (and_parts (is_lower b) (are_name_bytes s) h.name).0 in
    first_plain b s rest c bs (name_plain b (grind (arith, nat_tests, low))) (ap (λ x. x ++ rest) (sym h.text) ∙ e)
first_sign (atom s) u rest c bs (inr h) e = fixed_sign 39 (flat_map (escaped_in 39) s ++ 39 ∷ []) u rest c bs h.text (λ l. refl) e
first_sign (characters s) u rest c bs h e = fixed_sign 34 (flat_map (escaped_in 34) s ++ 34 ∷ []) u rest c bs h.text (λ l. refl) e
first_sign (pid k) u rest c bs (ds, h) e = fixed_sign 60 (48 ∷ 46 ∷ (ds ++ codes ".0>")) u rest c bs h.text (λ l. refl) e
first_sign bad u rest c bs h e = absurd h

-- a bracket is one byte
opener_size : (t : Token) (u rest : List ℕ) → IsToken u rest t → is_opener (role_of t) ≡ true → length u ≡ 1
opener_size open_brace u rest h o = ap length h
opener_size open_bracket u rest h o = ap length h
opener_size close_brace u rest h o = absurd (cc)
opener_size close_bracket u rest h o = absurd (cc)
opener_size comma u rest h o = absurd (cc)
opener_size stop u rest h o = absurd (cc)
opener_size (integer n) u rest h o = absurd (cc)
opener_size (atom s) u rest h o = absurd (cc)
opener_size (characters s) u rest h o = absurd (cc)
opener_size (pid n) u rest h o = absurd (cc)
opener_size bad u rest h o = absurd h

-- where the byte there opens a tuple or a list, the tokens after the bracket are after it
pub after_opener : (bytes : List ℕ) (at c : ℕ) (bs : List ℕ) (xs : List TokenSpan) → AreAhead bytes at xs → drop (at + gap_len false (drop at bytes)) bytes ≡ c ∷ bs → is_opener (role_of_sign (sign_of_byte c bs)) ≡ true
    → AreAhead bytes (at + gap_len false (drop at bytes) + 1) (in_bracket xs)
after_opener bytes at c bs [] h there o = absurd (let none = no_token_left bytes at h in cc)
after_opener bytes at c bs (x ∷ xs) h there o =
    let f = after_first bytes at x xs h in
    let is : is_opener (role_of x.token) ≡ true = ap is_opener (role_sign x.token ∙ ap role_of_sign (first_sign x.token f.token f.rest c bs f.is (sym f.there ∙ there))) ∙ o in
    let size = opener_size x.token f.token f.rest f.is is in
    let next : x.to ≡ at + gap_len false (drop at bytes) + 1 = sym f.end ∙ ap (λ k. at + gap_len false (drop at bytes) + k) size in
    subst (AreAhead bytes (at + gap_len false (drop at bytes) + 1)) (sym (cond-true (is_opener (role_of x.token)) xs (x ∷ xs) is)) (subst (λ k. AreAhead bytes k xs) next f.ahead)

-- and where it opens none, no bracket is there
pub no_opener : (bytes : List ℕ) (at c : ℕ) (bs : List ℕ) (xs : List TokenSpan) → AreAhead bytes at xs → drop (at + gap_len false (drop at bytes)) bytes ≡ c ∷ bs → is_opener (role_of_sign (sign_of_byte c bs)) ≡ false
    → AreAhead bytes at (in_bracket xs)
no_opener bytes at c bs [] h there o = h
no_opener bytes at c bs (x ∷ xs) h there o =
    let f = after_first bytes at x xs h in
    let is : is_opener (role_of x.token) ≡ false = ap is_opener (role_sign x.token ∙ ap role_of_sign (first_sign x.token f.token f.rest c bs f.is (sym f.there ∙ there))) ∙ o in
    subst (AreAhead bytes at) (sym (cond-false (is_opener (role_of x.token)) xs (x ∷ xs) is)) h

pub at_end : (bytes : List ℕ) (at : ℕ) (xs : List TokenSpan) → AreAhead bytes at xs → length bytes ≤ at + gap_len false (drop at bytes) → AreAhead bytes at (in_bracket xs)
at_end bytes at [] h past = h
at_end bytes at (x ∷ xs) h past =
    let f = after_first bytes at x xs h in
    let none = ap length (sym f.there ∙ drop_all (at + gap_len false (drop at bytes)) bytes past) in
    let some = nonempty x.token f.token f.rest f.is in
    absurd (omega (arith, none, some, length-append f.token f.rest))
