-- What `dbg` prints of a trace message of written terms is read as the text of the message.
use Rattle.std.proofs.Common.{◌≡◌, ◌∙◌, ℕ, suc, pos, negsuc, ◌<◌, ◌^◌, Bool, true, false, not, ◌&&◌, ◌||◌, List, [], ◌∷◌, ◌++◌, length, drop, decimal, flat_map, Some, codes, refl, ap, sym, subst, rules, arith, append-nil, append_assoc}
use Rattle.std.proofs.lemmas.Bool.{and_parts, cond_both, ltb-true}
use Rattle.std.proofs.lemmas.Bool.Decides.{nat_tests}
use Rattle.std.proofs.lemmas.Fmt.{decimal_is_IsNumeral}
use Rattle.def_term.specs.Tree.{Tree, int, atom, pid, tuple, list, Trees, none, more, count}
use Rattle.def_term.specs.Text.{is_digit, is_lower, is_name_byte, are_name_bytes, is_name, is_written_bare, escape, w, comma_list, pid_text}
use Rattle.def_text.specs.Tokens.{is_blank, all_are}
use Rattle.def_text.specs.Writable.{is_writable, are_writable}
use Rattle.def_text.proofs.Numbers.{own}
use Rattle.def_text.proofs.TokenSound.{same_names}
use Rattle.def_trace_text.specs.Lines.{without_blanks}
use Rattle.def_trace_text.specs.DbgFormats.{DbgFormat, word_formats, send_format, pair_format, single_format, dbg_formats, other_kinds, first_format, text_by_format, with_parts, with_term_texts}
use Rattle.def_trace_text.specs.DbgLines.{is_dbg_line, trace_line_text}
use Rattle.def_trace_text.specs.TraceLaws.{HasLastTerm, IsReadAs}
use Rattle.def_trace_text.specs.ErrorMaps.{without_error_maps}
use Rattle.def_trace_text.proofs.ErrorMaps.{left}
use Rattle.def_trace_text.proofs.DbgTexts.{AreWritable, with_digit, with_literal, IsRead, is_sound, each_read}
use Rattle.def_trace_text.proofs.FirstFormats.{place, IsFirst, words_first, send_first, KindIsFirst, kinds_first}
use Rattle.std.specs.List.{All, list_all}
use Rattle.std.proofs.lemmas.List.Elements.{All-nil, All-cons, All-head, All-tail}
use Rattle.std.proofs.lemmas.Grind.{flat_map-append}
use Rattle.def_trace_text.proofs.WrittenParts.{digit_name, lower_name, bare_is_name}

-- ---- the end of a text

-- the last byte is no blank
abbrev pub EndsSolid : List ℕ → Type 0
EndsSolid text = (front : List ℕ) × (last : ℕ) × (text ≡ front ++ last ∷ []) × (is_blank last ≡ false)

not_all : (front : List ℕ) (last : ℕ) → is_blank last ≡ false → all_are is_blank (front ++ last ∷ []) ≡ false
not_all [] last e = rw e refl
not_all (b ∷ front) last e = rw (not_all front last e) (and_false (is_blank b))
  where
    and_false : (c : Bool) → c && false ≡ false
    and_false true = refl
    and_false false = refl

all_left : (front : List ℕ) (last : ℕ) → is_blank last ≡ false → without_blanks (front ++ last ∷ []) ≡ front ++ last ∷ []
all_left [] last e = rw e refl
all_left (b ∷ front) last e = rw (not_all (b ∷ front) last e) (ap (λ t. b ∷ t) (all_left front last e))

-- a text with such an end has no blanks to take off
pub nothing_off : (text : List ℕ) → EndsSolid text → without_blanks text ≡ text
nothing_off text (front, last, is, e) = ap without_blanks is ∙ all_left front last e ∙ sym is

pub solid_after : (front text : List ℕ) → EndsSolid text → EndsSolid (front ++ text)
solid_after front text (before, last, is, e) = (front ++ before, last, ap (λ t. front ++ t) is ∙ sym (append_assoc front before (last ∷ [])), e)

-- ---- terms

name_solid : (b : ℕ) → is_name_byte b ≡ true → is_blank b ≡ false
name_solid b h = grind (arith, nat_tests)

names_solid : (b : ℕ) (bs : List ℕ) → all_are is_name_byte (b ∷ bs) ≡ true → EndsSolid (b ∷ bs)
names_solid b [] h = ([], b, refl, name_solid b (and_parts (is_name_byte b) true h).0)
names_solid b (c ∷ bs) h = solid_after (b ∷ []) (c ∷ bs) (names_solid c bs (and_parts (is_name_byte b) (all_are is_name_byte (c ∷ bs)) h).1)

all_names : (u : List ℕ) → all_are is_digit u ≡ true → all_are is_name_byte u ≡ true
all_names [] h = refl
all_names (b ∷ u) h = let p = and_parts (is_digit b) (all_are is_digit u) h in rw (digit_name b p.0, all_names u p.1) refl

digits_solid : (u : List ℕ) → 0 < length u → all_are is_digit u ≡ true → EndsSolid u
digits_solid [] some h = absurd (omega (arith, some))
digits_solid (b ∷ u) some h = names_solid b u (all_names (b ∷ u) h)

decimal_solid : (n : ℕ) → n < 2 ^ 64 → EndsSolid (decimal n)
decimal_solid n below = let d = decimal_is_IsNumeral n below in digits_solid (decimal n) d.0.0 (own.from (decimal n) d.0.1)

bare_solid : (s : List ℕ) → is_name s ≡ true → EndsSolid s
bare_solid [] h = absurd (cc)
bare_solid (b ∷ s) h = let p = and_parts (is_lower b) (are_name_bytes s) h in names_solid b s (rw (lower_name b p.0, sym (same_names s) ∙ p.1) refl)

atom_solid : (s : List ℕ) → EndsSolid (w (atom s))
atom_solid s = cond_both (is_written_bare s) s (39 ∷ flat_map escape s ++ 39 ∷ []) EndsSolid (λ b. bare_solid s (bare_is_name s b)) (λ b. (39 ∷ flat_map escape s, 39, refl, refl))

term_solid : (t : Tree) → is_writable t ≡ true → EndsSolid (w t)
term_solid (int (pos n)) ok = let below = ltb-true n 9223372036854775808 ok in decimal_solid n (omega (arith, below))
term_solid (int (negsuc n)) ok = let below = ltb-true n 9223372036854775808 ok in solid_after (45 ∷ []) (decimal (suc n)) (decimal_solid (suc n) (omega (arith, below)))
term_solid (atom s) ok = atom_solid s
term_solid (pid n) ok = solid_after (60 ∷ 48 ∷ 46 ∷ []) (decimal n ++ 46 ∷ 48 ∷ 62 ∷ []) (solid_after (decimal n) (46 ∷ 48 ∷ 62 ∷ []) (46 ∷ 48 ∷ [], 62, refl, refl))
term_solid (tuple us) ok = (123 ∷ comma_list us, 125, refl, refl)
term_solid (list us) ok = (91 ∷ comma_list us, 93, refl, refl)

pub terms_solid : (t : Tree) (us : Trees) → are_writable (more t us) ≡ true → EndsSolid (comma_list (more t us))
terms_solid t none ok = subst EndsSolid (sym (append-nil (w t))) (term_solid t (and_parts (is_writable t) true ok).0)
terms_solid t (more u us) ok =
    let later = terms_solid u us (and_parts (is_writable t) (are_writable (more u us)) ok).1 in
    solid_after (w t) (44 ∷ comma_list (more u us)) (solid_after (44 ∷ []) (comma_list (more u us)) later)

-- ---- lines

has_term : (us : Trees) → 0 < count us → are_writable us ≡ true → EndsSolid (comma_list us)
has_term none some ok = absurd (omega (arith, some))
has_term (more t us) some ok = terms_solid t us ok

-- the end of what is printed is that of its last part, or the last byte of the format
line_solid : (digit : Bool) (front : List ℕ) (d : ℕ) (terms : ℕ → Trees) → is_digit d ≡ digit → is_digit d || not (is_blank d) ≡ true → AreWritable terms → (is_digit d ≡ true → 0 < count (terms d)) → EndsSolid (with_term_texts (front ++ d ∷ []) terms)
line_solid true front d terms e h ok some =
    subst EndsSolid (sym (flat_map-append _ front (d ∷ []) ∙ ap (λ x. with_term_texts front terms ++ x) (with_digit d [] terms e ∙ append-nil (comma_list (terms d)))))
    (solid_after (with_term_texts front terms) (comma_list (terms d)) (has_term (terms d) (some e) (ok d)))
line_solid false front d terms e h ok some =
    let solid : is_blank d ≡ false = search rules in
    subst EndsSolid (sym (flat_map-append _ front (d ∷ []) ∙ ap (λ x. with_term_texts front terms ++ x) (with_literal d [] terms e)))
    (solid_after (with_term_texts front terms) (d ∷ []) ([], d, refl, solid))

-- what is to be known of a format's line
record IsLine (terms : ℕ → Trees) (f : DbgFormat) : Type 0 where
  dbg : is_dbg_line (with_term_texts f.printed terms) ≡ true
  solid : HasLastTerm f.printed terms → EndsSolid (with_term_texts f.printed terms)

line_of : (front : List ℕ) (d : ℕ) (message : List ℕ) (terms : ℕ → Trees) → is_digit d || not (is_blank d) ≡ true → AreWritable terms → HasLastTerm (40 ∷ front ++ d ∷ []) terms ≡ (is_digit d ≡ true → 0 < count (terms d)) → IsLine terms (record { printed = 40 ∷ front ++ d ∷ []; message = message })
line_of front d message terms h ok is = record { dbg = refl; solid = λ some. line_solid (is_digit d) (40 ∷ front) d terms refl h ok (subst (λ A. A) is some) }

lines_of_words : (terms : ℕ → Trees) → AreWritable terms → All (IsLine terms) word_formats
lines_of_words terms ok =
    All-cons (IsLine terms) (place 0) (drop 1 word_formats) (line_of (codes "1) << ") 50 (place 0).message terms refl ok refl)
    (All-cons (IsLine terms) (place 1) (drop 2 word_formats) (line_of (codes "1) call 2:3/4 (5") 41 (place 1).message terms refl ok refl)
    (All-cons (IsLine terms) (place 2) (drop 3 word_formats) (line_of (codes "1) call 2:3/") 52 (place 2).message terms refl ok refl)
    (All-cons (IsLine terms) (place 3) (drop 4 word_formats) (line_of (codes "1) call 2:3(4) (5") 41 (place 3).message terms refl ok refl)
    (All-cons (IsLine terms) (place 4) (drop 5 word_formats) (line_of (codes "1) call 2:3(4") 41 (place 4).message terms refl ok refl)
    (All-cons (IsLine terms) (place 5) (drop 6 word_formats) (line_of (codes "1) returned from 2:3/4 -> ") 53 (place 5).message terms refl ok refl)
    (All-cons (IsLine terms) (place 6) (drop 7 word_formats) (line_of (codes "1) returning to 2:3/") 52 (place 6).message terms refl ok refl)
    (All-cons (IsLine terms) (place 7) (drop 8 word_formats) (line_of (codes "1) spawn 2 as 3:4(5") 41 (place 7).message terms refl ok refl)
    (All-nil (IsLine terms)))))))))

-- ---- messages

of_format : (line : List ℕ) (f : DbgFormat) → is_dbg_line line ≡ true → without_blanks line ≡ line → first_format dbg_formats line ≡ Some f → trace_line_text line ≡ with_parts f.message f.printed line
of_format line f dbg whole first = rw dbg (ap (λ l. text_by_format (first_format dbg_formats l) l) whole ∙ ap (λ o. text_by_format o line) first)

message_read : (terms : ℕ → Trees) (f : DbgFormat) → IsFirst terms f → IsRead terms f → IsLine terms f → IsReadAs terms f
message_read terms f first read line some =
    ap without_error_maps (of_format (with_term_texts f.printed terms) f line.dbg (nothing_off (with_term_texts f.printed terms) (line.solid some)) first ∙ read.1)
    ∙ left (with_term_texts f.message terms) read.2

all_read : (terms : ℕ → Trees) (fs : List DbgFormat) → All (IsFirst terms) fs → All (IsRead terms) fs → All (IsLine terms) fs → All (IsReadAs terms) fs
all_read terms [] a b c = All-nil (IsReadAs terms)
all_read terms (f ∷ fs) a b c =
    All-cons (IsReadAs terms) f fs (message_read terms f (All-head (IsFirst terms) f fs a) (All-head (IsRead terms) f fs b) (All-head (IsLine terms) f fs c))
    (all_read terms fs (All-tail (IsFirst terms) f fs a) (All-tail (IsRead terms) f fs b) (All-tail (IsLine terms) f fs c))

pub words_read : (terms : ℕ → Trees) → AreWritable terms → All (IsReadAs terms) word_formats
words_read terms ok = all_read terms word_formats (words_first terms ok) (each_read word_formats terms refl ok) (lines_of_words terms ok)

read_by : (f : DbgFormat) (terms : ℕ → Trees) → AreWritable terms → list_all is_sound (f ∷ []) ≡ true → IsLine terms f → IsFirst terms f → IsReadAs terms f
read_by f terms ok sound line first = message_read terms f first (All-head (IsRead terms) f [] (each_read (f ∷ []) terms sound ok)) line

pub send_read : (terms : ℕ → Trees) → AreWritable terms → (n : ℕ) → comma_list (terms 50) ≡ pid_text n → IsReadAs terms send_format
send_read terms ok n e = read_by send_format terms ok refl (line_of (codes "1) 2 ! ") 51 send_format.message terms refl ok refl) (send_first terms ok n e)

abbrev KindIsRead : (ℕ → Trees) → List ℕ → Type 0
KindIsRead terms kind = comma_list (terms 50) ≡ kind → IsReadAs terms pair_format × IsReadAs terms single_format

kind_read : (terms : ℕ → Trees) (kind : List ℕ) → AreWritable terms → KindIsFirst terms kind → KindIsRead terms kind
kind_read terms kind ok first e =
    (read_by pair_format terms ok refl (line_of (codes "1) 2 3 ") 52 pair_format.message terms refl ok refl) (first e).0, read_by single_format terms ok refl (line_of (codes "1) 2 ") 51 single_format.message terms refl ok refl) (first e).1)

each_kind : (terms : ℕ → Trees) (kinds : List (List ℕ)) → AreWritable terms → All (KindIsFirst terms) kinds → All (KindIsRead terms) kinds
each_kind terms [] ok h = All-nil (KindIsRead terms)
each_kind terms (k ∷ ks) ok h = All-cons (KindIsRead terms) k ks (kind_read terms k ok (All-head (KindIsFirst terms) k ks h)) (each_kind terms ks ok (All-tail (KindIsFirst terms) k ks h))

pub kinds_read : (terms : ℕ → Trees) → AreWritable terms → All (KindIsRead terms) other_kinds
kinds_read terms ok = each_kind terms other_kinds ok (kinds_first terms ok)
