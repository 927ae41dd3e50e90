-- The first format of what `dbg` prints of written terms is the one by which it was printed.
use Rattle.std.proofs.Common.{◌≡◌, ◌∙◌, ℕ, ◌+◌, ◌==◌, Bool, true, false, not, ◌&&◌, ◌||◌, List, [], ◌∷◌, ◌++◌, length, take, drop, get_or, None, Some, codes, refl, ap, sym, subst, rules, arith, append-nil, append_assoc}
use Rattle.std.specs.Prelude.{slice_index}
use Rattle.std.specs.List.{All, list_all}
use Rattle.std.proofs.lemmas.Bool.{and_parts}
use Rattle.std.proofs.lemmas.Grind.{flat_map-append}
use Rattle.std.proofs.Math.Seq.{drop-append_seam, drop-length}
use Rattle.std.proofs.lemmas.List.Elements.{All-nil, All-cons}
use Rattle.def_term.specs.Tree.{Trees}
use Rattle.def_term.specs.Text.{is_digit, comma_list, pid_text}
use Rattle.def_text.specs.Tokens.{all_are}
use Rattle.def_trace_text.specs.DbgFormats.{DbgFormat, word_formats, send_format, pair_format, single_format, dbg_formats, other_kinds, first_format, begins_with_byte, part_length, has_format, with_term_texts}
use Rattle.def_trace_text.proofs.WrittenParts.{ends_part, is_plain, IsPart, plain_part, joined_parts, written_parts}
use Rattle.def_trace_text.proofs.DbgTexts.{AreWritable, has_cuts, same_byte, with_digit, with_literal, has_its_format}

-- ---- after the beginning of a format

-- a byte that ends a part comes next
abbrev has_end : List ℕ → Bool
has_end [] = false
has_end (e ∷ others) = ends_part e && not (is_digit e)

abbrev cuts_within : List ℕ → Bool
cuts_within [] = true
cuts_within (c ∷ others) = (not (is_digit c) || has_end others) && cuts_within others

none_before : (e : ℕ) (others r : List ℕ) (terms : ℕ → Trees) → not (is_digit e) ≡ true → part_length e None false 0 (with_term_texts (e ∷ others) terms ++ r) ≡ 0
none_before e others r terms h = let literal : is_digit e ≡ false = search rules in rw (literal, same_byte e) refl

part_ends : (c : ℕ) (front g r : List ℕ) (terms : ℕ → Trees) → has_end front ≡ true → AreWritable terms → part_length (slice_index (front ++ g) 0) None false 0 (comma_list (terms c) ++ (with_term_texts front terms ++ r)) ≡ length (comma_list (terms c))
part_ends c [] g r terms h ok = absurd (cc)
part_ends c (e ∷ front) g r terms h ok =
    let p = and_parts (ends_part e) (not (is_digit e)) h in
    let part = written_parts (terms c) e 0 p.0 (ok c) (with_term_texts (e ∷ front) terms ++ r) in
    let none = none_before e front r terms p.1 in
    omega (arith, part, none)

after_part : (c : ℕ) (others u rest : List ℕ) → is_digit c ≡ true → part_length (slice_index others 0) None false 0 (u ++ rest) ≡ length u → has_format (c ∷ others) (u ++ rest) ≡ has_format others rest
after_part c others u rest e part = rw e (ap (has_format others) (ap (λ n. drop n (u ++ rest)) part ∙ drop-append_seam u rest))

after_literal : (c : ℕ) (others rest : List ℕ) → is_digit c ≡ false → has_format (c ∷ others) (c ∷ rest) ≡ has_format others rest
after_literal c others rest e = rw (e, same_byte c) refl

cut_there : (digit cut : Bool) → not digit || cut ≡ true → digit ≡ true → cut ≡ true
cut_there digit cut h e = search rules

has_after : (front g r : List ℕ) (terms : ℕ → Trees) → cuts_within front ≡ true → AreWritable terms → has_format (front ++ g) (with_term_texts front terms ++ r) ≡ has_format g r
has_after [] g r terms h ok = refl
has_after (c ∷ front) g r terms h ok =
    let p = and_parts (not (is_digit c) || has_end front) (cuts_within front) h in
    by_digit (is_digit c) refl p.0 (has_after front g r terms p.1 ok)
  where
    by_digit : (digit : Bool) → is_digit c ≡ digit → not (is_digit c) || has_end front ≡ true → has_format (front ++ g) (with_term_texts front terms ++ r) ≡ has_format g r
        → has_format (c ∷ (front ++ g)) (with_term_texts (c ∷ front) terms ++ r) ≡ has_format g r
    by_digit true e cut later =
        ap (λ l. has_format (c ∷ (front ++ g)) (l ++ r)) (with_digit c front terms e)
        ∙ ap (has_format (c ∷ (front ++ g))) (append_assoc (comma_list (terms c)) (with_term_texts front terms) r)
        ∙ after_part c (front ++ g) (comma_list (terms c)) (with_term_texts front terms ++ r) e (part_ends c front g r terms (cut_there (is_digit c) (has_end front) cut e) ok)
        ∙ later
    by_digit false e cut later =
        ap (λ l. has_format (c ∷ (front ++ g)) (l ++ r)) (with_literal c front terms e)
        ∙ after_literal c (front ++ g) (with_term_texts front terms ++ r) e
        ∙ later

-- two formats with the same beginning: what is left of the one, and of what is printed by the other
left_of : (front g tail : List ℕ) (terms : ℕ → Trees) → cuts_within front ≡ true → AreWritable terms → has_format (front ++ g) (with_term_texts (front ++ tail) terms) ≡ has_format g (with_term_texts tail terms)
left_of front g tail terms h ok = ap (has_format (front ++ g)) (flat_map-append _ front tail) ∙ has_after front g (with_term_texts tail terms) terms h ok

-- ---- parts that don't end

not_ended : (c e : ℕ) (others u : List ℕ) → is_digit c ≡ true → is_digit e ≡ false → part_length e None false 0 u ≡ length u → has_format (c ∷ e ∷ others) u ≡ false
not_ended c e others u digit literal part = rw digit (ap (has_format (e ∷ others)) (ap (λ n. drop n u) part ∙ drop-length u) ∙ nothing)
  where
    nothing : has_format (e ∷ others) [] ≡ false
    nothing = rw literal refl

-- no literal byte of the text is this one
abbrev is_without : ℕ → List ℕ → Bool
is_without e text = list_all (λ b. is_digit b || is_plain e b) text

plain_there : (digit plain : Bool) → digit || plain ≡ true → digit ≡ false → plain ≡ true
plain_there digit plain h e = search rules

without_part : (e : ℕ) (text : List ℕ) (terms : ℕ → Trees) → ends_part e ≡ true → is_without e text ≡ true → AreWritable terms → IsPart e 0 (with_term_texts text terms)
without_part e [] terms h w ok = plain_part e 0 [] refl
without_part e (b ∷ text) terms h w ok =
    let p = and_parts (is_digit b || is_plain e b) (is_without e text) w in
    by_digit (is_digit b) refl p.0 (without_part e text terms h p.1 ok)
  where
    by_digit : (digit : Bool) → is_digit b ≡ digit → is_digit b || is_plain e b ≡ true → IsPart e 0 (with_term_texts text terms) → IsPart e 0 (with_term_texts (b ∷ text) terms)
    by_digit true is q later = subst (IsPart e 0) (sym (with_digit b text terms is)) (joined_parts e 0 (comma_list (terms b)) (with_term_texts text terms) (written_parts (terms b) e 0 h (ok b)) later)
    by_digit false is q later =
        let plain = plain_there (is_digit b) (is_plain e b) q is in
        subst (IsPart e 0) (sym (with_literal b text terms is)) (joined_parts e 0 (b ∷ []) (with_term_texts text terms) (plain_part e 0 (b ∷ []) (rw plain refl)) later)

whole_part : (e : ℕ) (u : List ℕ) → IsPart e 0 u → part_length e None false 0 u ≡ length u
whole_part e u h = let at = h [] in let same = ap (part_length e None false 0) (append-nil u) in omega (arith, at, same)

-- ---- the first format

-- none of these formats is the line's
abbrev NoneHas : List DbgFormat → List ℕ → Type 0
NoneHas [] line = Unit {0}
NoneHas (f ∷ fs) line = (has_format f.printed line ≡ false) × NoneHas fs line

first_after : (before : List DbgFormat) (f : DbgFormat) (after : List DbgFormat) (line : List ℕ) → NoneHas before line → has_format f.printed line ≡ true → first_format (before ++ f ∷ after) line ≡ Some f
first_after [] f after line h e = rw e refl
first_after (g ∷ before) f after line h e = rw (h.0) (first_after before f after line h.1 e)

-- a format of `dbg` by its place
abbrev pub place : ℕ → DbgFormat
place i = get_or dbg_formats i single_format

abbrev printed_by : DbgFormat → (ℕ → Trees) → List ℕ
printed_by f terms = with_term_texts f.printed terms

abbrev pub IsFirst : (ℕ → Trees) → DbgFormat → Type 0
IsFirst terms f = first_format dbg_formats (printed_by f terms) ≡ Some f

abbrev Differ : DbgFormat → DbgFormat → (ℕ → Trees) → Type 0
Differ f g terms = has_format f.printed (printed_by g terms) ≡ false

-- what is left of both formats after the pid decides
differ : (f g : List ℕ) (terms : ℕ → Trees) → AreWritable terms → has_format f (with_term_texts g terms) ≡ false → has_format (codes "(1) " ++ f) (with_term_texts (codes "(1) " ++ g) terms) ≡ false
differ f g terms ok h = left_of (codes "(1) ") f g terms refl ok ∙ h

-- ---- calls

-- where no message comes after an arity, the part of the arity doesn't end
arity_alone : (terms : ℕ → Trees) → AreWritable terms → Differ (place 1) (place 2) terms
arity_alone terms ok =
    left_of (codes "(1) call 2:3/") (codes "4 (5)") (codes "4") terms refl ok
    ∙ not_ended 52 32 (codes "(5)") (with_term_texts (codes "4") terms) refl refl (whole_part 32 (with_term_texts (codes "4") terms) (without_part 32 (codes "4") terms refl refl ok))

-- a call with arguments has no slash
no_slash : (g tail : List ℕ) (terms : ℕ → Trees) → AreWritable terms → is_without 47 tail ≡ true → has_format (codes "(1) call 2:3/" ++ g) (with_term_texts (codes "(1) call 2:" ++ tail) terms) ≡ false
no_slash g tail terms ok h =
    left_of (codes "(1) call 2:") (codes "3/" ++ g) tail terms refl ok
    ∙ not_ended 51 47 g (with_term_texts tail terms) refl refl (whole_part 47 (with_term_texts tail terms) (without_part 47 tail terms refl h ok))

-- where no message comes after arguments
arguments_alone : (terms : ℕ → Trees) → AreWritable terms → Differ (place 3) (place 4) terms
arguments_alone terms ok = left_of (codes "(1) call 2:3(4)") (codes " (5)") [] terms refl ok

-- ---- the formats with a word

-- a word that the other formats don't begin with
abbrev tail_of : ℕ → List ℕ
tail_of i = drop 4 (place i).printed

word_differs : (i j : ℕ) (terms : ℕ → Trees) → AreWritable terms → codes "(1) " ++ tail_of i ≡ (place i).printed → codes "(1) " ++ tail_of j ≡ (place j).printed → has_format (tail_of i) (with_term_texts (tail_of j) terms) ≡ false → Differ (place i) (place j) terms
word_differs i j terms ok a b h = subst (λ x. has_format x (printed_by (place j) terms) ≡ false) a (subst (λ x. has_format (codes "(1) " ++ tail_of i) (with_term_texts x terms) ≡ false) b (differ (tail_of i) (tail_of j) terms ok h))

others_first : (terms : ℕ → Trees) → AreWritable terms → All (IsFirst terms) (drop 5 word_formats)
others_first terms ok =
    let own : (i : ℕ) → has_cuts (place i).printed ≡ true → has_format (place i).printed (printed_by (place i) terms) ≡ true = λ i h. has_its_format (place i).printed terms h ok in
    let apart : (i j : ℕ) → codes "(1) " ++ tail_of i ≡ (place i).printed → codes "(1) " ++ tail_of j ≡ (place j).printed → has_format (tail_of i) (with_term_texts (tail_of j) terms) ≡ false → Differ (place i) (place j) terms = λ i j a b h. word_differs i j terms ok a b h in
    All-cons (IsFirst terms) (place 5) (drop 6 word_formats)
    (first_after (take 5 dbg_formats) (place 5) (drop 6 dbg_formats) (printed_by (place 5) terms)
    (apart 0 5 refl refl refl, (apart 1 5 refl refl refl, (apart 2 5 refl refl refl, (apart 3 5 refl refl refl, (apart 4 5 refl refl refl, tt))))) (own 5 refl))
    (All-cons (IsFirst terms) (place 6) (drop 7 word_formats)
    (first_after (take 6 dbg_formats) (place 6) (drop 7 dbg_formats) (printed_by (place 6) terms)
    (apart 0 6 refl refl refl, (apart 1 6 refl refl refl, (apart 2 6 refl refl refl, (apart 3 6 refl refl refl, (apart 4 6 refl refl refl, (apart 5 6 refl refl refl, tt)))))) (own 6 refl))
    (All-cons (IsFirst terms) (place 7) (drop 8 word_formats)
    (first_after (take 7 dbg_formats) (place 7) (drop 8 dbg_formats) (printed_by (place 7) terms)
    (apart 0 7 refl refl refl, (apart 1 7 refl refl refl, (apart 2 7 refl refl refl, (apart 3 7 refl refl refl, (apart 4 7 refl refl refl, (apart 5 7 refl refl refl, (apart 6 7 refl refl refl, tt))))))) (own 7 refl))
    (All-nil (IsFirst terms))))

pub words_first : (terms : ℕ → Trees) → AreWritable terms → All (IsFirst terms) word_formats
words_first terms ok =
    let own : (i : ℕ) → has_cuts (place i).printed ≡ true → has_format (place i).printed (printed_by (place i) terms) ≡ true = λ i h. has_its_format (place i).printed terms h ok in
    let receive : (g : List ℕ) → has_format (codes "<< 2") (with_term_texts g terms) ≡ false → has_format (codes "(1) << 2") (with_term_texts (codes "(1) " ++ g) terms) ≡ false = λ g h. differ (codes "<< 2") g terms ok h in
    All-cons (IsFirst terms) (place 0) (drop 1 word_formats) (first_after [] (place 0) (drop 1 dbg_formats) (printed_by (place 0) terms) tt (own 0 refl))
    (All-cons (IsFirst terms) (place 1) (drop 2 word_formats) (first_after (take 1 dbg_formats) (place 1) (drop 2 dbg_formats) (printed_by (place 1) terms) (receive (codes "call 2:3/4 (5)") refl, tt) (own 1 refl))
    (All-cons (IsFirst terms) (place 2) (drop 3 word_formats) (first_after (take 2 dbg_formats) (place 2) (drop 3 dbg_formats) (printed_by (place 2) terms) (receive (codes "call 2:3/4") refl, (arity_alone terms ok, tt)) (own 2 refl))
    (All-cons (IsFirst terms) (place 3) (drop 4 word_formats)
    (first_after (take 3 dbg_formats) (place 3) (drop 4 dbg_formats) (printed_by (place 3) terms)
    (receive (codes "call 2:3(4) (5)") refl, (no_slash (codes "4 (5)") (codes "3(4) (5)") terms ok refl, (no_slash (codes "4") (codes "3(4) (5)") terms ok refl, tt))) (own 3 refl))
    (All-cons (IsFirst terms) (place 4) (drop 5 word_formats)
    (first_after (take 4 dbg_formats) (place 4) (drop 5 dbg_formats) (printed_by (place 4) terms)
    (receive (codes "call 2:3(4)") refl, (no_slash (codes "4 (5)") (codes "3(4)") terms ok refl, (no_slash (codes "4") (codes "3(4)") terms ok refl, (arguments_alone terms ok, tt)))) (own 4 refl))
    (others_first terms ok)))))

-- ---- the formats whose second part is the receiver, or the kind

-- what is printed by a format with this text in the place of the second part hasn't that of a word
second_differs : (i : ℕ) (g u : List ℕ) (terms : ℕ → Trees) → AreWritable terms → comma_list (terms 50) ≡ u → codes "(1) " ++ tail_of i ≡ (place i).printed → has_format (tail_of i) (u ++ with_term_texts g terms) ≡ false
    → has_format (place i).printed (with_term_texts (codes "(1) 2" ++ g) terms) ≡ false
second_differs i g u terms ok e a h =
    subst (λ x. has_format x (with_term_texts (codes "(1) 2" ++ g) terms) ≡ false) a
    (differ (tail_of i) (codes "2" ++ g) terms ok (ap (λ x. has_format (tail_of i) (x ++ with_term_texts g terms)) e ∙ h))

-- no format of a word is what the bytes after the pid have
abbrev NoWord : List ℕ → Type 0
NoWord line =
    (has_format (tail_of 0) line ≡ false) × (has_format (tail_of 1) line ≡ false) × (has_format (tail_of 2) line ≡ false) × (has_format (tail_of 3) line ≡ false)
    × (has_format (tail_of 4) line ≡ false) × (has_format (tail_of 5) line ≡ false) × (has_format (tail_of 6) line ≡ false) × (has_format (tail_of 7) line ≡ false)

no_word : (g u : List ℕ) (terms : ℕ → Trees) → AreWritable terms → comma_list (terms 50) ≡ u → NoWord (u ++ with_term_texts g terms) → NoneHas word_formats (with_term_texts (codes "(1) 2" ++ g) terms)
no_word g u terms ok e (a, b, c, d, f, h, i, j) = (
  second_differs 0 g u terms ok e refl a,
  (
    second_differs 1 g u terms ok e refl b,
    (
      second_differs 2 g u terms ok e refl c,
      (
        second_differs 3 g u terms ok e refl d,
        (second_differs 4 g u terms ok e refl f, (second_differs 5 g u terms ok e refl h, (second_differs 6 g u terms ok e refl i, (second_differs 7 g u terms ok e refl j, tt)))),
      ),
    ),
  ),
)

pub send_first : (terms : ℕ → Trees) → AreWritable terms → (n : ℕ) → comma_list (terms 50) ≡ pid_text n → IsFirst terms send_format
send_first terms ok n e =
    first_after word_formats send_format (pair_format ∷ single_format ∷ []) (printed_by send_format terms)
    (no_word (codes " ! 3") (pid_text n) terms ok e (refl, refl, refl, refl, refl, refl, refl, refl)) (has_its_format send_format.printed terms refl ok)

-- ---- the other kinds

-- its name is a part, and no word of `dbg`
record IsKind (kind : List ℕ) : Type 0 where
  part : all_are (is_plain 32) kind ≡ true
  other : (rest : List ℕ) → NoWord (kind ++ 32 ∷ rest)

kind_part : (kind rest : List ℕ) → IsKind kind → part_length 32 None false 0 (kind ++ 32 ∷ rest) ≡ length kind
kind_part kind rest k = let part = plain_part 32 0 kind k.part (32 ∷ rest) in omega (arith, part)

-- no term begins with `!`
no_mark : (u rest : List ℕ) → IsPart 33 0 u → begins_with_byte 33 rest ≡ false → begins_with_byte 33 (u ++ rest) ≡ false
no_mark [] rest h e = e
no_mark (b ∷ u) rest h e = by_byte (b == 33) refl (h rest)
  where
    by_byte : (same : Bool) → (b == 33) ≡ same → part_length 33 None false 0 (b ∷ (u ++ rest)) ≡ length (b ∷ u) + part_length 33 None false 0 rest → (b == 33) ≡ false
    by_byte true s part = let none : part_length 33 None false 0 (b ∷ (u ++ rest)) ≡ 0 = rw s refl in absurd (omega (arith, part, none))
    by_byte false s part = s

-- after the kind and a blank
after_kind : (g kind rest : List ℕ) → IsKind kind → has_format (codes "2 " ++ g) (kind ++ 32 ∷ rest) ≡ has_format g rest
after_kind g kind rest k = after_part 50 (codes " " ++ g) kind (32 ∷ rest) refl (kind_part kind rest k) ∙ after_literal 32 g rest refl

second_is : (f g kind : List ℕ) (terms : ℕ → Trees) → AreWritable terms → IsKind kind → comma_list (terms 50) ≡ kind → has_format (codes "(1) 2 " ++ f) (with_term_texts (codes "(1) 2 " ++ g) terms) ≡ has_format f (with_term_texts g terms)
second_is f g kind terms ok k e =
    left_of (codes "(1) ") (codes "2 " ++ f) (codes "2 " ++ g) terms refl ok
    ∙ ap (λ x. has_format (codes "2 " ++ f) (x ++ 32 ∷ with_term_texts g terms)) e
    ∙ after_kind f kind (with_term_texts g terms) k

-- it is no send
no_send : (g kind : List ℕ) (terms : ℕ → Trees) → AreWritable terms → IsKind kind → comma_list (terms 50) ≡ kind → begins_with_byte 33 (with_term_texts g terms) ≡ false → has_format send_format.printed (with_term_texts (codes "(1) 2 " ++ g) terms) ≡ false
no_send g kind terms ok k e mark = second_is (codes "! 3") g kind terms ok k e ∙ rw mark refl

third_part : (terms : ℕ → Trees) → AreWritable terms → IsPart 33 0 (comma_list (terms 51))
third_part terms ok = written_parts (terms 51) 33 0 refl (ok 51)

-- formats one after the other
none_more : (before : List DbgFormat) (f : DbgFormat) (line : List ℕ) → NoneHas before line → has_format f.printed line ≡ false → NoneHas (before ++ f ∷ []) line
none_more [] f line h e = (e, tt)
none_more (g ∷ before) f line h e = (h.0, none_more before f line h.1 e)

pair_first : (kind : List ℕ) (terms : ℕ → Trees) → AreWritable terms → IsKind kind → comma_list (terms 50) ≡ kind → IsFirst terms pair_format
pair_first kind terms ok k e =
    let line = printed_by pair_format terms in
    let words = no_word (codes " 3 4") kind terms ok e (k.other (with_term_texts (codes "3 4") terms)) in
    let mark = no_mark (comma_list (terms 51)) (with_term_texts (codes " 4") terms) (third_part terms ok) refl in
    first_after (word_formats ++ send_format ∷ []) pair_format (single_format ∷ []) line (none_more word_formats send_format line words (no_send (codes "3 4") kind terms ok k e mark)) (has_its_format pair_format.printed terms refl ok)

-- where one term comes, its part doesn't end
no_pair : (kind : List ℕ) (terms : ℕ → Trees) → AreWritable terms → IsKind kind → comma_list (terms 50) ≡ kind → has_format pair_format.printed (printed_by single_format terms) ≡ false
no_pair kind terms ok k e =
    second_is (codes "3 4") (codes "3") kind terms ok k e
    ∙ not_ended 51 32 (codes "4") (with_term_texts (codes "3") terms) refl refl (whole_part 32 (with_term_texts (codes "3") terms) (without_part 32 (codes "3") terms refl refl ok))

single_first : (kind : List ℕ) (terms : ℕ → Trees) → AreWritable terms → IsKind kind → comma_list (terms 50) ≡ kind → IsFirst terms single_format
single_first kind terms ok k e =
    let line = printed_by single_format terms in
    let words = no_word (codes " 3") kind terms ok e (k.other (with_term_texts (codes "3") terms)) in
    let mark = no_mark (comma_list (terms 51)) [] (third_part terms ok) refl in
    first_after (word_formats ++ send_format ∷ pair_format ∷ []) single_format [] line
    (none_more (word_formats ++ send_format ∷ []) pair_format line (none_more word_formats send_format line words (no_send (codes "3") kind terms ok k e mark)) (no_pair kind terms ok k e)) (has_its_format single_format.printed terms refl ok)

abbrev pub KindIsFirst : (ℕ → Trees) → List ℕ → Type 0
KindIsFirst terms kind = comma_list (terms 50) ≡ kind → IsFirst terms pair_format × IsFirst terms single_format

kind_first : (kind : List ℕ) (terms : ℕ → Trees) → AreWritable terms → IsKind kind → KindIsFirst terms kind
kind_first kind terms ok k e = (pair_first kind terms ok k e, single_first kind terms ok k e)

kind_0 : IsKind (codes "exception_from")
kind_0 = record { part = refl; other = λ rest. (refl, refl, refl, refl, refl, refl, refl, refl) }

kind_1 : IsKind (codes "send_to_non_existing_process")
kind_1 = record { part = refl; other = λ rest. (refl, refl, refl, refl, refl, refl, refl, refl) }

kind_2 : IsKind (codes "spawned")
kind_2 = record { part = refl; other = λ rest. (refl, refl, refl, refl, refl, refl, refl, refl) }

kind_3 : IsKind (codes "exit")
kind_3 = record { part = refl; other = λ rest. (refl, refl, refl, refl, refl, refl, refl, refl) }

kind_4 : IsKind (codes "link")
kind_4 = record { part = refl; other = λ rest. (refl, refl, refl, refl, refl, refl, refl, refl) }

kind_5 : IsKind (codes "unlink")
kind_5 = record { part = refl; other = λ rest. (refl, refl, refl, refl, refl, refl, refl, refl) }

kind_6 : IsKind (codes "getting_linked")
kind_6 = record { part = refl; other = λ rest. (refl, refl, refl, refl, refl, refl, refl, refl) }

kind_7 : IsKind (codes "getting_unlinked")
kind_7 = record { part = refl; other = λ rest. (refl, refl, refl, refl, refl, refl, refl, refl) }

pub kinds_first : (terms : ℕ → Trees) → AreWritable terms → All (KindIsFirst terms) other_kinds
kinds_first terms ok =
    All-cons (KindIsFirst terms) (codes "exception_from") (drop 1 other_kinds) (kind_first (codes "exception_from") terms ok kind_0)
    (All-cons (KindIsFirst terms) (codes "send_to_non_existing_process") (drop 2 other_kinds) (kind_first (codes "send_to_non_existing_process") terms ok kind_1)
    (All-cons (KindIsFirst terms) (codes "spawned") (drop 3 other_kinds) (kind_first (codes "spawned") terms ok kind_2)
    (All-cons (KindIsFirst terms) (codes "exit") (drop 4 other_kinds) (kind_first (codes "exit") terms ok kind_3)
    (All-cons (KindIsFirst terms) (codes "link") (drop 5 other_kinds) (kind_first (codes "link") terms ok kind_4)
    (All-cons (KindIsFirst terms) (codes "unlink") (drop 6 other_kinds) (kind_first (codes "unlink") terms ok kind_5)
    (All-cons (KindIsFirst terms) (codes "getting_linked") (drop 7 other_kinds) (kind_first (codes "getting_linked") terms ok kind_6)
    (All-cons (KindIsFirst terms) (codes "getting_unlinked") (drop 8 other_kinds) (kind_first (codes "getting_unlinked") terms ok kind_7)
    (All-nil (KindIsFirst terms)))))))))
