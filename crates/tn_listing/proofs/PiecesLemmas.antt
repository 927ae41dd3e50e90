-- Lemmas on the decimal text of a pick, and on the pieces of a text of picks.
use Rattle.std.proofs.Common.{◌≡◌, ◌≢◌, ℕ, zero, suc, ◌+◌, ◌^◌, ◌<◌, ◌≤◌, ◌==◌, Bool, true, false, List, [], ◌∷◌, ◌++◌, Option, None, Some, Result, Ok, Err, MatchOption, Bor, cond, nat_lt, ne_eqb, All, map, length, decimal, position, IsUtf8, get_or, take, drop, refl, sym, subst, ap, ◌∙◌, rules, arith, length-append}
use Rattle.std.specs.List.{join_with_byte, position_or_len}
use Rattle.std.specs.Int.{IsInRange}
use Rattle.std.specs.Result.{result_ok}
use Rattle.std.specs.Str.Parse.{ParsesUnsigned, AllDigits, digits_value}
use Rattle.std.proofs.lemmas.Str.Parse.{IsNumeralModel, numerals_by_value, tells_digits, digit_at, parse_plain}
use Rattle.std.proofs.lemmas.Fmt.{digits_decimal, decimal_nonempty, first_decimal, decimal_digit, decimal-digits_value, parse-decimal, IsAscii-decimal, decimal_injective}
use Rattle.std.proofs.lemmas.Str.{IsUtf8-from_ascii}
use Rattle.std.proofs.lemmas.List.Splits.{slice_split_none, slice_split_at, slice_split_first, join_with_byte-slice_split}
use Rattle.std.proofs.lemmas.List.Sums.{position_or_len_is, fails_before_first}
use Rattle.std.proofs.lemmas.List.Quantifiers.{position-Some}
use Rattle.std.proofs.lemmas.List.Elements.{All-from_get_or, All-head, All-tail}
use Rattle.tn_listing.specs.Pieces.{pieces}
use Rattle.def_run.specs.Picks.{SpellsPicks}

abbrev IsPick : ℕ → Type 0
IsPick p = p < 2 ^ 32

abbrev IsInside : ℕ → Type 0
IsInside b = (b == 32) ≡ false

own : IsNumeralModel (AllDigits 10) (digits_value 10)
own = numerals_by_value (AllDigits 10) tells_digits

within : (n : ℕ) → n < 2 ^ 32 → n < 2 ^ 64
within n small = omega arith

-- each byte of a number's text is a digit
digit_in : (n : ℕ) → n < 2 ^ 32 → (i : ℕ) → i < length (decimal n) → IsInRange 48 57 (get_or (decimal n) i 0)
digit_in n small i h = digit_at (decimal n) i (digits_decimal own n (within n small)) h

pub empty_is_none : (piece : List ℕ) (n : ℕ) → length piece ≡ 0 → n < 2 ^ 32 → piece ≢ decimal n
empty_is_none piece n e small same =
    let some : 0 < length (decimal n) = decimal_nonempty n (within n small) in
    let long : length piece ≡ length (decimal n) = ap length same in
    absurd (omega arith)

pub plus_is_none : (piece : List ℕ) (n : ℕ) → get_or piece 0 0 ≡ 43 → n < 2 ^ 32 → piece ≢ decimal n
plus_is_none piece n e small same =
    let digit = digit_in n small 0 (decimal_nonempty n (within n small)) in
    let first : get_or piece 0 0 ≡ get_or (decimal n) 0 0 = ap (λ l. get_or l 0 0) same in
    absurd (omega (arith, digit.0, digit.1))

pub zero_leads_none : (piece : List ℕ) (n : ℕ) → get_or piece 0 0 ≡ 48 → 1 < length piece → n < 2 ^ 32 → piece ≢ decimal n
zero_leads_none piece zero e long small same =
    let one : length (decimal 0) ≡ 1 = ap length (decimal_digit 0 (omega arith)) in
    let size : length piece ≡ length (decimal 0) = ap length same in
    absurd (omega arith)
zero_leads_none piece (suc n) e long small same =
    let more : 48 < get_or (decimal (suc n)) 0 0 = first_decimal (suc n) (omega arith) (within (suc n) small) in
    let first : get_or piece 0 0 ≡ get_or (decimal (suc n)) 0 0 = ap (λ l. get_or l 0 0) same in
    absurd (omega arith)

pub bytes_are_none : (piece : List ℕ) (n : ℕ) → (IsUtf8 piece → ⊥) → n < 2 ^ 32 → piece ≢ decimal n
bytes_are_none piece n not_text small same =
    not_text (subst IsUtf8 (sym same) (IsUtf8-from_ascii (decimal n) (IsAscii-decimal n (within n small))))

-- what `parse` gives of a text with no sign and no leading zero
pub parsed : {E : Type 0} (bs : List ℕ) (r : Result ℕ E) → ParsesUnsigned {E = E} 32 10 bs r → get_or bs 0 0 ≢ 43 → (get_or bs 0 0 ≡ 48 → length bs ≡ 1)
    → MatchOption (result_ok r) ((n : ℕ) → n < 2 ^ 32 → bs ≢ decimal n) (λ n. bs ≡ decimal n)
parsed {E} bs (Ok x) h plain lead =
    let (all, is) = parse_plain own {E = E} 32 bs (Ok x) h plain in
    let value : digits_value 10 bs < 2 ^ 32 = all.2 in
    sym (decimal-digits_value own bs all.0 all.1 lead (omega arith)) ∙ ap decimal (sym is)
parsed bs (Err e) h plain lead = λ n small same.
    let ok = parse-decimal 32 n bs (Err e) small (within n small) same h in cc

-- ---- pieces

absent : (b : Bool) (i : ℕ) → cond b (Some i) None ≡ None → b ≡ false
absent true i e = cc
absent false i e = refl

-- a text with no space is one piece
pub pieces_none : (text : List ℕ) → position (λ b. b == 32) text ≡ None → pieces text ≡ text ∷ []
pieces_none text none =
    let p : ℕ → Bool = λ b. b == 32 in
    let beyond : nat_lt (position_or_len p text) (length text) ≡ false = absent _ _ none in
    let past : length text ≤ position_or_len p text = search rules in
    slice_split_none p text (All-from_get_or IsInside text 0 (λ i h. fails_before_first p text i 0 (omega arith)))

pub pieces_some : (text : List ℕ) (end : ℕ) → position (λ b. b == 32) text ≡ Some end → pieces text ≡ take end text ∷ pieces (drop (end + 1) text)
pieces_some text end some =
    let p : ℕ → Bool = λ b. b == 32 in
    let (inside, passes, before) = position-Some p text end 0 some in
    let is : position_or_len p text ≡ end = position_or_len_is p text end 0 (omega arith) before (λ _. passes) in
    subst (λ k. pieces text ≡ take k text ∷ pieces (drop (k + 1) text)) is (slice_split_first p text 0 (omega arith))

no_space : (n : ℕ) → n < 2 ^ 32 → All IsInside (decimal n)
no_space n small = All-from_get_or IsInside (decimal n) 0 (λ i h.
    let digit = digit_in n small i h in
    ne_eqb (get_or (decimal n) i 0) 32 (λ e. absurd (omega (arith, digit.0, e))))

-- numbers with one space between each two are the pieces of their text
pub pieces-join : (ps : List ℕ) → 0 < length ps → All (λ p. p < 2 ^ 32) ps → pieces (join_with_byte 32 (map decimal ps)) ≡ map decimal ps
pieces-join [] some fit = absurd (omega arith)
pieces-join (p ∷ []) some fit = slice_split_none _ (decimal p) (no_space p (All-head IsPick p [] fit))
pieces-join (p ∷ q ∷ ps) some fit =
    slice_split_at _ (decimal p) 32 _ (no_space p (All-head IsPick p (q ∷ ps) fit)) refl
    ∙ ap (λ l. decimal p ∷ l) (pieces-join (q ∷ ps) (search rules) (All-tail IsPick p (q ∷ ps) fit))

-- each piece of numbers is one of them
number_at : (ps qs : List ℕ) (piece : List ℕ) (more : List (List ℕ)) → map decimal ps ≡ map decimal qs ++ (piece ∷ more) → All (λ p. p < 2 ^ 32) ps
    → (n : ℕ) × (n < 2 ^ 32) × (piece ≡ decimal n)
number_at [] [] piece more e fit = cc
number_at [] (q ∷ qs) piece more e fit = cc
number_at (p ∷ ps) [] piece more e fit = (p, All-head IsPick p ps fit, cc)
number_at (p ∷ ps) (q ∷ qs) piece more e fit = number_at ps qs piece more (cc) (All-tail IsPick p ps fit)

first_of_pieces : (o : Option (Bor (List ℕ))) (all : List (List ℕ)) (piece : List ℕ) → MatchOption o (all ≡ piece ∷ []) (λ r. all ≡ piece ∷ pieces r.now)
    → (more : List (List ℕ)) × (all ≡ piece ∷ more)
first_of_pieces None all piece h = ([], h)
first_of_pieces (Some r) all piece h = (pieces r.now, h)

-- a text with a piece that is no number spells no picks
pub bad_piece : (o : Option (Bor (List ℕ))) (text rest piece items : List ℕ) → pieces text ≡ map decimal items ++ pieces rest
    → MatchOption o (pieces rest ≡ piece ∷ []) (λ r. pieces rest ≡ piece ∷ pieces r.now)
    → ((n : ℕ) → n < 2 ^ 32 → piece ≢ decimal n) → 0 < length text → (picks : List ℕ) → SpellsPicks text picks → ⊥
bad_piece o text rest piece items split cut none some [] spells =
    let empty : length text ≡ 0 = ap length spells.spelled in absurd (omega arith)
bad_piece o text rest piece items split cut none some (p ∷ picks) spells =
    let (more, front) = first_of_pieces o (pieces rest) piece cut in
    let whole : pieces text ≡ map decimal (p ∷ picks) = ap pieces spells.spelled ∙ pieces-join (p ∷ picks) (search rules) spells.fit in
    let (n, small, same) = number_at (p ∷ picks) items piece more (sym whole ∙ split ∙ ap (λ l. map decimal items ++ l) front) spells.fit in
    none n small same

-- the text whose pieces are these numbers
pub spelled_by : (text items : List ℕ) → pieces text ≡ map decimal items → text ≡ join_with_byte 32 (map decimal items)
spelled_by text items e = sym (join_with_byte-slice_split 32 text) ∙ ap (join_with_byte 32) e

-- the text of some numbers is as long as that of the first
joined_long : (p : ℕ) (ps : List ℕ) → length (decimal p) ≤ length (join_with_byte 32 (map decimal (p ∷ ps)))
joined_long p [] = omega arith
joined_long p (q ∷ ps) = omega (arith, length-append (decimal p) (32 ∷ join_with_byte 32 (map decimal (q ∷ ps))))

same_numbers : (ps qs : List ℕ) → map decimal ps ≡ map decimal qs → All (λ p. p < 2 ^ 32) ps → All (λ p. p < 2 ^ 32) qs → ps ≡ qs
same_numbers [] [] e f g = refl
same_numbers [] (q ∷ qs) e f g = cc
same_numbers (p ∷ ps) [] e f g = cc
same_numbers (p ∷ ps) (q ∷ qs) e f g =
    let first : decimal p ≡ decimal q = cc in
    let one : p ≡ q = decimal_injective p q (within p (All-head IsPick p ps f)) (within q (All-head IsPick q qs g)) first in
    let others : ps ≡ qs = same_numbers ps qs (cc) (All-tail IsPick p ps f) (All-tail IsPick q qs g) in
    cc

-- a text spells at most one list of picks
pub spelled_once : (text ps qs : List ℕ) → SpellsPicks text ps → SpellsPicks text qs → ps ≡ qs
spelled_once text [] [] a b = refl
spelled_once text [] (q ∷ qs) a b =
    let some : 0 < length (decimal q) = decimal_nonempty q (within q (All-head IsPick q qs b.fit)) in
    let empty : length text ≡ 0 = ap length a.spelled in
    let long : length text ≡ length (join_with_byte 32 (map decimal (q ∷ qs))) = ap length b.spelled in
    absurd (omega (arith, joined_long q qs))
spelled_once text (p ∷ ps) [] a b =
    let some : 0 < length (decimal p) = decimal_nonempty p (within p (All-head IsPick p ps a.fit)) in
    let empty : length text ≡ 0 = ap length b.spelled in
    let long : length text ≡ length (join_with_byte 32 (map decimal (p ∷ ps))) = ap length a.spelled in
    absurd (omega (arith, joined_long p ps))
spelled_once text (p ∷ ps) (q ∷ qs) a b =
    same_numbers (p ∷ ps) (q ∷ qs)
    (sym (pieces-join (p ∷ ps) (search rules) a.fit) ∙ ap pieces (sym a.spelled ∙ b.spelled) ∙ pieces-join (q ∷ qs) (search rules) b.fit) a.fit b.fit

-- the empty text spells no pick
pub spelled_by_none : (text ps qs : List ℕ) → length text ≡ 0 → qs ≡ [] → SpellsPicks text ps → ps ≡ qs
spelled_by_none text [] qs bare e a = sym e
spelled_by_none text (p ∷ ps) qs bare e a =
    let some : 0 < length (decimal p) = decimal_nonempty p (within p (All-head IsPick p ps a.fit)) in
    let long : length text ≡ length (join_with_byte 32 (map decimal (p ∷ ps))) = ap length a.spelled in
    absurd (omega (arith, joined_long p ps))
