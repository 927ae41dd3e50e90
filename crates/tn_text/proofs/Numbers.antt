-- What `parse` reads is the number that the token spells.
use Rattle.std.proofs.Common.{◌≡◌, ◌≢◌, ℕ, ℤ, zero, suc, pos, negsuc, neg_ℤ, ◌-◌, ◌<◌, ◌≤◌, List, [], ◌∷◌, length, get_or, take, drop, true, false, nat_lt, codes, Result, Ok, Err, ap, sym, ◌∙◌, subst, arith, length-append, inl, inr}
use mir.Syntax.{w64}
use mir.Val.{SFits}
use Rattle.std.specs.Str.{IsUtf8, IsAscii}
use Rattle.std.specs.Str.Parse.{ParsesSigned, ParsesUnsigned}
use Rattle.std.proofs.lemmas.Str.{IsUtf8-from_ascii}
use Rattle.std.proofs.lemmas.Str.Ascii.{IsAscii-nil, IsAscii-cons}
use Rattle.std.proofs.lemmas.Str.Parse.{parse_signed_plain, parse_signed_minus, parse_plain, not_in_digits}
use Rattle.std.proofs.lemmas.Bool.{and_parts, ltb-true, lt-ltb, false_from_ne_true}
use Rattle.std.proofs.lemmas.Bool.Decides.{nat_tests}
use Rattle.std.proofs.lemmas.List.{take_at}
use Rattle.def_term.specs.Text.{is_digit}
use Rattle.def_text.specs.Tokens.{all_are, number, IsDigits, IsInteger, IsPid}
use Rattle.def_text.specs.Limits.{in_range}
use Rattle.def_text.proofs.Numbers.{AreDigits, own}

-- an integer that fits 64 bits is in range
pub in_range_of : (n : ℤ) → SFits w64 n → in_range n ≡ true
in_range_of (pos n) f = let h = f.sfits in lt-ltb n 9223372036854775808 (omega (arith, h))
in_range_of (negsuc n) f = let h = f.sfits in lt-ltb n 9223372036854775808 (omega (arith, h))

digit_small : (b : ℕ) → is_digit b ≡ true → b < 128
digit_small b h = grind (arith, nat_tests)

pub digits_ascii : (ds : List ℕ) → all_are is_digit ds ≡ true → IsAscii ds
digits_ascii [] h = IsAscii-nil
digits_ascii (d ∷ ds) h = let p = and_parts (is_digit d) (all_are is_digit ds) h in IsAscii-cons d ds (digit_small d p.0) (digits_ascii ds p.1)

pub integer_text : (u rest : List ℕ) (m : ℤ) → IsInteger u rest m → IsUtf8 u
integer_text u rest m (over, inl h) = IsUtf8-from_ascii u (digits_ascii u h.0.all)
integer_text u rest m (over, inr h) = subst IsUtf8 (sym h.1) (IsUtf8-from_ascii (45 ∷ h.0) (IsAscii-cons 45 h.0 (omega arith) (digits_ascii h.0 h.2.all)))

no_plus : 43 < 48
no_plus = omega arith

starts_no : (u : List ℕ) (c : ℕ) → IsDigits u → c < 48 → get_or u 0 0 ≢ c
starts_no u c h low = not_in_digits own u c h.all (λ r. let at_least = r.0 in omega (arith, at_least, low)) 0 h.some

pub integer_ok : {E : Type 0} (u text : List ℕ) (r : Result ℤ E) (n : ℤ) → text ≡ u → ParsesSigned w64 10 text r → r ≡ Ok n → (rest : List ℕ) (m : ℤ) → IsInteger u rest m → m ≡ n
integer_ok u text r n same h e rest m (over, inl d) =
    let h' = rw same at h in
    let p = parse_signed_plain own w64 u r h' (starts_no u 43 d.0 (omega arith)) (starts_no u 45 d.0 (omega arith)) in
    let q = rw e at p in
    d.1 ∙ sym q.1
integer_ok u text r n same h e rest m (over, inr d) =
    let h' = rw same at h in
    let p = parse_signed_minus own w64 u r h' (ap (λ x. get_or x 0 0) d.1) in
    let q = rw e at p in
    d.3 ∙ ap (λ x. neg_ℤ (pos (number (drop 1 x)))) (sym d.1) ∙ sym q.1

range_minus : (k : ℕ) → in_range (neg_ℤ (pos k)) ≡ true → k ≤ 9223372036854775808
range_minus zero h = omega arith
range_minus (suc k) h = let below = ltb-true k 9223372036854775808 h in omega (arith, below)

pub integer_err : {E : Type 0} (u text : List ℕ) (r : Result ℤ E) (x : E) → text ≡ u → ParsesSigned w64 10 text r → r ≡ Err x → (rest : List ℕ) (m : ℤ) → IsInteger u rest m → in_range m ≡ false
integer_err u text r x same h e rest m (over, inl d) =
    let h' = rw same at h in
    let p = parse_signed_plain own w64 u r h' (starts_no u 43 d.0 (omega arith)) (starts_no u 45 d.0 (omega arith)) in
    let q = rw e at p in
    false_from_ne_true (in_range m) (λ is.
    let at : in_range (pos (number u)) ≡ true = subst (λ z. in_range z ≡ true) d.1 is in
    q (d.0.all, d.0.some, ltb-true (number u) 9223372036854775808 at))
integer_err u text r x same h e rest m (over, inr d) =
    let h' = rw same at h in
    let p = parse_signed_minus own w64 u r h' (ap (λ z. get_or z 0 0) d.1) in
    let q = rw e at p in
    let back : drop 1 u ≡ d.0 = ap (drop 1) d.1 in
    false_from_ne_true (in_range m) (λ is.
    let at : in_range (neg_ℤ (pos (number d.0))) ≡ true = subst (λ z. in_range z ≡ true) d.3 is in
    q (subst AreDigits (sym back) d.2.all, subst (λ z. 0 < length z) (sym back) d.2.some, subst (λ z. number z ≤ 9223372036854775808) (sym back) (range_minus (number d.0) at)))

-- the digits of a pid
pub pid_digits : (u ds : List ℕ) (m n : ℕ) → IsPid u ds m → n ≡ length u - 6 → take n (drop 3 u) ≡ ds
pid_digits u ds m n h is =
    let e = h.text in
    let size = ap length e in
    let long : length ds ≡ n = omega (arith, size, is, length-append ds (codes ".0>")) in
    ap (λ x. take n (drop 3 x)) e ∙ take_at ds (codes ".0>") n long

pub pid_long : (u ds : List ℕ) (m : ℕ) → IsPid u ds m → 6 ≤ length u
pid_long u ds m h = let e = h.text in let size = ap length e in omega (arith, size, length-append ds (codes ".0>"))

pub pid_ok : {E : Type 0} (ds text u : List ℕ) (r : Result ℕ E) (n m : ℕ) → text ≡ ds → ParsesUnsigned 32 10 text r → r ≡ Ok n → IsPid u ds m → m ≡ n
pid_ok ds text u r n m same p e h =
    let p' = rw same at p in
    let q = rw e at (parse_plain own 32 ds r p' (starts_no ds 43 h.digits (omega arith))) in
    h.value ∙ sym q.1

pub pid_err : {E : Type 0} (ds text u : List ℕ) (r : Result ℕ E) (x : E) (m : ℕ) → text ≡ ds → ParsesUnsigned 32 10 text r → r ≡ Err x → IsPid u ds m → nat_lt m 4294967296 ≡ false
pid_err ds text u r x m same p e h =
    let p' = rw same at p in
    let q = rw e at (parse_plain own 32 ds r p' (starts_no ds 43 h.digits (omega arith))) in
    false_from_ne_true (nat_lt m 4294967296) (λ is. q (h.digits.all, h.digits.some, subst (λ z. z < 4294967296) h.value (ltb-true m 4294967296 is)))

pub pid_text : (u ds : List ℕ) (m : ℕ) → IsPid u ds m → IsUtf8 ds
pid_text u ds m h = IsUtf8-from_ascii ds (digits_ascii ds h.digits.all)
