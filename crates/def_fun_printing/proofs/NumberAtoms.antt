-- The atoms of variables with numbers.
use Rattle.std.proofs.Common.{◌≡◌, ℕ, zero, suc, ◌<◌, ◌≤◌, ◌^◌, ◌==◌, nat_le, List, [], ◌∷◌, length, get_or, Bool, true, false, not, ◌&&◌, cond, decimal, refl, ap, ap₂, sym, ◌∙◌, arith}
use Rattle.std.proofs.lemmas.Bool.{and_parts, and_from, cond-true, le-leb, leb-true, ne_eqb, not_from_false, not-true, eqb-true, eq-eqb, both_ways}
use Rattle.std.proofs.lemmas.Fmt.{decimal_is_IsNumeral, decimal_nonempty, decimal_digit, first_decimal, length-decimal-le, decimal-digits_value}
use Rattle.def_term.specs.Names.{Name}
use Rattle.def_term.specs.Text.{is_digit, number_after}
use Rattle.def_text.specs.Tokens.{all_are}
use Rattle.def_text.proofs.Numbers.{own}
use Rattle.def_spec.specs.Reading.{all_digits, is_dollar_number, is_plain_number, digits_of, a_variable, a_wrong_variable, a_plain_atom, atom_kind}
use Rattle.def_fun.specs.Variables.{dollar_name}

pub digits_same : (ds : List ℕ) → all_digits ds ≡ all_are is_digit ds
digits_same [] = refl
digits_same (d ∷ ds) = ap (λ b. is_digit d && b) (digits_same ds)

-- the digits of a number
pub record NumberDigits (k : ℕ) : Type 0 where
  pub some : 0 < length (decimal k)
  pub all : all_are is_digit (decimal k) ≡ true
  pub value : number_after 0 (decimal k) ≡ k

pub number_digits : (k : ℕ) → k < 2 ^ 64 → NumberDigits k
number_digits k below =
    let d = decimal_is_IsNumeral k below in
    record { some = decimal_nonempty k below; all = own.from (decimal k) d.0.1; value = own.same (decimal k) d.0.1 ∙ d.1 }

plain_by : (ds : List ℕ) → 0 < length ds → length ds ≤ 3 → 48 < get_or ds 0 0 → is_plain_number ds ≡ true
plain_by [] some few first = absurd (omega (arith, some))
plain_by (d ∷ []) some few first = refl
plain_by (d ∷ e ∷ ds) some few first = and_from (not (d == 48)) (nat_le (length (d ∷ e ∷ ds)) 3) (not_from_false (d == 48) (ne_eqb d 48 (λ h. omega (arith, first, h)))) (le-leb (length (d ∷ e ∷ ds)) 3 few)

plain : (k : ℕ) → k ≤ 999 → is_plain_number (decimal k) ≡ true
plain zero h = ap is_plain_number (decimal_digit 0 (omega arith))
plain (suc k) h = plain_by (decimal (suc k)) (decimal_nonempty (suc k) (omega (arith, h))) (length-decimal-le 3 (suc k) (omega arith) (omega (arith, h)) (omega (arith, h))) (first_decimal (suc k) (omega arith) (omega (arith, h)))

kind_by : (ds : List ℕ) → 0 < length ds → all_digits ds ≡ true → is_plain_number ds ≡ true → atom_kind (36 ∷ ds) ≡ a_variable (number_after 0 ds)
kind_by [] some all p = absurd (omega (arith, some))
kind_by (d ∷ ds) some all p = cond-true (all_digits (d ∷ ds)) _ _ all ∙ cond-true (is_plain_number (d ∷ ds)) _ _ p

-- the atom of a variable is that variable in a specification
pub number_kind : (k : ℕ) → k ≤ 999 → atom_kind (dollar_name k) ≡ a_variable k
number_kind k h =
    let n = number_digits k (omega (arith, h)) in
    kind_by (decimal k) n.some (digits_same (decimal k) ∙ n.all) (plain k h) ∙ ap a_variable n.value

-- ---- and back

kind_parts : (x y : Bool) (n k : ℕ) → cond x (cond y (a_variable n) a_wrong_variable) a_plain_atom ≡ a_variable k → (x ≡ true) × (y ≡ true) × (n ≡ k)
kind_parts true true n k h = (refl, refl, let e : n ≡ k = cc in e)
kind_parts true false n k h = absurd (let no : a_wrong_variable ≡ a_variable k = h in cc)
kind_parts false y n k h = absurd (let no : a_plain_atom ≡ a_variable k = h in cc)

digit_range : (d : ℕ) → is_digit d ≡ true → (48 ≤ d) × (d ≤ 57)
digit_range d h = let p = and_parts (nat_le 48 d) (nat_le d 57) h in (leb-true 48 d p.0, leb-true d 57 p.1)

small_number : (ds : List ℕ) → all_are is_digit ds ≡ true → length ds ≤ 3 → number_after 0 ds ≤ 999
small_number [] h few = omega arith
small_number (d ∷ []) h few = let a = digit_range d (and_parts (is_digit d) true h).0 in let most = a.1 in omega (arith, most)
small_number (d ∷ e ∷ []) h few =
    let p = and_parts (is_digit d) _ h in
    let a = (digit_range d p.0).1 in
    let b = (digit_range e (and_parts (is_digit e) true p.1).0).1 in
    omega (arith, a, b)
small_number (d ∷ e ∷ f ∷ []) h few =
    let p = and_parts (is_digit d) _ h in
    let q = and_parts (is_digit e) _ p.1 in
    let a = (digit_range d p.0).1 in
    let b = (digit_range e q.0).1 in
    let c = (digit_range f (and_parts (is_digit f) true q.1).0).1 in
    omega (arith, a, b, c)
small_number (d ∷ e ∷ f ∷ g ∷ ds) h few = absurd (omega (arith, few))

plain_parts : (d : ℕ) (ds : List ℕ) → is_plain_number (d ∷ ds) ≡ true → (length (d ∷ ds) ≤ 3) × (d ≡ 48 → length (d ∷ ds) ≡ 1)
plain_parts d [] h = (omega arith, λ e. refl)
plain_parts d (e ∷ es) h =
    let p = and_parts (not (d == 48)) (nat_le (length (d ∷ e ∷ es)) 3) h in
    (leb-true (length (d ∷ e ∷ es)) 3 p.1, λ is. absurd (both_ways (d == 48) (not-true (d == 48) p.0) (eq-eqb d 48 is)))

back_by : (s : Name) (k : ℕ) → is_dollar_number s ≡ true → is_plain_number (digits_of s) ≡ true → number_after 0 (digits_of s) ≡ k → (s ≡ dollar_name k) × (k ≤ 999)
back_by [] k h p e = absurd (let no : false ≡ true = h in cc)
back_by (c ∷ []) k h p e = absurd (let no : false ≡ true = h in cc)
back_by (c ∷ d ∷ ds) k h p e =
    let a = and_parts (c == 36) (all_digits (d ∷ ds)) h in
    let all : all_are is_digit (d ∷ ds) ≡ true = sym (digits_same (d ∷ ds)) ∙ a.1 in
    let q = plain_parts d ds p in
    let small = small_number (d ∷ ds) all q.0 in
    let back : decimal (number_after 0 (d ∷ ds)) ≡ d ∷ ds = decimal-digits_value own (d ∷ ds) all (omega arith) q.1 (omega (arith, small)) in
    (ap₂ (λ x xs. x ∷ xs) (eqb-true c 36 a.0) (sym back ∙ ap decimal e), omega (arith, small, e))

-- an atom that is a variable of a specification is `$` and its number
pub dollar_back : (s : Name) (k : ℕ) → atom_kind s ≡ a_variable k → (s ≡ dollar_name k) × (k ≤ 999)
dollar_back s k h = let p = kind_parts (is_dollar_number s) (is_plain_number (digits_of s)) (number_after 0 (digits_of s)) k h in back_by s k p.0 p.1 p.2
