-- The codes of a quoted text, one byte further.
use Rattle.std.proofs.Common.{◌≡◌, ℕ, ◌+◌, ◌<◌, ◌==◌, List, [], ◌∷◌, ◌++◌, length, get_or, drop, Bool, true, false, cond, Option, Some, None, refl, ap, sym, ◌∙◌, arith, append_assoc, ne_eqb, eq-eqb}
use Rattle.std.proofs.lemmas.List.{drop_more}
use Rattle.def_fun.specs.Tokens.{is_plain_in, is_escape, escape_code}
use Rattle.def_fun.specs.Scan.{with_character, in_quotes_at}
use Rattle.tn_fun.specs.Sizes.{codes_onto}

one_character : (codes : List ℕ) (c n : ℕ) (o : Option (List ℕ × ℕ)) → codes_onto codes (with_character c n o) ≡ codes_onto (codes ++ c ∷ []) o
one_character codes c n None = refl
one_character codes c n (Some r) = sym (append_assoc codes (c ∷ []) r.0)

pub after_escape : (q : ℕ) (text codes all : List ℕ) (i : ℕ) → i < length text → is_escape (get_or text i 0) ≡ true → codes_onto codes (in_quotes_at q true (drop i text)) ≡ all → codes_onto (codes ++ escape_code (get_or text i 0) ∷ []) (in_quotes_at q false (drop (i + 1) text)) ≡ all
after_escape q text codes all i below is h =
    let b = get_or text i 0 in
    let rest = in_quotes_at q false (drop (i + 1) text) in
    sym (one_character codes (escape_code b) 2 rest)
    ∙ sym (ap (λ x. codes_onto codes (cond x (with_character (escape_code b) 2 rest) None)) is)
    ∙ sym (ap (λ l. codes_onto codes (in_quotes_at q true l)) (drop_more text i 0 below))
    ∙ h

pub after_backslash : (q : ℕ) (text codes all : List ℕ) (i : ℕ) → i < length text → (get_or text i 0 == q) ≡ false → (get_or text i 0 == 92) ≡ true → codes_onto codes (in_quotes_at q false (drop i text)) ≡ all → codes_onto codes (in_quotes_at q true (drop (i + 1) text)) ≡ all
after_backslash q text codes all i below quote backslash h =
    let b = get_or text i 0 in
    let rest = in_quotes_at q true (drop (i + 1) text) in
    let plain = cond (is_plain_in q b) (with_character b 1 (in_quotes_at q false (drop (i + 1) text))) None in
    sym (ap (λ x. codes_onto codes (cond x rest plain)) backslash)
    ∙ sym (ap (λ x. codes_onto codes (cond x (Some ([], 1)) (cond (b == 92) rest plain))) quote)
    ∙ sym (ap (λ l. codes_onto codes (in_quotes_at q false l)) (drop_more text i 0 below))
    ∙ h

pub after_plain : (q : ℕ) (text codes all : List ℕ) (i : ℕ) → i < length text → (get_or text i 0 == q) ≡ false → (get_or text i 0 == 92) ≡ false → is_plain_in q (get_or text i 0) ≡ true → codes_onto codes (in_quotes_at q false (drop i text)) ≡ all → codes_onto (codes ++ get_or text i 0 ∷ []) (in_quotes_at q false (drop (i + 1) text)) ≡ all
after_plain q text codes all i below quote backslash is h =
    let b = get_or text i 0 in
    let rest = in_quotes_at q false (drop (i + 1) text) in
    let plain = cond (is_plain_in q b) (with_character b 1 rest) None in
    let marked = in_quotes_at q true (drop (i + 1) text) in
    sym (one_character codes b 1 rest)
    ∙ sym (ap (λ x. codes_onto codes (cond x (with_character b 1 rest) None)) is)
    ∙ sym (ap (λ x. codes_onto codes (cond x marked plain)) backslash)
    ∙ sym (ap (λ x. codes_onto codes (cond x (Some ([], 1)) (cond (b == 92) marked plain))) quote)
    ∙ sym (ap (λ l. codes_onto codes (in_quotes_at q false l)) (drop_more text i 0 below))
    ∙ h
