-- The text of a variable.
use Rattle.std.proofs.Common.{◌≡◌, ◌∙◌, ℕ, ◌<◌, ◌^◌, ◌==◌, ◌||◌, false, List, [], ◌∷◌, ◌++◌, cond, codes, decimal, flat_map, refl, ap, arith, ne_eqb}
use Rattle.std.specs.Str.Parse.{AllDigits}
use Rattle.std.specs.Int.{IsInRange}
use Rattle.std.proofs.lemmas.Fmt.{decimal_is_IsNumeral}
use Rattle.std.proofs.lemmas.Str.Parse.{digit_from_value}
use Rattle.def_term.specs.Text.{atom_text, escape, is_written_bare}
use Rattle.tn_verdict.specs.ExpressionTexts.{variable_name}

-- no digit is a quote or a backslash
plain : (ds : List ℕ) → AllDigits 10 ds → flat_map escape ds ≡ ds
plain [] d = refl
plain (c ∷ cs) d =
    let range : IsInRange 48 57 c = digit_from_value c d.0 in
    let quote : (c == 39) ≡ false = ne_eqb c 39 (λ e. absurd (omega (arith, range.0, e))) in
    let backslash : (c == 92) ≡ false = ne_eqb c 92 (λ e. absurd (omega (arith, range.1, e))) in
    ap (λ x. cond (x || (c == 92)) (92 ∷ c ∷ []) (c ∷ []) ++ flat_map escape cs) quote
    ∙ ap (λ x. cond x (92 ∷ c ∷ []) (c ∷ []) ++ flat_map escape cs) backslash
    ∙ ap (λ l. c ∷ l) (plain cs d.1)

pub variable_text : (n : ℕ) → n < 2 ^ 64 → atom_text (variable_name n) ≡ codes "'$" ++ decimal n ++ 39 ∷ []
unfolding is_written_bare
variable_text n h = ap (λ l. 39 ∷ 36 ∷ (l ++ 39 ∷ [])) (plain (decimal n) (decimal_is_IsNumeral n h).0.1)
