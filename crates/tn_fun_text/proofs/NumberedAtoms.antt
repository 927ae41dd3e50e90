-- The written text of a variable's atom.
use Rattle.std.proofs.Common.{◌≡◌, ℕ, ◌<◌, ◌^◌, List, [], ◌∷◌, ◌++◌, codes, decimal, refl, ap, ap₂, arith}
use Rattle.std.specs.Prelude.{flat_map}
use Rattle.std.specs.Str.Parse.{AllDigits}
use Rattle.std.specs.Int.{IsInRange}
use Rattle.std.proofs.lemmas.Fmt.{decimal_is_IsNumeral}
use Rattle.std.proofs.lemmas.Str.Parse.{digit_from_value}
use Rattle.std.proofs.lemmas.Bool.Decides.{nat_tests}
use Rattle.def_term.specs.Text.{escape, is_written_bare, atom_text}
use Rattle.def_fun.specs.Variables.{dollar_name}

digit_escaped : (c : ℕ) → 47 < c → c < 58 → escape c ≡ c ∷ []
digit_escaped c above below = grind (arith, nat_tests)

digits_escaped : (ds : List ℕ) → AllDigits 10 ds → flat_map escape ds ≡ ds
digits_escaped [] d = refl
digits_escaped (c ∷ cs) d =
    let range : IsInRange 48 57 c = digit_from_value c d.0 in
    ap₂ (λ u v. u ++ v) (digit_escaped c (omega (arith, range.0)) (omega (arith, range.1))) (digits_escaped cs d.1)

pub numbered_text : (k : ℕ) → k < 2 ^ 64 → atom_text (dollar_name k) ≡ codes "'$" ++ decimal k ++ codes "'"
unfolding is_written_bare
numbered_text k small = ap (λ u. 39 ∷ 36 ∷ (u ++ 39 ∷ [])) (digits_escaped (decimal k) (decimal_is_IsNumeral k small).0.1)
