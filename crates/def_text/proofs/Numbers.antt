-- The digits of a number, as std's numerals.
use Rattle.std.proofs.Common.{◌≡◌, ℕ, List, true, rules}
use Rattle.std.proofs.lemmas.Str.Parse.{IsNumeralModel, numerals_by_fold}
use Rattle.def_term.specs.Text.{is_digit, number_after}
use Rattle.def_text.specs.Tokens.{all_are}

abbrev pub AreDigits : List ℕ → Type 0
AreDigits ds = all_are is_digit ds ≡ true

pub own : IsNumeralModel AreDigits (number_after 0)
own = numerals_by_fold _ (search rules) number_after (search rules)
