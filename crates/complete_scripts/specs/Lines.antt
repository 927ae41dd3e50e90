-- Refusals of which one line can be said.
-- Depends on the refusals of texts.
use Rattle.std.specs.Prelude.{ℕ, List}
use Rattle.def_script.specs.Script.{Refusal, too_long, token, too_deep, too_large, form, too_many_forms, broken, bad_picks, IsRefused}

-- the text is refused so, for something else than a token; or the refusal is of picks
abbrev pub HasOneLine : List ℕ → Refusal → Type 0
HasOneLine bytes (token at) = ⊥
HasOneLine bytes (too_deep at) = ⊥
HasOneLine bytes (too_large at) = ⊥
HasOneLine bytes bad_picks = Unit {0}
HasOneLine bytes too_long = IsRefused bytes too_long
HasOneLine bytes (form n) = IsRefused bytes (form n)
HasOneLine bytes too_many_forms = IsRefused bytes too_many_forms
HasOneLine bytes (broken r n) = IsRefused bytes (broken r n)
