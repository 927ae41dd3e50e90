-- Which lines are printed as they are (own): those that are text, without control characters.
-- Depends on what UTF-8 and its characters are.
use Rattle.std.specs.Prelude.{◌≡◌, ℕ, List, false}
use Rattle.std.specs.List.{list_any}
use Rattle.std.specs.Char.{is_control}
use Rattle.std.specs.Str.{IsUtf8, chars}

-- the line is text, and has no control character
abbrev pub IsPrintable : List ℕ → Type 0
IsPrintable line = IsUtf8 line × (list_any is_control (chars line) ≡ false)
