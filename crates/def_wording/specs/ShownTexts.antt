-- How much of a token or a term a line shows (own).
-- Depends on the texts of terms.
use Rattle.std.specs.Prelude.{ℕ, nat_le, List, ◌++◌, length, take, codes, if◌then◌else◌}
use Rattle.def_term.specs.Tree.{Tree}
use Rattle.def_term.specs.Text.{w}

-- this many bytes
abbrev pub SHOWN_LENGTH : ℕ
SHOWN_LENGTH = 60

-- the bytes; of more than so many the first, and two dots
abbrev pub cut_text : ℕ → List ℕ → List ℕ
cut_text n bytes = if nat_le (length bytes) n then bytes else take n bytes ++ codes ".."

-- of a token
abbrev pub shown_text : List ℕ → List ℕ
shown_text bytes = cut_text SHOWN_LENGTH bytes

-- of the text of a term
abbrev pub shown_term : Tree → List ℕ
shown_term t = shown_text (w t)
