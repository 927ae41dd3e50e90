-- Bytes of ASCII are a text.
use Rattle.std.proofs.Common.{◌≡◌, ℕ, List, [], ◌∷◌, true, nat_lt}
use Rattle.std.specs.Str.{IsUtf8, IsAscii}
use Rattle.std.proofs.lemmas.Str.{IsUtf8-from_ascii}
use Rattle.std.proofs.lemmas.Str.Ascii.{IsAscii-nil, IsAscii-cons}
use Rattle.std.proofs.lemmas.Bool.{and_parts, ltb-true}
use Rattle.def_formats.specs.JsonRows.{are_ascii}

ascii_of : (bs : List ℕ) → are_ascii bs ≡ true → IsAscii bs
ascii_of [] h = IsAscii-nil
ascii_of (b ∷ bs) h = let parts = and_parts (nat_lt b 128) (are_ascii bs) h in IsAscii-cons b bs (ltb-true b 128 parts.0) (ascii_of bs parts.1)

pub utf8_of_ascii : (bs : List ℕ) → are_ascii bs ≡ true → IsUtf8 bs
utf8_of_ascii bs h = IsUtf8-from_ascii bs (ascii_of bs h)
