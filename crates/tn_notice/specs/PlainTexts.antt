-- Names as they are printed (own).
use Rattle.std.specs.Prelude.{ℕ, ◌+◌, ◌/◌, ◌%◌, ◌==◌, ◌||◌, nat_lt, if◌then◌else◌, List, [], ◌∷◌, flat_map}

-- the digit of a number below 16: 0 to 9 and a to f
abbrev pub hex_digit : ℕ → ℕ
hex_digit n = if nat_lt n 10 then 48 + n else 87 + n

-- a control character is \x and its two digits, any other byte itself
abbrev pub escaped_byte : ℕ → List ℕ
escaped_byte b = if nat_lt b 32 || (b == 127) then 92 ∷ 120 ∷ hex_digit (b / 16) ∷ hex_digit (b % 16) ∷ [] else b ∷ []

abbrev pub escaped_text : List ℕ → List ℕ
escaped_text text = flat_map escaped_byte text
