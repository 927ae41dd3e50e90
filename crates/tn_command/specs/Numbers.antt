-- Numbers in the words of the command line (own).
use Rattle.std.specs.Prelude.{ℕ, ◌<◌, ◌^◌, List}
use Rattle.std.specs.Str.Parse.{IsNumeral, digits_value}

-- decimal digits and nothing else, whose number is below 2^32
abbrev pub IsPlainNumber : List ℕ → Type 0
IsPlainNumber text = IsNumeral 10 text × (digits_value 10 text < 2 ^ 32)

-- the same, below 2^64
abbrev pub IsLongNumber : List ℕ → Type 0
IsLongNumber text = IsNumeral 10 text × (digits_value 10 text < 2 ^ 64)
