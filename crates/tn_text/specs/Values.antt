-- What the bytes of a token stand for.
use Rattle.std.specs.Prelude.{◌≡◌, ℕ, ℤ, ◌-◌, List, length, take, drop, true, false, nat_lt, Option, Some, None}
use Rattle.def_text.specs.Tokens.{IsInteger, IsPid}
use Rattle.def_text.specs.Limits.{in_range}

-- the integer, or none where it is out of range
abbrev pub IsIntegerRead : List ℕ → Option ℤ → Type 0
IsIntegerRead u (Some n) = (in_range n ≡ true) × ((rest : List ℕ) (m : ℤ) → IsInteger u rest m → m ≡ n)
IsIntegerRead u None = (rest : List ℕ) (m : ℤ) → IsInteger u rest m → in_range m ≡ false

abbrev pub IsPidRead : List ℕ → Option ℕ → Type 0
IsPidRead u (Some n) = (nat_lt n 4294967296 ≡ true) × ((ds : List ℕ) (m : ℕ) → IsPid u ds m → m ≡ n)
IsPidRead u None = (ds : List ℕ) (m : ℕ) → IsPid u ds m → nat_lt m 4294967296 ≡ false

-- without the first and the last byte
abbrev pub inner : List ℕ → List ℕ
inner u = take (length u - 2) (drop 1 u)
