-- Sizes within a limit.
use Rattle.std.specs.Prelude.{ℕ, ◌+◌, List, [], ◌++◌, length, nat_le, if◌then◌else◌, Option, Some, None}

-- the number, where it is at most the first
abbrev pub if_at_most : ℕ → ℕ → Option ℕ
if_at_most most n = if nat_le n most then Some n else None

-- how many codes a quoted text has, after so many
abbrev pub codes_after : ℕ → Option (List ℕ × ℕ) → ℕ
codes_after n None = 0
codes_after n (Some r) = n + length r.0

-- the codes of a quoted text after these; none where it has no end
abbrev pub codes_onto : List ℕ → Option (List ℕ × ℕ) → List ℕ
codes_onto before None = []
codes_onto before (Some r) = before ++ r.0
