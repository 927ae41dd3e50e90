-- Names that differ by one letter at most, or by two letters that have changed places: of what is meant by a name that isn't there (own).
-- Depends on names.
use Rattle.std.specs.Prelude.{◌≡◌, ◌≤◌, ◌⊎◌, ℕ, ◌==◌, Bool, true, false, ◌&&◌, ◌||◌, if◌then◌else◌, [], ◌∷◌, ◌++◌, length, drop}
use Rattle.std.specs.Str.{bytes_eq}
use Rattle.def_term.specs.Names.{Name}

-- the two have changed places, or each is one letter or none
abbrev pub IsSlip : Name → Name → Type 0
IsSlip a b = ((x y : ℕ) × (a ≡ x ∷ y ∷ []) × (b ≡ y ∷ x ∷ [])) ⊎ ((length a ≤ 1) × (length b ≤ 1))

-- the names are alike but for such a place
abbrev pub AreNear : Name → Name → Type 0
AreNear s t = (before a b after : Name) × (s ≡ before ++ a ++ after) × (t ≡ before ++ b ++ after) × IsSlip a b

-- ---- the same, computed

-- what is left of both after the letters with which both begin
abbrev pub after_common : Name → Name → Name × Name
after_common [] ys = ([], ys)
after_common (x ∷ xs) [] = (x ∷ xs, [])
after_common (x ∷ xs) (y ∷ ys) = if x == y then after_common xs ys else (x ∷ xs, y ∷ ys)

-- the first two letters of one are those of the other in the other order, and the others are alike
abbrev pub are_swapped : Name → Name → Bool
are_swapped (a ∷ b ∷ xs) (c ∷ d ∷ ys) = (a == d) && ((b == c) && bytes_eq xs ys)
are_swapped _ _ = false

-- they are alike without the first letter of one, of the other or of both, or with their first two letters in the other order
abbrev pub differ_by_one : Name → Name → Bool
differ_by_one xs ys = bytes_eq (drop 1 xs) ys || (bytes_eq xs (drop 1 ys) || (bytes_eq (drop 1 xs) (drop 1 ys) || are_swapped xs ys))

-- whether they are near
abbrev pub is_near : Name → Name → Bool
is_near s t = let rest : Name × Name = after_common s t in differ_by_one rest.0 rest.1

-- ---- laws

-- names that are found to be near are
abbrev pub NearNamesAreNear : Type 0
NearNamesAreNear = (s t : Name) → is_near s t ≡ true → AreNear s t
