-- The pieces of a text of picks (own).
use Rattle.std.specs.Prelude.{◌≡◌, ℕ, ◌==◌, List, [], ◌∷◌, Option, MatchOption}
use Rattle.std.specs.Borrow.{Bor}
use Rattle.std.specs.List.{slice_split}

-- what stands before, between and after the spaces of a text
abbrev pub pieces : List ℕ → List (List ℕ)
pieces text = slice_split (λ b. b == 32) text

-- the text's pieces are this first one and those of the rest, where there is a rest
abbrev pub IsCutInto : List ℕ → List ℕ → Option (Bor (List ℕ)) → Type 0
IsCutInto text first rest = MatchOption rest (pieces text ≡ first ∷ []) (λ r. pieces text ≡ first ∷ pieces r.now)
