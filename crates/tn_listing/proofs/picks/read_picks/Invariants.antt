use Rattle.std.proofs.Common.{◌≡◌, ℕ, ◌^◌, ◌<◌, ◌+◌, List, [], ◌++◌, All, map, length, decimal, Option, None, Some, Bor}
use Rattle.tn_listing.specs.Pieces.{pieces}
use Rattle.tn_listing.proofs.picks.read_picks.Given as goal

-- the pieces that are left
abbrev pub left_pieces : Option (Bor (List ℕ)) → List (List ℕ)
left_pieces None = []
left_pieces (Some text) = pieces text.now

abbrev pub left_len : Option (Bor (List ℕ)) → ℕ
left_len None = 0
left_len (Some text) = length text.now + 1

abbrev pub invariant-loop-left : goal.invariant-loop-left
invariant-loop-left g l = record {
  fit : All (λ p. p < 2 ^ 32) l.picks.items;
  split : pieces l.text ≡ map decimal l.picks.items ++ left_pieces l.left;
}

abbrev pub decreases-loop-left : goal.decreases-loop-left
decreases-loop-left g l = left_len l.left
