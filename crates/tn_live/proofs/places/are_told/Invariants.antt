use Rattle.std.proofs.Common.{◌≡◌, take, List, Some, ℕ}
use Rattle.tn_live.specs.Places.{AreTold}
use Rattle.tn_live.proofs.places.are_told.Given as goal

abbrev pub invariant-loop-at : goal.invariant-loop-at
invariant-loop-at g l = (picks : List ℕ) → l.core.journal ≡ Some picks → AreTold l.core.program picks (take l.at l.places) (take l.at l.items)
