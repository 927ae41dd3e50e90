use Rattle.std.proofs.Common.{◌≡◌, ◌++◌, ◌∷◌, drop, flat_map, decimal}
use Rattle.tn_answers.proofs.entry.put_picks.Given as goal

abbrev pub invariant-loop-pick : goal.invariant-loop-pick
invariant-loop-pick g l = l.out.items ++ flat_map (λ pick. 32 ∷ decimal pick) (drop l.pick-index l.picks) ≡ l.fn.out.items ++ flat_map (λ pick. 32 ∷ decimal pick) l.picks
