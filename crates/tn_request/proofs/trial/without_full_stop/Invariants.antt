use Rattle.std.proofs.Common.{◌≡◌, ◌≤◌, length, reverse, take}
use Rattle.tn_request.specs.TrialsAsked.{after_stop}
use Rattle.tn_request.proofs.trial.without_full_stop.Given as goal

-- what is left ends as the whole does
abbrev pub invariant-loop-left : goal.invariant-loop-left
invariant-loop-left l = (l.left ≤ length l.text) × (after_stop (reverse l.text) (reverse (take l.left l.text)) ≡ after_stop (reverse l.text) (reverse l.text))

abbrev pub decreases-loop-left : goal.decreases-loop-left
decreases-loop-left l = l.left
