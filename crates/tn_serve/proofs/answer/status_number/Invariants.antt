use Rattle.std.proofs.Common.{◌≡◌, ℕ, ◌<◌}
use Rattle.std.specs.Process.{exit_status}
use Rattle.tn_serve.proofs.answer.status_number.Given as goal

-- no number so far is the status
abbrev pub invariant-loop-number : goal.invariant-loop-number
invariant-loop-number l = (k : ℕ) → k < l.number → exit_status l.status ≡ k → ⊥
