use Rattle.std.proofs.Common.{◌≡◌, ◌+◌, ℕ, length, get_or}
use Rattle.tn_alignment.proofs.rows.first_row.Given as goal

-- each cell so far is 0
abbrev pub invariant-loop-line : goal.invariant-loop-line
invariant-loop-line g l = (length l.row.items ≡ l._line-index + 1) × ((k : ℕ) → get_or l.row.items k 0 ≡ 0)
