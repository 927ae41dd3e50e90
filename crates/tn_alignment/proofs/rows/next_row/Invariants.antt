use Rattle.std.proofs.Common.{◌≡◌, ◌+◌, ◌<◌, ℕ, length, get_or}
use Rattle.tn_alignment.specs.Tables.{back, line_texts, most_common}
use Rattle.tn_alignment.proofs.rows.next_row.Given as goal

-- the cells so far are right, and the last one is at hand
abbrev pub invariant-loop-place : goal.invariant-loop-place
invariant-loop-place g l = record {
  size : length l.row.items ≡ l.place + 1;
  cells : (k : ℕ) → k < l.place + 1 → get_or l.row.items k 0 ≡ most_common (back (line_texts l.first) (l.at + 1)) (back (line_texts l.second) k);
  last : l.left ≡ most_common (back (line_texts l.first) (l.at + 1)) (back (line_texts l.second) l.place);
}
