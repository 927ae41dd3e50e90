use Rattle.std.proofs.Common.{◌≡◌, ◌+◌, ◌<◌, ℕ, length, get_or}
use Rattle.std.specs.declared.vec.Vec.{Vec}
use Rattle.tn_alignment.specs.Tables.{IsRow, line_texts}
use Rattle.tn_alignment.proofs.rows.table_of.Given as goal

abbrev pub invariant-loop-at : goal.invariant-loop-at
invariant-loop-at g l = record {
  height : length l.table.items ≡ l.at + 1;
  rows : (i : ℕ) (d : Vec ℕ g.row.A.Denot) → i < l.at + 1 → IsRow (line_texts l.first) i (line_texts l.second) (get_or l.table.items i d).items;
}
