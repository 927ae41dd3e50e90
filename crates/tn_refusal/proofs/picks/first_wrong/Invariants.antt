use Rattle.std.proofs.Common.{◌≤◌, ◌+◌}
use Rattle.tn_refusal.proofs.PickPieces.{PiecesSo}
use Rattle.tn_refusal.proofs.picks.first_wrong.Given as goal

abbrev pub invariant-loop-i : goal.invariant-loop-i
invariant-loop-i l = record {
  begun : l.from ≤ l.i;
  few : l.number ≤ l.i + 1;
  same : PiecesSo l.fn.text l.number l.from l.i;
}
