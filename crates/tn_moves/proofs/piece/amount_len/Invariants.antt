use Rattle.std.proofs.Common.{◌≡◌, ◌+◌, drop}
use Rattle.def_moves.specs.Texts.{amount_len}
use Rattle.tn_moves.proofs.piece.amount_len.Given as goal

abbrev pub invariant-loop-i : goal.invariant-loop-i
invariant-loop-i l = l.i + amount_len (drop l.i l.bytes) ≡ amount_len l.bytes
