use Rattle.std.proofs.Common.{◌≡◌, ◌+◌, drop, false}
use Rattle.def_moves.specs.Texts.{mover_len}
use Rattle.tn_moves.proofs.piece.mover_len.Given as goal

abbrev pub invariant-loop-i : goal.invariant-loop-i
invariant-loop-i l = l.i + mover_len l.inside l.escaped (drop l.i l.bytes) ≡ mover_len false false l.bytes
