-- The pieces of a text of moves, as the code has them.
use Rattle.std.specs.Prelude.{◌≡◌, ◌+◌, ◌<◌, ◌≤◌, ℕ, List, drop, length, false}
use Rattle.def_text.specs.Tokens.{gap_len}
use Rattle.def_moves.specs.Texts.{MovesPiece, after_gap, first_piece, piece_len}
use Rattle.tn_moves.specs.declared.piece.Piece.{Piece}

abbrev pub piece_seen : Piece → MovesPiece
piece_seen x = record { mover = x.mover.now; amount = x.amount.now }

-- the first piece after this offset of a text
pub record IsPieceAt (text : List ℕ) (at : ℕ) (x : Piece) : Type 0 where
  pub some : 0 < length (after_gap (drop at text))
  pub from : x.from ≡ at + gap_len false (drop at text)
  pub first : piece_seen x ≡ first_piece (after_gap (drop at text))
  pub fits : x.from + piece_len (piece_seen x) ≤ length text
