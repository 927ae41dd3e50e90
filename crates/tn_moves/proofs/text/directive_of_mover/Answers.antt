use Rattle.std.proofs.Common.{◌∙◌, ◌≡◌, false, codes, sym, ap, subst}
use Rattle.std.specs.Str.{bytes_eq}
use Rattle.tn_program.specs.Views.{program_of}
use Rattle.tn_moves.specs.Pieces.{piece_seen}
use Rattle.tn_moves.specs.Readings.{IsCountRead}
use Rattle.tn_moves.proofs.Readings.{no_directive}
use Rattle.tn_moves.proofs.text.directive_of_mover.Goals as goal

pub returns-in-None : goal.returns-in-None
returns-in-None g c =
    let amount = c.args.piece.now.amount.now in
    let other : bytes_eq amount (codes "!") ≡ false = ap (bytes_eq amount) (sym c.as_slice.ensures) ∙ sym c.eq.ensures ∙ c.if-eq.false in
    no_directive (program_of c.args.program.now) (piece_seen c.args.piece.now) c.requires other (subst (IsCountRead amount) c.in-None.is c.in_ok-count.ensures)
