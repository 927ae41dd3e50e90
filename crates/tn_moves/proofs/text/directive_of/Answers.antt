use Rattle.std.proofs.Common.{◌∙◌, ◌≡◌, codes, true, sym, ap}
use Rattle.std.proofs.lemmas.Slice.Eq.{bytes_eq-Decides}
use Rattle.std.specs.Str.{bytes_eq}
use Rattle.tn_moves.proofs.Readings.{no_bytes}
use Rattle.tn_moves.proofs.text.directive_of.Goals as goal

pub returns-then-eq : goal.returns-then-eq
returns-then-eq g c =
    let amount = c.args.piece.now.amount.now in
    let same : bytes_eq amount (codes "*") ≡ true = ap (bytes_eq amount) (sym c.as_slice.ensures) ∙ sym c.eq.ensures ∙ c.if-eq.true in
    (no_bytes c.args.piece.now.mover.now (sym c.is_empty.ensures ∙ c.if-not-is_empty.false), (bytes_eq-Decides amount (codes "*")).0 same)
