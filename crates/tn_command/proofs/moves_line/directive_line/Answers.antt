use Rattle.std.proofs.Common.{◌≡◌, subst}
use Rattle.def_text.specs.Places.{LineColumn, place_at}
use Rattle.tn_command.specs.Notices.{IsDirectiveLine, piece_at, wrong_piece_seen}
use Rattle.tn_command.proofs.moves_line.directive_line.Goals as goal

pub returns : goal.returns
returns c =
    let script = c.args.script.bytes.now in
    let moves = c.args.moves.now in
    let place = c.line_column_of-place in
    let made : LineColumn = record { line = place.result.line; column = place.result.column } in
    let line = c.put_wrong_piece.new.line.items in
    let there : made ≡ place_at moves c.args.at = λ i. record { line = place.ensures.line i; column = place.ensures.column i } in
    subst (λ p. IsDirectiveLine script (piece_at moves c.args.at) p line) there
    (subst (λ x. IsDirectiveLine script x made line) c.piece_at-piece.ensures c.in_ok-put_wrong_piece.ensures)
