use Rattle.tn_listing.proofs.PiecesLemmas.{pieces_none, pieces_some}
use Rattle.std.proofs.Common.{◌∷◌, ◌+◌, ◌∙◌, ap, sym, take}
use Rattle.std.proofs.lemmas.List.{take_rest}
use Rattle.tn_listing.specs.Pieces.{pieces}
use Rattle.tn_listing.proofs.picks.first_piece.Goals as goal

pub returns-in-None-clause-cut : goal.returns-in-None-clause-cut
returns-in-None-clause-cut c = pieces_none c.args.text.now (sym c.in-None.ensures)

pub returns-in-Some-clause-cut : goal.returns-in-Some-clause-cut
returns-in-Some-clause-cut c =
    pieces_some c.args.text.now c.in-Some.end (sym c.in-Some.ensures)
    ∙ ap (λ l. take c.in-Some.end c.args.text.now ∷ pieces l) (sym (take_rest c.args.text.now (c.in-Some.end + 1)))
