use Rattle.std.proofs.Common.{◌∷◌, ◌+◌, ◌==◌, ◌∙◌, ap, sym, take}
use Rattle.std.proofs.lemmas.List.{take_rest}
use Rattle.tn_formats.specs.Pieces.{pieces_apart}
use Rattle.tn_formats.proofs.SplitLemmas.{split_none, split_some}
use Rattle.tn_formats.proofs.picks.first_pick.Goals as goal

pub returns-in-None-clause-cut : goal.returns-in-None-clause-cut
returns-in-None-clause-cut c = split_none (λ b. b == 32) c.args.text.now (sym c.in-None.ensures)

pub returns-in-Some-clause-cut : goal.returns-in-Some-clause-cut
returns-in-Some-clause-cut c =
    split_some (λ b. b == 32) c.args.text.now c.in-Some.end (sym c.in-Some.ensures)
    ∙ ap (λ l. take c.in-Some.end c.args.text.now ∷ pieces_apart l) (sym (take_rest c.args.text.now (c.in-Some.end + 1)))
